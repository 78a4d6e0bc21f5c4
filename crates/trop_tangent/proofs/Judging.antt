-- Types and extremality from what is reached.
use Rattle.std.proofs.Common.{◌≡◌, ◌≢◌, ◌<◌, ◌^◌, ◌∙◌, ℕ, Bool, true, false, not, zero, suc, List, length, sym, ap, ⊎_elim, refl, true≢false}
use Rattle.std.specs.Prelude.{◌↔◌, All, IsTrue, MatchOption, Option, Some, None, is_some}
use Rattle.std.proofs.lemmas.Bool.{cases_lt}
use Rattle.std.proofs.lemmas.List.{get_or_past}
use Rattle.trop_theory.specs.Semiring.{Semiring, SemiringLaws}
use Rattle.trop_theory.specs.Vectors.{entry, bottom}
use Rattle.trop_theory.specs.Inequalities.{Inequality, IsIn, Solves}
use Rattle.trop_theory.specs.Extreme.{IsExtreme, IsType}
use Rattle.trop_theory.proofs.Rows.{same_rows, entry-bottom}
use Rattle.trop_criterion.specs.Hypergraphs.{Has, Hypergraph, IsGreatest}
use Rattle.trop_criterion.specs.Tangents.{AreTangents}
use Rattle.trop_criterion.proofs.Reaching.{IsReachedFromAll}
use Rattle.plain_lemmas.proofs.Decisions.{some_below, decide_not, stable}
use Rattle.trop_hyper.proofs.Words.{some_member}
use Rattle.trop_criterion.proofs.Edges.{Reaches-tangents}
use Rattle.trop_criterion.proofs.Criterion.{type_is_reached, extreme_is_reached}
use Rattle.trop_tangent.proofs.Attained.{IsFinite}

-- whether a property holds that holds exactly where a set has a member
pub holds_where_some : (P : Type 0) (set : ℕ) (none : Bool) → P ↔ ((t : ℕ) × Has set t) →
    (IsTrue none ↔ ((i : ℕ) → Has set i → ⊥)) → IsTrue (not none) ↔ P
holds_where_some P set true h empty = (
  λ e. cc,
  λ p. let t = h.0 p in absurd (empty.0 refl t.0 t.1),
)
holds_where_some P set false h empty = (
  λ e. h.1 (some_member set (λ none. cc (empty.1 none))),
  λ p. refl,
)

module _ {V : Type 0} {R : Semiring V} (laws : SemiringLaws R) (n : ℕ) (system : List (Inequality V)) (x : List V)
    (inside : All (IsIn n) system) (solves : Solves R n system x) where
  pub types_from_reached : (set : ℕ) → ((t : ℕ) → Has set t ↔ IsReachedFromAll R system x t) → (t : ℕ) → Has set t ↔
      IsType R (Solves R n system) x t
  types_from_reached set h t =
      let same = type_is_reached laws n system x inside solves t in
      (λ g. same.1 ((h t).0 g), λ g. (h t).1 (same.0 g))

  pub extreme_where_some : (set : ℕ) → ((t : ℕ) → Has set t ↔ IsReachedFromAll R system x t) →
      IsExtreme R (Solves R n system) x ↔ ((t : ℕ) × Has set t)
  extreme_where_some set h =
      let same = extreme_is_reached laws n system x inside solves in
      (λ e. let t = same.0 e in (t.0, (h t.0).1 t.1), λ t. same.1 (t.0, (h t.0).0 t.1))

  greatest_is_reached : (graph : Hypergraph) → AreTangents R system x graph.edges →
      ((i : ℕ) → Has graph.nodes i ↔ IsFinite R x i) → (t : ℕ) → IsGreatest graph t ↔ IsReachedFromAll R system x t
  greatest_is_reached graph edges nodes t = (
    λ g. record {
      finite = (nodes t).0 g.node;
      reached = λ u f. (Reaches-tangents R x system graph.edges edges u t).0
          (g.reached u ((nodes u).1 f));
    },
    λ g. record {
      node = (nodes t).1 g.finite;
      reached = λ u h. (Reaches-tangents R x system graph.edges edges u t).1
          (g.reached u ((nodes u).0 h));
    },
  )

  module _ (graph : Hypergraph) (edges : AreTangents R system x graph.edges)
      (nodes : (i : ℕ) → Has graph.nodes i ↔ IsFinite R x i) where
    -- what is reached from every node of the tangent hypergraph, as one set
    pub reached_none : (none : ℕ) → ((t : ℕ) → IsGreatest graph t → ⊥) → ((t : ℕ) → Has none t → ⊥) → (t : ℕ) →
        Has none t ↔ IsReachedFromAll R system x t
    reached_none none apart empty t = (
      λ h. absurd (empty t h),
      λ r. absurd
          (apart t ((greatest_is_reached graph edges nodes t).1 r)),
    )

    pub reached_some : (found : ℕ) → ((t : ℕ) → Has found t ↔ IsGreatest graph t) → (t : ℕ) → Has found t ↔
        IsReachedFromAll R system x t
    reached_some found all t =
        let same = greatest_is_reached graph edges nodes t in
        (λ h. same.0 ((all t).0 h), λ r. (all t).1 (same.1 r))

  -- a row that is not bottom has a finite entry
  pub some_finite : (x ≢ bottom R n) → (u : ℕ) × IsFinite R x u
  some_finite f =
      ⊎_elim
      (λ s. (s.0, s.2))
      (λ none. absurd (f (same_rows R x (bottom R n) (solves.wide ∙ sym (length-bottom n))
      (λ i. ⊎_elim (λ l. stable (laws.discrete (entry R x i) (entry R (bottom R n) i))
      (λ g. none i l (λ z. g (z ∙ sym (entry-bottom R n i)))))
      (λ l. get_or_past x i R.zero l ∙ sym (entry-bottom R n i)) (cases_lt i (length x))))))
      (some_below (IsFinite R x) (λ i. decide_not (laws.discrete (entry R x i) R.zero)) (length x))
    where
      length-bottom : (m : ℕ) → length (bottom R m) ≡ m
      length-bottom zero = refl
      length-bottom (suc m) = ap suc (length-bottom m)
