-- A widening shortens the kept list, and what has left a value is more than bottom.
use Rattle.std.proofs.Common.{◌≡◌, inl, inr, ⊎_elim, ◌<◌, ◌≤◌, ℕ, suc, List, [], ◌∷◌, length, Option, Some, None, MatchOption, sym, ap, ◌∙◌, subst, subst₂, arith}
use Rattle.std.specs.Prelude.{◌^◌, All}
use Rattle.std.proofs.lemmas.List.Elements.{All-nil, All-cons}
use Rattle.std.proofs.lemmas.Bool.{cases_lt}
use Rattle.trop_theory.specs.Semiring.{Semiring, SemiringLaws}
use Rattle.trop_theory.specs.Vectors.{bottom}
use Rattle.trop_theory.specs.Numbers.{Numbering, NumericLaws}
use Rattle.trop_theory.specs.Inequalities.{Inequality, IsValidOn}
use Rattle.trop_theory.specs.Combinations.{IsCombination}
use Rattle.trop_theory.specs.StepList.{AreChosen}
use Rattle.trop_theory.proofs.StepLists.{length_chosen}
use Rattle.trop_cones.proofs.Operations.{join_has_second}
use Rattle.dom_theory.specs.Laws.{WidthLaws}
use Rattle.cone_reports.proofs.EdgeLists.{combined_none}
use Rattle.cone_domain.specs.Values.{Value, coordinates, cone_of, Describes, IsValue}
use Rattle.cone_domain.specs.Operations.{IsIncluded, IsJoin, IsBase, IsWidening}
use Rattle.cone_domain.specs.Polyhedra.{nothing, greatest_width, width_of, polyhedra}
use Rattle.cone_domain.proofs.Values.{value_cone}
use Rattle.cone_domain.proofs.Generated.{join_same, other_cone}

-- where nothing was dropped, each element was chosen
all_from_length : {X : Type 0} (P : X → Type 0) (xs ys : List X) → AreChosen P xs ys → length xs ≤ length ys → All P xs
all_from_length P [] ys h l = All-nil P
all_from_length P (x ∷ xs) ys (inl (p, (rest, e, h))) l =
    All-cons P x xs p (all_from_length P xs rest h (let k = ap length e in omega arith))
all_from_length P (x ∷ xs) ys (inr (d, h)) l = absurd (let k = length_chosen P xs ys h in omega arith)

bounded : {V : Type 0} (k : Option (List (Inequality V))) → width_of k ≤ greatest_width
bounded None = omega arith
bounded (Some list) = omega arith

small : greatest_width ≤ 2 ^ 32
small = omega arith

module _ {V : Type 0} {R : Semiring V} {N : Numbering V} {reversed : _} (laws : SemiringLaws R)
    (numbers : NumericLaws R N reversed) where
  -- what is kept of the list of a value that the next one leaves is shorter
  shorter : (v next : Value V) (base list : List (Inequality V)) → IsValue R v → IsValue R next → v.vars ≡ next.vars
      → (IsIncluded R next v → ⊥) → v.kept ≡ Some base → AreChosen (IsValidOn R (cone_of R next)) base list
      → length list < length base
  shorter v next base list h hn vars leaves e chosen =
      ⊎_elim (λ l. l) (λ l. absurd (leaves (inside l))) (cases_lt (length list) (length base))
    where
      d : Describes R v base
      d = subst (λ k. MatchOption k (Unit {0}) (Describes R v)) e h.described

      inside : length base ≤ length list → IsIncluded R next v
      inside l x c = (d.same x).0 (record {
        wide = (other_cone laws v next vars hn).wide x c;
        holds = λ k p i. all_from_length (IsValidOn R (cone_of R next)) base list chosen l k p i x c;
      })

  falls_by : (v next w : Value V) → (h : IsWidening R v next w) → IsBase R v h.is_kept.base
      → width_of w.kept < width_of v.kept
  falls_by v next w h (inl e) =
      let l = shorter v next h.is_kept.base h.list h.value h.next_value h.same_vars h.leaves e h.is_kept.chosen in
      let f = h.few in
      subst₂ (λ a b. width_of a < width_of b) (sym h.kept_are) (sym e) (omega arith)
  falls_by v next w h (inr (e, x)) =
      let f = h.few in
      subst₂ (λ a b. width_of a < width_of b) (sym h.kept_are) (sym e) (omega arith)

  -- bottom has only the vector bottom
  only_bottom : (n : ℕ) (rows : List (List V)) (x : List V) → rows ≡ [] → IsCombination R (suc n) rows x
      → x ≡ bottom R (suc n)
  only_bottom n rows x e c = let k = subst (λ r. IsCombination R (suc n) r x) e c in
      k.is_sum ∙ combined_none laws numbers n k.coefficients

  joined : (v other w : Value V) → IsJoin R v other w → (IsIncluded R other v → ⊥) → w ≡ nothing w.vars → ⊥
  joined v other w h leaves e = leaves (λ x c.
      let in_join = (join_same laws v other w h x).0
      (join_has_second laws (coordinates v) (cone_of R v) (cone_of R other) (value_cone laws v h.value)
      (other_cone laws v other h.same_vars h.other_value) x c) in
      let is = only_bottom w.vars w.rows x (ap (λ (u : Value V). u.rows) e) in_join in
      subst (cone_of R v) (sym (is ∙ ap (λ m. bottom R (suc m)) h.gives.vars_are)) (value_cone laws v h.value).bottom)

  widened : (v next w : Value V) → IsWidening R v next w → w ≡ nothing w.vars → ⊥
  widened v next w h e = let k : Some h.list ≡ None = sym h.kept_are ∙ ap (λ (u : Value V). u.kept) e in cc

  pub polyhedra_widths : (most : ℕ) → WidthLaws (polyhedra R N reversed) most
  polyhedra_widths most = record {
    bounded = λ v. bounded v.kept;
    small = λ n l. small;
    falls = λ v next w h. falls_by v next w h h.is_kept.is_base;
    joined = joined;
    widened = widened;
  }
