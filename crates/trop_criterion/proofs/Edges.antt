-- Reaching by the listed hyperedges of a system is reaching by its inequalities.
use Rattle.std.proofs.Common.{ℕ, Bool, List, [], ◌∷◌, sym, subst, ◌++◌, refl, ap, ◌∙◌}
use Rattle.std.specs.Prelude.{◌↔◌, All, Option, Some, None, filter_map}
use Rattle.std.specs.List.{AllZip}
use Rattle.std.proofs.lemmas.List.Elements.{filter_map-append, All-nil, All-cons, All-head, All-tail}
use Rattle.trop_theory.specs.Semiring.{Semiring}
use Rattle.trop_theory.specs.Inequalities.{Inequality}
use Rattle.trop_criterion.specs.Hypergraphs.{Hyperedge, Keeps, Reaches}
use Rattle.trop_criterion.specs.Tangents.{TangentEdge, IsTangentOf, AreTangents}
use Rattle.trop_criterion.proofs.Reaching.{KeepsTangent, TangentReaches}

module _ {V : Type 0} (R : Semiring V) (x : List V) where
  pub KeepsTangent-edge : (set : ℕ → Bool) (p : Inequality V) (edge : Hyperedge) → TangentEdge R p x edge →
      Keeps set edge ↔ KeepsTangent R x set p
  KeepsTangent-edge set p edge e = (
    λ keeps tight tail i h. keeps (λ j g. tail j ((e.tail j).0 g)) i ((e.head i).1 h),
    λ keeps tail i h. keeps e.tight (λ j g. tail j ((e.tail j).1 g)) i ((e.head i).0 h),
  )

  pub KeepsTangent-none : (set : ℕ → Bool) (p : Inequality V) → IsTangentOf R x p None → KeepsTangent R x set p
  KeepsTangent-none set p none tight = absurd (none tight)

  abbrev some_of : List (Option Hyperedge) → List Hyperedge
  some_of each = filter_map (λ edge. edge) each

  there : (set : ℕ → Bool) (system : List (Inequality V)) (each : List (Option Hyperedge)) →
      AllZip (IsTangentOf R x) system each → All (Keeps set) (some_of each) → All (KeepsTangent R x set) system
  there set [] each h keeps = All-nil (KeepsTangent R x set)
  there set (p ∷ system) [] h keeps = absurd h
  there set (p ∷ system) (None ∷ each) h keeps = All-cons (KeepsTangent R x set) p system (KeepsTangent-none set p h.0)
      (there set system each h.1 keeps)
  there set (p ∷ system) (Some edge ∷ each) h keeps =
      All-cons (KeepsTangent R x set) p system
      ((KeepsTangent-edge set p edge h.0).0 (All-head (Keeps set) edge (some_of each) keeps))
      (there set system each h.1 (All-tail (Keeps set) edge (some_of each) keeps))

  back : (set : ℕ → Bool) (system : List (Inequality V)) (each : List (Option Hyperedge)) →
      AllZip (IsTangentOf R x) system each → All (KeepsTangent R x set) system → All (Keeps set) (some_of each)
  back set [] [] h keeps = All-nil (Keeps set)
  back set [] (e ∷ each) h keeps = absurd h
  back set (p ∷ system) [] h keeps = absurd h
  back set (p ∷ system) (None ∷ each) h keeps = back set system each h.1
      (All-tail (KeepsTangent R x set) p system keeps)
  back set (p ∷ system) (Some edge ∷ each) h keeps =
      All-cons (Keeps set) edge (some_of each)
      ((KeepsTangent-edge set p edge h.0).1 (All-head (KeepsTangent R x set) p system keeps))
      (back set system each h.1 (All-tail (KeepsTangent R x set) p system keeps))

  pub Reaches-tangents : (system : List (Inequality V)) (edges : List Hyperedge) → AreTangents R system x edges →
      (u v : ℕ) → Reaches edges u v ↔ TangentReaches R system x u v
  Reaches-tangents system edges h u v = (
    λ reaches set here keeps. reaches set here (subst (All (Keeps set)) (sym h.listed)
        (back set system h.each h.given keeps)),
    λ reaches set here keeps. reaches set here (there set system h.each h.given
        (subst (All (Keeps set)) h.listed keeps)),
  )

AllZip-last : {A B : Type 0} (P : A → B → Type 0) (xs : List A) (ys : List B) (x : A) (y : B) → AllZip P xs ys → P x y →
    AllZip P (xs ++ x ∷ []) (ys ++ y ∷ [])
AllZip-last P [] [] x y h p = (p, tt)
AllZip-last P [] (b ∷ ys) x y h p = absurd h
AllZip-last P (a ∷ xs) [] x y h p = absurd h
AllZip-last P (a ∷ xs) (b ∷ ys) x y h p = (h.0, AllZip-last P xs ys x y h.1 p)

module _ {V : Type 0} (R : Semiring V) (x : List V) where
  -- the hyperedges of more inequalities, one after another
  pub AreTangents-nil : AreTangents R [] x []
  AreTangents-nil = record { each = []; given = tt; listed = refl }

  pub AreTangents-more : (system : List (Inequality V)) (edges : List Hyperedge) (p : Inequality V)
      (e : Option Hyperedge) → AreTangents R system x edges → IsTangentOf R x p e →
      AreTangents R (system ++ p ∷ []) x (edges ++ filter_map (λ edge. edge) (e ∷ []))
  AreTangents-more system edges p e h given = record {
    each = h.each ++ e ∷ [];
    given = AllZip-last (IsTangentOf R x) system h.each p e h.given given;
    listed = ap (λ es. es ++ filter_map (λ edge. edge) (e ∷ [])) h.listed
        ∙ sym (filter_map-append (λ edge. edge) h.each (e ∷ []));
  }
