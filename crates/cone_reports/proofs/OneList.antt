-- An edge makes one list of a list of rows.
use Rattle.std.proofs.Common.{◌≡◌, inl, inr, ℕ, Bool, List, [], ◌∷◌, ◌++◌, length, sym, ap, ◌∙◌, refl, subst, subst₂, ap₂}
use Rattle.std.specs.Prelude.{Any}
use Rattle.std.specs.List.{AllZip}
use Rattle.trop_theory.specs.Semiring.{Semiring, SemiringLaws}
use Rattle.trop_theory.specs.Vectors.{scaled, bottom, entry}
use Rattle.trop_theory.specs.Numbers.{Numbering}
use Rattle.trop_theory.specs.Normal.{Normalises}
use Rattle.trop_theory.specs.Inequalities.{Inequality, IsTrueAt}
use Rattle.trop_theory.specs.Steps.{mixed}
use Rattle.trop_theory.specs.StepList.{AreMixedOf, AreMixed, IsStepList}
use Rattle.trop_theory.proofs.Rows.{scaled-scaled}
use Rattle.trop_theory.proofs.Canonical.{same_from_multiple}
use Rattle.trop_theory.proofs.StepLists.{chosen_unique}
use Rattle.trop_theory.proofs.Generation.{undo_normal}
use Rattle.prog_theory.specs.Edges.{Op, Skips, Sets, Havocs, Guards}
use Rattle.cone_reports.specs.Sides.{guard_inequality}
use Rattle.cone_reports.specs.EdgeLists.{AreNormalised, unit_row, IsMovedList, IsEdgeList}

zip_unique : {X Y : Type 0} (Q : X → Y → Type 0) → ((x : X) (y z : Y) → Q x y → Q x z → y ≡ z)
    → (xs : List X) (ys zs : List Y) → AllZip Q xs ys → AllZip Q xs zs → ys ≡ zs
zip_unique Q one [] [] [] h g = refl
zip_unique Q one [] [] (z ∷ zs) h g = absurd g
zip_unique Q one [] (y ∷ ys) zs h g = absurd h
zip_unique Q one (x ∷ xs) [] zs h g = absurd h
zip_unique Q one (x ∷ xs) (y ∷ ys) [] h g = absurd g
zip_unique Q one (x ∷ xs) (y ∷ ys) (z ∷ zs) h g =
    ap₂ (λ a as'. a ∷ as') (one x y z h.0 g.0) (zip_unique Q one xs ys zs h.1 g.1)

module _ {V : Type 0} {R : Semiring V} (laws : SemiringLaws R) where
  -- a vector has one normal form
  pub normal_unique : (x y z : List V) → Normalises R x y → Normalises R x z → y ≡ z
  normal_unique x y z h g =
      same_from_multiple laws (length y) y z (R.times h.factor (R.inverse g.factor)) h.normal g.normal
      (h.multiple ∙ ap (scaled R h.factor) (sym (undo_normal laws x z g))
      ∙ scaled-scaled laws h.factor (R.inverse g.factor) z)

  normalised_unique : (rows xs ys : List (List V)) → AreNormalised R rows xs → AreNormalised R rows ys → xs ≡ ys
  normalised_unique rows xs ys h g =
      let f = chosen_unique (λ x. (x ≡ bottom R (length x)) → ⊥) rows h.finite g.finite h.chosen g.chosen in
      zip_unique (Normalises R) normal_unique h.finite xs ys h.each
      (subst (λ l. AllZip (Normalises R) l ys) (sym f) g.each)

  mixed_of_unique : (p : Inequality V) (dropped : List (List V)) (v : List V) (xs ys : List (List V))
      → AreMixedOf R p dropped v xs → AreMixedOf R p dropped v ys → xs ≡ ys
  mixed_of_unique p dropped v xs ys (inl h) (inl g) = h.1 ∙ sym g.1
  mixed_of_unique p dropped v xs ys (inl h) (inr g) = absurd (g.0 h.0)
  mixed_of_unique p dropped v xs ys (inr h) (inl g) = absurd (h.0 g.0)
  mixed_of_unique p dropped v xs ys (inr h) (inr g) =
      zip_unique (λ w x. Normalises R (mixed R p.left p.right v w) x)
      (λ w x y a b. normal_unique (mixed R p.left p.right v w) x y a b) dropped xs ys h.1 g.1

  mixed_unique : (p : Inequality V) (dropped kept xs ys : List (List V)) → AreMixed R p dropped kept xs
      → AreMixed R p dropped kept ys → xs ≡ ys
  mixed_unique p dropped [] xs ys h g = h ∙ sym g
  mixed_unique p dropped (v ∷ kept) xs ys h g =
      h.2 ∙ ap₂ (λ a b. a ++ b) (mixed_of_unique p dropped v h.0 g.0 h.3 g.3)
      (mixed_unique p dropped kept h.1 g.1 h.4 g.4) ∙ sym g.2

  pub step_list_unique : (p : Inequality V) (rows xs ys : List (List V)) → IsStepList R p rows xs
      → IsStepList R p rows ys → xs ≡ ys
  step_list_unique p rows xs ys h g =
      let kept = chosen_unique (IsTrueAt R p) rows h.kept g.kept h.are_kept g.are_kept in
      let dropped = chosen_unique (λ w. IsTrueAt R p w → ⊥) rows h.dropped g.dropped h.are_dropped g.are_dropped in
      let fresh = mixed_unique p h.dropped h.kept h.fresh g.fresh h.are_fresh
      (subst₂ (λ d k. AreMixed R p d k g.fresh) (sym dropped) (sym kept) g.are_fresh) in
      h.in_order ∙ ap₂ (λ a b. a ++ b) kept fresh ∙ sym g.in_order

module _ {V : Type 0} {R : Semiring V} (laws : SemiringLaws R) (N : Numbering V) (reversed : Bool) (n : ℕ) where
  moved_unique : (op : Op) (rows xs ys : List (List V)) → IsMovedList R N reversed n op rows xs
      → IsMovedList R N reversed n op rows ys → xs ≡ ys
  moved_unique Skips rows xs ys h g = h ∙ sym g
  moved_unique (Sets i t) rows xs ys h g = normalised_unique laws _ xs ys h g
  moved_unique (Havocs i) rows xs ys h g = h.2
      ∙ ap (λ l. l ++ unit_row R n i ∷ []) (normalised_unique laws _ h.0 g.0 h.1 g.1) ∙ sym g.2
  moved_unique (Guards l r) rows xs ys h g = step_list_unique laws (guard_inequality R N reversed n l r) rows xs ys h g

  -- an edge has one list
  pub edge_list_unique : (op : Op) (rows xs ys : List (List V)) → IsEdgeList R N reversed n op rows xs
      → IsEdgeList R N reversed n op rows ys → xs ≡ ys
  edge_list_unique op rows xs ys (a, h, inl p) (b, g, inl q) = p.1 ∙ moved_unique op rows a b h g ∙ sym q.1
  edge_list_unique op rows xs ys (a, h, inl p) (b, g, inr q) =
      absurd (q.0 (subst (λ l. Any (λ v. (entry R v 0 ≡ R.zero) → ⊥) l) (moved_unique op rows a b h g) p.0))
  edge_list_unique op rows xs ys (a, h, inr p) (b, g, inl q) =
      absurd (p.0 (subst (λ l. Any (λ v. (entry R v 0 ≡ R.zero) → ⊥) l) (sym (moved_unique op rows a b h g)) q.0))
  edge_list_unique op rows xs ys (a, h, inr p) (b, g, inr q) = p.1 ∙ sym q.1
