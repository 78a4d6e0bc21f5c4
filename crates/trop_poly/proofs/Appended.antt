-- The bounds of one coordinate after another.
use Rattle.std.proofs.Common.{◌≡◌, ◌≢◌, ◌<◌, ◌≤◌, ◌+◌, ℕ, suc, List, [], ◌∷◌, ◌++◌, length, map, take, get_or, sym, ap, ◌∙◌, refl, arith, subst}
use Rattle.std.proofs.lemmas.List.{take_more, map_push, append_assoc}
use Rattle.trop_theory.specs.Semiring.{Semiring}
use Rattle.trop_theory.specs.Vectors.{entry}
use Rattle.trop_theory.specs.Inequalities.{Inequality}
use Rattle.trop_theory.specs.Canonical.{IsCanonical}
use Rattle.trop_theory.specs.StepList.{AreChosen}
use Rattle.trop_theory.proofs.StepLists.{chosen_push, chosen_skip}
use Rattle.trop_duality.specs.Polars.{InPolar}
use Rattle.trop_duality.specs.External.{bound_of, IsExternalUpTo}
use Rattle.trop_theory.specs.Semiring.{SemiringLaws}
use Rattle.trop_theory.specs.Combinations.{IsCombination}
use Rattle.trop_theory.specs.Canonical.{row_limit}
use Rattle.trop_duality.specs.PolarStops.{IsPolarOver, IsPolarStop}
use Rattle.trop_duality.proofs.PolarStops.{NoneBefore, none_before_through, list_over_is_long, IsPolarStop-polar, IsPolarStop-list}
use Rattle.trop_poly.specs.declared.error.PolyErr.{PolyErr}
use Rattle.trop_poly.specs.declared.error.PolyErr.TheVariants.{Rows, Polar, NoMemory}
use Rattle.trop_poly.specs.Bounds.{AreAppended}
use Rattle.trop_poly.specs.Refusals.{IsPolarRefusal, IsExternalRefusal}

module _ {V : Type 0} (R : Semiring V) (i : ℕ) (polar : List (List V)) (old : List (Inequality V)) where
  more : (k : ℕ) (row : List V) → k < length polar → row ≡ get_or polar k row →
      take (k + 1) polar ≡ take k polar ++ row ∷ []
  more k row l e = take_more polar k row l ∙ ap (λ r. take k polar ++ r ∷ []) (sym e)

  pub appended_more : (k : ℕ) (row : List V) (now next : List (Inequality V)) → k < length polar →
      row ≡ get_or polar k row → entry R row i ≢ R.zero → AreAppended R i (take k polar) old now →
      next ≡ now ++ bound_of R i row ∷ [] → AreAppended R i (take (k + 1) polar) old next
  appended_more k row now next l e f h p = record {
    finite = h.finite ++ row ∷ [];
    chosen = subst (λ xs. AreChosen (λ u. entry R u i ≢ R.zero) xs (h.finite ++ row ∷ [])) (sym (more k row l e))
        (chosen_push (λ u. entry R u i ≢ R.zero) (take k polar) h.finite row h.chosen f);
    appended = p ∙ ap (λ s. s ++ bound_of R i row ∷ []) h.appended ∙ append_assoc old (map (bound_of R i) h.finite)
        (bound_of R i row ∷ []) ∙ ap (λ s. old ++ s) (sym (map_push (bound_of R i) h.finite row));
  }

  pub appended_skip : (k : ℕ) (row : List V) (now next : List (Inequality V)) → k < length polar →
      row ≡ get_or polar k row → entry R row i ≡ R.zero → AreAppended R i (take k polar) old now → next ≡ now →
      AreAppended R i (take (k + 1) polar) old next
  appended_skip k row now next l e z h p = record {
    finite = h.finite;
    chosen = subst (λ xs. AreChosen (λ u. entry R u i ≢ R.zero) xs h.finite) (sym (more k row l e))
        (chosen_skip (λ u. entry R u i ≢ R.zero) (take k polar) h.finite row h.chosen (λ f. f z));
    appended = p ∙ h.appended;
  }

module _ {V : Type 0} (R : Semiring V) (n : ℕ) (cone : List V → Type 0) where
  pub up_to_more : (i : ℕ) (polar : List (List V)) (old new : List (Inequality V)) → IsExternalUpTo R n cone i old →
      IsCanonical R (InPolar R n cone i) polar → AreAppended R i polar old new → IsExternalUpTo R n cone (suc i) new
  up_to_more i polar old new h c b = (
    old,
    map (bound_of R i) b.finite,
    b.appended,
    h,
    record { polar = polar; finite = b.finite; canonical = c; chosen = b.chosen; read = refl },
  )

module _ {V : Type 0} {R : Semiring V} (laws : SemiringLaws R) (n : ℕ) (rows : List (List V)) where
  pub refusal_stops : (i : ℕ) (err : PolyErr) → NoneBefore R n rows i 1 → i < n → IsPolarRefusal R n rows i err →
      IsExternalRefusal R n rows err
  refusal_stops i (Rows k) none l h = absurd h
  refusal_stops i NoMemory none l h = tt
  refusal_stops i (Polar j k) none l h = subst (λ a. IsPolarStop R n rows a k) (sym h.0)
      (IsPolarStop-polar R n rows i k none l h.1 h.2 h.3 h.4)

  pub up_to_next : (i : ℕ) (polar : List (List V)) (old new : List (Inequality V)) →
      IsExternalUpTo R n (IsCombination R n rows) i old → IsCanonical R (InPolar R n (IsCombination R n rows) i) polar →
      AreAppended R i polar old new → IsExternalUpTo R n (IsCombination R n rows) (i + 1) new
  up_to_next i polar old new h c b = let e : suc i ≡ i + 1 = omega arith in
      subst (λ m. IsExternalUpTo R n (IsCombination R n rows) m new) e
      (up_to_more R n (IsCombination R n rows) i polar old new h c b)

  pub none_next : (i : ℕ) (polar : List (List V)) (old new : List (Inequality V)) →
      IsExternalUpTo R n (IsCombination R n rows) i old → IsCanonical R (InPolar R n (IsCombination R n rows) i) polar →
      AreAppended R i polar old new → NoneBefore R n rows i 1 →
      ((k : ℕ) → k ≤ length rows → IsPolarOver R n rows i k → ⊥) → length new ≤ row_limit →
      NoneBefore R n rows (i + 1) 1
  none_next i polar old new h c b none within few =
      none_before_through R n rows i none (λ l p q. within l q)
      (λ over. let many = (list_over_is_long laws n rows i new
      (up_to_more R n (IsCombination R n rows) i polar old new h c b)).0 over in absurd (omega arith))

  pub list_stops : (i : ℕ) (polar : List (List V)) (old new : List (Inequality V)) →
      IsExternalUpTo R n (IsCombination R n rows) i old → IsCanonical R (InPolar R n (IsCombination R n rows) i) polar →
      AreAppended R i polar old new → NoneBefore R n rows i 1 →
      ((k : ℕ) → k ≤ length rows → IsPolarOver R n rows i k → ⊥) → i < n → n ≤ row_limit → row_limit < length new →
      IsPolarStop R n rows i (length rows)
  list_stops i polar old new h c b none within l few many =
      IsPolarStop-list laws n rows few i none l within
      (record { bounds = new; up_to = up_to_more R n (IsCombination R n rows) i polar old new h c b; many = many })
