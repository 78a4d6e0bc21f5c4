-- No row of a canonical list is a combination of the others.
use Rattle.std.proofs.Common.{◌≡◌, ◌+◌, ◌<◌, ℕ, List, length, ⊎_elim, sym, ◌∙◌, subst, get_or, arith}
use Rattle.std.specs.Prelude.{All, AllPairs, Contains, remove}
use Rattle.std.proofs.lemmas.Bool.{cases_lt}
use Rattle.std.proofs.lemmas.List.{get_or_default}
use Rattle.std.proofs.lemmas.List.Edits.{get_or-remove_below, get_or-remove_above, length-remove}
use Rattle.trop_theory.specs.Semiring.{Semiring, SemiringLaws}
use Rattle.trop_theory.specs.Normal.{IsNormal}
use Rattle.trop_theory.specs.Combinations.{IsCombination, AreIndependent}
use Rattle.trop_theory.specs.Canonical.{RowBelow, IsCanonical}
use Rattle.trop_theory.proofs.Distinct.{row_below_itself}
use Rattle.trop_theory.proofs.Canonical.{Contains-extreme, IsExtreme-same, IsCombination-remove}
use Rattle.plain_lemmas.proofs.Lists.{All-remove}

module _ {V : Type 0} {R : Semiring V} (laws : SemiringLaws R) (n : ℕ) where
  -- a row of an ascending list is not among the others
  not_twice : (rows : List (List V)) (j : ℕ) (y : List V) → AllPairs (RowBelow R) rows → j < length rows →
      get_or rows j y ≡ y → Contains (remove rows j) y → ⊥
  not_twice rows j y ascending l here (k, m, e) = ⊎_elim
      (λ below. itself (subst (λ a. RowBelow R a y) (sym (get_or-remove_below rows j y k below l) ∙ e)
      (subst (RowBelow R (get_or rows k y)) here (ascending k j y below l))))
      (λ above. itself (subst (RowBelow R y) (sym (get_or-remove_above rows j y k above l) ∙ e)
      (subst (λ a. RowBelow R a (get_or rows (k + 1) y)) here
      (ascending j (k + 1) y (omega arith) (omega (arith, length-remove rows j l))))))
      (cases_lt k j)
    where
      itself : RowBelow R y y → ⊥
      itself = row_below_itself R y

  pub independent : (rows : List (List V)) → All (λ g. length g ≡ n) rows →
      IsCanonical R (IsCombination R n rows) rows → AreIndependent R n rows (length rows)
  independent rows wide h j d l c =
      let same = IsCombination-remove laws n rows j d wide l c in
      let y = get_or rows j d in
      let extreme = IsExtreme-same (IsCombination R n rows) (IsCombination R n (remove rows j)) same y
      (h.extreme j d l) in
      let there = Contains-extreme laws n (remove rows j) y (All-remove (λ g. length g ≡ n) rows j wide)
      (All-remove (IsNormal R) rows j h.normal) (h.normal j d l) extreme in
      not_twice rows j y h.ascending l (get_or_default rows j y d l) there
