-- Taking out the rows that the others give.
use Rattle.std.proofs.Common.{◌≡◌, ◌<◌, ◌≤◌, ◌+◌, ◌^◌, ℕ, suc, List, [], length, get_or, sym, ap, ◌∙◌, arith, subst, ⊎_elim}
use Rattle.std.specs.Prelude.{All, AllPairs, remove, ◌↔◌}
use Rattle.std.proofs.lemmas.Bool.{cases_lt}
use Rattle.std.proofs.lemmas.List.Edits.{get_or-remove_above, length-remove}
use Rattle.std.proofs.lemmas.List.Quantifiers.{all_pairs_remove}
use Rattle.trop_theory.specs.Semiring.{Semiring, SemiringLaws}
use Rattle.trop_theory.specs.Vectors.{rows_size, AreWide}
use Rattle.trop_theory.specs.Normal.{IsNormal}
use Rattle.trop_theory.specs.Combinations.{IsCombination}
use Rattle.trop_theory.specs.Canonical.{RowBelow}
use Rattle.trop_theory.proofs.Canonical.{All-IsCombination, IsCombination-least, IsCombination-remove}
use Rattle.plain_lemmas.proofs.Lists.{remove-remove, All-remove}
use Rattle.trop_row.proofs.Sizes.{rows_size-remove}

-- what stays while rows are taken out from the last on: those from k on are no combinations of the others
pub record IsThinned {V : Type 0} (R : Semiring V) (n : ℕ) (start rows : List (List V)) (k : ℕ) : Type 0 where
  pub wide : AreWide n rows
  pub sizes : rows_size R rows ≤ 2 ^ 60
  pub normal : All (IsNormal R) rows
  pub ascending : AllPairs (RowBelow R) rows
  pub independent : (j : ℕ) (d : List V) → k ≤ j → j < length rows →
      IsCombination R n (remove rows j) (get_or rows j d) → ⊥
  pub same : (x : List V) → IsCombination R n start x ↔ IsCombination R n rows x
  pub fewer : length rows ≤ length start
  pub within : k ≤ length rows

module _ {V : Type 0} {R : Semiring V} (laws : SemiringLaws R) (n : ℕ) where
  -- a row that no others give stays so where an earlier row goes
  alone_moved : (rows : List (List V)) (j k : ℕ) (d : List V) → All (λ row. length row ≡ n) rows → k ≤ j →
      k < length rows → (IsCombination R n (remove rows (suc j)) (get_or rows (suc j) d) → ⊥) →
      IsCombination R n (remove (remove rows k) j) (get_or (remove rows k) j d) → ⊥
  alone_moved rows j k d w kj l alone h =
      let others = remove rows (suc j) in
      let others_wide : All (λ row. length row ≡ n) others = All-remove (λ row. length row ≡ n) rows (suc j) w in
      let next : j + 1 ≡ suc j = omega arith in
      let moved : IsCombination R n (remove others k) (get_or rows (suc j) d) =
      subst (λ v. IsCombination R n v (get_or rows (suc j) d)) (sym (remove-remove rows k j kj))
      (subst (IsCombination R n (remove (remove rows k) j)) (get_or-remove_above rows k d j kj l ∙
      ap (λ i. get_or rows i d) next) h) in
      alone (IsCombination-least laws n (remove others k) others (get_or rows (suc j) d) others_wide
      (All-remove (IsCombination R n others) others k (All-IsCombination laws n others others_wide)) moved)

  pub kept_remove : (start rows new : List (List V)) (k m : ℕ) → IsThinned R n start rows m → m ≡ k + 1 →
      ((d : List V) → IsCombination R n (remove rows k) (get_or rows k d)) → new ≡ remove rows k →
      IsThinned R n start new k
  kept_remove start rows new k m h em c e = subst (λ v. IsThinned R n start v k) (sym e) (record {
    wide = All-remove (λ row. length row ≡ n) rows k h.wide;
    sizes = rows_size-remove R rows k (2 ^ 60) h.sizes;
    normal = All-remove (IsNormal R) rows k h.normal;
    ascending = all_pairs_remove (RowBelow R) rows k here h.ascending;
    independent = λ j d q l. alone_moved rows j k d h.wide q here
        (h.independent (suc j) d (omega arith) (omega (arith, length-remove rows k here)));
    same = λ x. let both : IsCombination R n rows x ↔ IsCombination R n (remove rows k) x =
        IsCombination-remove laws n rows k [] h.wide here (c []) x in
        (λ p. both.0 ((h.same x).0 p), λ p. (h.same x).1 (both.1 p));
    fewer = omega (arith, length-remove rows k here, h.fewer);
    within = omega (arith, length-remove rows k here);
  })
    where
      here : k < length rows
      here = omega (arith, h.within)

  pub kept_next : (start rows : List (List V)) (k m : ℕ) → IsThinned R n start rows m → m ≡ k + 1 →
      ((d : List V) → IsCombination R n (remove rows k) (get_or rows k d) → ⊥) → IsThinned R n start rows k
  kept_next start rows k m h em alone = record {
    wide = h.wide;
    sizes = h.sizes;
    normal = h.normal;
    ascending = h.ascending;
    independent = λ j d q l. ⊎_elim (λ p. h.independent j d (omega arith) l)
        (λ p. let e : j ≡ k = omega arith in subst (λ i. IsCombination R n (remove rows i) (get_or rows i d) → ⊥)
        (sym e) (alone d)) (cases_lt k j);
    same = h.same;
    fewer = h.fewer;
    within = omega (arith, h.within);
  }
