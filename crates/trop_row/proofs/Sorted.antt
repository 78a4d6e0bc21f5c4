-- What a sort and `dedup` leave of rows.
use Rattle.std.proofs.Common.{◌≡◌, ◌<◌, ◌≤◌, ◌^◌, ℕ, suc, Bool, true, List, [], ◌∷◌, length, get_or, sym, refl, arith, subst}
use Rattle.std.specs.Prelude.{All, AllPairs, Contains, IsPermutation, IsSorted, ◌↔◌}
use Rattle.std.specs.declared.cmp.Ordering.{Ordering}
use Rattle.std.specs.declared.cmp.Ordering.TheVariants.{Less, Equal, Greater}
use Rattle.std.specs.Ordering.{eq_by_cmp, is_eq, ordering_then}
use Rattle.std.specs.List.{dedup}
use Rattle.std.specs.List.Sorted.{IsStrictlySortedBy}
use Rattle.std.proofs.lemmas.Cmp.{eq_by_cmp_equiv}
use Rattle.std.proofs.lemmas.List.{get_or_default}
use Rattle.std.proofs.lemmas.List.Elements.{All-from_recursion, All-weaker, All-contains}
use Rattle.std.proofs.lemmas.List.Kept.{AllPairs-cons, Contains-dedup, Contains-from_dedup, IsStrictlySortedBy-dedup}
use Rattle.std.proofs.lemmas.List.Sorted.{Contains-permutation, IsPermutation-sym}
use Rattle.trop_theory.specs.Semiring.{Semiring, SemiringLaws}
use Rattle.trop_theory.specs.Vectors.{row_size, AreWide, rows_size}
use Rattle.trop_theory.specs.Normal.{IsNormal}
use Rattle.trop_theory.specs.Combinations.{SameCone}
use Rattle.trop_theory.specs.Canonical.{RowBelow}
use Rattle.trop_theory.specs.Compare.{compare, compare_rows}
use Rattle.std.proofs.Common.{ap₂}
use Rattle.trop_theory.proofs.CompareLaws.{compare_rows_total, RowBelow-from_Less, from_Equal}
use Rattle.trop_theory.proofs.SameCones.{SameCone-from_contains}
use Rattle.trop_row.proofs.Sizes.{rows_size-at, rows_size-from_all}

eq_from_true : (o : Ordering) → is_eq o ≡ true → o ≡ Equal
eq_from_true Less e = cc
eq_from_true Equal e = refl
eq_from_true Greater e = cc

then_Equal : (o p : Ordering) → ordering_then o p ≡ Equal → (o ≡ Equal) × (p ≡ Equal)
then_Equal Less p e = absurd (let x : Less ≡ Equal = e in cc)
then_Equal Equal p e = (refl, e)
then_Equal Greater p e = absurd (let x : Greater ≡ Equal = e in cc)

each_contained : {X : Type 0} (xs : List X) (ys : List X) → ((x : X) → Contains xs x → Contains ys x) →
    All (Contains ys) xs
each_contained xs ys h k d l = h (get_or xs k d) (k, l, get_or_default xs k (get_or xs k d) d l)

module _ {V : Type 0} {R : Semiring V} (laws : SemiringLaws R) (same : V → V → Bool)
    (decides : (a b : V) → (same a b ≡ true) ↔ (a ≡ b)) where
  pub rows_from_Equal : (x y : List V) → compare_rows same R x y ≡ Equal → x ≡ y
  rows_from_Equal [] [] e = refl
  rows_from_Equal [] (b ∷ y) e = cc
  rows_from_Equal (a ∷ x) [] e = cc
  rows_from_Equal (a ∷ x) (b ∷ y) e =
      let both = then_Equal (compare same R a b) (compare_rows same R x y) e in
      ap₂ (λ h t. h ∷ t) (from_Equal laws same decides a b both.0) (rows_from_Equal x y both.1)

  increasing : (rows : List (List V)) → IsStrictlySortedBy (compare_rows same R) rows → AllPairs (RowBelow R) rows
  unfolding IsStrictlySortedBy
  increasing [] h = λ i j d p q. absurd (omega arith)
  increasing (x ∷ rows) h =
      AllPairs-cons (RowBelow R) x rows
      (All-weaker (λ y. compare_rows same R x y ≡ Less) (RowBelow R x)
      (λ y e. RowBelow-from_Less laws same decides x y e) rows
      (All-from_recursion (λ y. compare_rows same R x y ≡ Less) rows h.0))
      (increasing rows h.1)

  -- the outcome of `sort` and `dedup`
  pub record Sorts (n : ℕ) (old new : List (List V)) : Type 0 where
    pub wide : AreWide n new
    pub normal : All (IsNormal R) new
    pub ascending : AllPairs (RowBelow R) new
    pub sizes : rows_size R new ≤ 2 ^ 60
    pub cones : SameCone R n old new

  pub sorts : (n : ℕ) (old sorted new : List (List V)) → AreWide n old → All (IsNormal R) old →
      rows_size R old ≤ 2 ^ 60 → IsPermutation old sorted → IsSorted (compare_rows same R) sorted →
      new ≡ dedup (eq_by_cmp (compare_rows same R)) sorted → Sorts n old new
  sorts n old sorted new w normal s moved is_sorted e = subst (Sorts n old) (sym e) outcome
    where
      left : List (List V)
      left = dedup (eq_by_cmp (compare_rows same R)) sorted

      from_left : (x : List V) → Contains (dedup (eq_by_cmp (compare_rows same R)) sorted) x → Contains old x
      from_left x h = Contains-permutation sorted old x (IsPermutation-sym old sorted moved)
          (Contains-from_dedup (eq_by_cmp (compare_rows same R)) sorted x h)

      to_left : (x : List V) → Contains old x → Contains (dedup (eq_by_cmp (compare_rows same R)) sorted) x
      to_left x h = Contains-dedup (eq_by_cmp_equiv (compare_rows_total laws same decides))
          (λ a b t. rows_from_Equal a b (eq_from_true (compare_rows same R a b) t)) sorted x
          (Contains-permutation old sorted x moved h)

      there : All (Contains old) (dedup (eq_by_cmp (compare_rows same R)) sorted)
      there = each_contained (dedup (eq_by_cmp (compare_rows same R)) sorted) old from_left

      wide : AreWide n (dedup (eq_by_cmp (compare_rows same R)) sorted)
      wide k d l = All-contains (λ row. length row ≡ n) old _ w (there k d l)

      size_of : All (λ row. row_size R row ≤ 2 ^ 60) old
      size_of k d l = omega (arith, rows_size-at R old k d l)

      outcome : Sorts n old (dedup (eq_by_cmp (compare_rows same R)) sorted)
      outcome = record {
        wide = wide;
        normal = λ k d l. All-contains (IsNormal R) old _ normal (there k d l);
        ascending = increasing (dedup (eq_by_cmp (compare_rows same R)) sorted)
            (IsStrictlySortedBy-dedup (compare_rows_total laws same decides) (λ x y. refl) sorted is_sorted);
        sizes = rows_size-from_all R (dedup (eq_by_cmp (compare_rows same R)) sorted) (2 ^ 60)
            (λ k d l. All-contains (λ row. row_size R row ≤ 2 ^ 60) old _ size_of (there k d l));
        cones = SameCone-from_contains laws n old (dedup (eq_by_cmp (compare_rows same R)) sorted) w wide
            (each_contained old (dedup (eq_by_cmp (compare_rows same R)) sorted) to_left) there;
      }
