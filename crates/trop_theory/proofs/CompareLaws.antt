-- The comparison is a total order, and agrees with the order of rows.
use Rattle.std.proofs.Common.{◌≡◌, ◌≢◌, ◌⊎◌, Bool, true, false, cond, List, [], ◌∷◌, inl, inr, ⊎_elim, sym, ap, ◌∙◌, refl, subst}
use Rattle.std.specs.Prelude.{◌↔◌}
use Rattle.std.specs.declared.cmp.Ordering.{Ordering}
use Rattle.std.specs.declared.cmp.Ordering.TheVariants.{Less, Equal, Greater}
use Rattle.std.specs.Cmp.{IsTotalOrder}
use Rattle.std.specs.Ordering.{ordering_reverse, ordering_then}
use Rattle.std.proofs.lemmas.Cmp.{lists_total}
use Rattle.trop_theory.specs.Semiring.{Semiring, SemiringLaws, Le}
use Rattle.trop_theory.specs.Canonical.{RowBelow}
use Rattle.trop_theory.specs.Compare.{compare, compare_rows}
use Rattle.trop_theory.proofs.Order.{le_total, le_trans, le_antisym}

by_bool : (b : Bool) → (b ≡ true) ⊎ (b ≡ false)
by_bool true = inl refl
by_bool false = inr refl

module _ {V : Type 0} {R : Semiring V} (laws : SemiringLaws R) (same : V → V → Bool)
    (decides : (a b : V) → (same a b ≡ true) ↔ (a ≡ b)) where
  not_same : (a b : V) → a ≢ b → same a b ≡ false
  not_same a b d = ⊎_elim (λ e. absurd (d ((decides a b).0 e))) (λ e. e) (by_bool (same a b))

  pub compare-Equal : (a b : V) → a ≡ b → compare same R a b ≡ Equal
  compare-Equal a b e = ap (λ t. cond t Equal (cond (same (R.plus a b) b) Less Greater)) ((decides a b).1 e)

  pub compare-Less : (a b : V) → Le R a b → a ≢ b → compare same R a b ≡ Less
  compare-Less a b h d =
      ap (λ t. cond t Equal (cond (same (R.plus a b) b) Less Greater)) (not_same a b d)
      ∙ ap (λ t. cond t Less Greater) ((decides (R.plus a b) b).1 h)

  pub compare-Greater : (a b : V) → Le R b a → a ≢ b → compare same R a b ≡ Greater
  compare-Greater a b h d =
      ap (λ t. cond t Equal (cond (same (R.plus a b) b) Less Greater)) (not_same a b d)
      ∙ ap (λ t. cond t Less Greater) (not_same (R.plus a b) b (λ e. d (le_antisym laws a b e h)))

  -- which of the three
  data Rank (a b : V) : Type 0 where
    is_same : a ≡ b → Rank a b
    is_below : Le R a b → a ≢ b → Rank a b
    is_above : Le R b a → a ≢ b → Rank a b

  rank : (a b : V) → Rank a b
  rank a b = ⊎_elim is_same (λ d. ⊎_elim (λ h. is_below h d) (λ h. is_above h d) (le_total laws a b))
      (laws.discrete a b)

  pub from_Less : (a b : V) → compare same R a b ≡ Less → Le R a b × (a ≢ b)
  from_Less a b e = go (rank a b)
    where
      go : Rank a b → Le R a b × (a ≢ b)
      go (is_same s) = let c = compare-Equal a b s in absurd (let x : Equal ≡ Less = sym c ∙ e in cc)
      go (is_below h d) = (h, d)
      go (is_above h d) = let c = compare-Greater a b h d in absurd (let x : Greater ≡ Less = sym c ∙ e in cc)

  pub from_Equal : (a b : V) → compare same R a b ≡ Equal → a ≡ b
  from_Equal a b e = go (rank a b)
    where
      go : Rank a b → a ≡ b
      go (is_same s) = s
      go (is_below h d) = let c = compare-Less a b h d in absurd (let x : Less ≡ Equal = sym c ∙ e in cc)
      go (is_above h d) = let c = compare-Greater a b h d in absurd (let x : Greater ≡ Equal = sym c ∙ e in cc)

  pub compare_total : IsTotalOrder (compare same R)
  compare_total = record {
    antisymm = λ x y. flip x y (rank x y);
    trans = λ x y z p q. chain x y z (from_Less x y p) (from_Less y z q);
    congr = λ x y z p. ap (λ v. compare same R v z) (from_Equal x y p);
  }
    where
      flip : (x y : V) → Rank x y → compare same R x y ≡ ordering_reverse (compare same R y x)
      flip x y (is_same s) = compare-Equal x y s ∙ ap ordering_reverse (sym (compare-Equal y x (sym s)))
      flip x y (is_below h d) = compare-Less x y h d
          ∙ ap ordering_reverse (sym (compare-Greater y x h (λ e. d (sym e))))
      flip x y (is_above h d) = compare-Greater x y h d
          ∙ ap ordering_reverse (sym (compare-Less y x h (λ e. d (sym e))))

      chain : (x y z : V) → Le R x y × (x ≢ y) → Le R y z × (y ≢ z) → compare same R x z ≡ Less
      chain x y z p q = compare-Less x z (le_trans laws x y z p.0 q.0)
          (λ e. p.1 (le_antisym laws x y p.0 (subst (λ v. Le R y v) (sym e) q.0)))

  pub compare_rows_total : IsTotalOrder (compare_rows same R)
  compare_rows_total = lists_total compare_total

  pub RowBelow-from_Less : (x y : List V) → compare_rows same R x y ≡ Less → RowBelow R x y
  RowBelow-from_Less [] [] e = cc
  RowBelow-from_Less [] (b ∷ y) e = tt
  RowBelow-from_Less (a ∷ x) [] e = cc
  RowBelow-from_Less (a ∷ x) (b ∷ y) e = go (λ k. RowBelow-from_Less x y k) (rank a b)
    where
      then : (o : Ordering) → compare same R a b ≡ o → ordering_then o (compare_rows same R x y) ≡ Less
      then o s = ap (λ v. ordering_then v (compare_rows same R x y)) (sym s) ∙ e

      go : (compare_rows same R x y ≡ Less → RowBelow R x y) → Rank a b → RowBelow R (a ∷ x) (b ∷ y)
      go more (is_same s) = inr (s, more (then Equal (compare-Equal a b s)))
      go more (is_below h d) = inl (h, d)
      go more (is_above h d) = absurd (let t : Greater ≡ Less = then Greater (compare-Greater a b h d) in cc)
