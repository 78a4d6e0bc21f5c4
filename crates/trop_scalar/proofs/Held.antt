-- Semirings whose elements are held as those of the max-plus semiring: their sums of products and sizes are the same.
use Rattle.std.proofs.Common.{◌≡◌, ◌≤◌, ◌+◌, ℕ, max, Option, None, List, [], ◌∷◌, map, sym, ap, ap₂, ◌∙◌, refl}
use Rattle.std.specs.Prelude.{ℤ}
use Rattle.trop_theory.specs.Semiring.{Semiring}
use Rattle.trop_theory.specs.Vectors.{dot, row_size}
use Rattle.trop_theory.specs.MaxPlus.{max_plus, sum_of, max_ring, magnitude, opposite}
use Rattle.trop_theory.specs.MinPlus.{min_plus, min_ring}
use Rattle.trop_theory.proofs.MinPlusLaws.{opposite-opposite, opposite-max_plus, opposite-sum_of, magnitude-opposite}

-- the element of the max-plus semiring that an element is held as, by which the two semirings are the same
pub record HeldLaws {V : Type 0} (R : Semiring V) (held : V → Option ℤ) : Type 0 where
  pub zero : held R.zero ≡ None
  pub plus : (a b : V) → held (R.plus a b) ≡ max_plus (held a) (held b)
  pub times : (a b : V) → held (R.times a b) ≡ sum_of (held a) (held b)
  pub size : (a : V) → magnitude (held a) ≡ R.size a

opposite-min_plus : (a b : Option ℤ) → opposite (min_plus a b) ≡ max_plus (opposite a) (opposite b)
opposite-min_plus a b =
    ap opposite (ap₂ min_plus (sym (opposite-opposite a)) (sym (opposite-opposite b))
    ∙ sym (opposite-max_plus (opposite a) (opposite b)))
    ∙ opposite-opposite (max_plus (opposite a) (opposite b))

pub held_as_opposite : HeldLaws min_ring opposite
held_as_opposite = record {
  zero = refl;
  plus = opposite-min_plus;
  times = opposite-sum_of;
  size = magnitude-opposite;
}

module _ {V : Type 0} {R : Semiring V} {held : V → Option ℤ} (same : HeldLaws R held) where
  pub dot-held : (x y : List V) → dot max_ring (map held x) (map held y) ≡ held (dot R x y)
  dot-held [] y = sym same.zero
  dot-held (a ∷ x) [] = sym same.zero
  dot-held (a ∷ x) (b ∷ y) =
      ap₂ max_plus (sym (same.times a b)) (dot-held x y) ∙ sym (same.plus (R.times a b) (dot R x y))

  pub row_size-held : (x : List V) → row_size max_ring (map held x) ≡ row_size R x
  row_size-held [] = refl
  row_size-held (a ∷ x) = ap₂ max (same.size a) (row_size-held x)

  pub sizes-held : (x y : List V) (n : ℕ) → row_size R x + row_size R y ≤ n →
      row_size max_ring (map held x) + row_size max_ring (map held y) ≤ n
  sizes-held x y n h = rw (row_size-held x, row_size-held y) h
