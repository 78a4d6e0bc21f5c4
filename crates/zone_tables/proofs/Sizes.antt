-- How large bounds are.
use Rattle.std.proofs.Common.{◌≡◌, ◌≢◌, ⊎_elim, ◌<◌, ◌≤◌, ◌+◌, ◌*◌, ◌==◌, ℕ, ℤ, pos, ◌+ℤ◌, ◌-ℤ◌, neg_ℤ, ◌≤ℤ◌, Bool, true, false, cond, List, length, get_or, Option, Some, None, refl, sym, ap, subst, ◌∙◌, arith}
use Rattle.std.proofs.lemmas.Int.{ints}
use Rattle.zone_theory.specs.Bounds.{Bound, plus}
use Rattle.zone_theory.specs.Matrices.{entry}
use Rattle.zone_theory.specs.Assigning.{source, shift}
use Rattle.zone_theory.proofs.Entries.{same_or_apart, entry-apart, entry-same}
use Rattle.zone_tables.specs.Tables.{matrix_of}
use Rattle.zone_tables.specs.Sizes.{IsBetween, IsWithin, AreWithin}
use Rattle.zone_tables.proofs.Lists.{matrix-pair}

pub between-more : (a b : ℕ) (z : ℤ) → a ≤ b → IsBetween a z → IsBetween b z
between-more a b z l h = let low = h.low in let high = h.high in
    record { low = omega (arith, ints); high = omega (arith, ints) }

pub within-more : (a b : ℕ) (x : Bound) → a ≤ b → IsWithin a x → IsWithin b x
within-more a b None l h = tt
within-more a b (Some z) l h = between-more a b z l h

pub plus-within : (a b : ℕ) (x y : Bound) → IsWithin a x → IsWithin b y → IsWithin (a + b) (plus x y)
plus-within a b None y h k = tt
plus-within a b (Some x) None h k = tt
plus-within a b (Some x) (Some y) h k =
    let xl = h.low in let xh = h.high in let yl = k.low in let yh = k.high in
    record { low = omega (arith, ints); high = omega (arith, ints) }

pub entry-within : (most n : ℕ) (bounds : List Bound) → AreWithin most bounds → (i j : ℕ) → i < n → j < n
    → IsWithin most (entry (matrix_of n bounds) i j)
entry-within most n bounds within i j hi hj = ⊎_elim
    (λ e. subst (λ k. IsWithin most (entry (matrix_of n bounds) i k)) e
    (subst (IsWithin most) (sym (entry-same (matrix_of n bounds) i))
    (record { low = omega (arith, ints); high = omega (arith, ints) })))
    (λ ne. subst (IsWithin most) (sym (entry-apart (matrix_of n bounds) i j ne))
    (subst (IsWithin most) (sym (matrix-pair n bounds i j hi hj ne)) (within (i * n + j))))
    (same_or_apart i j)

pub source-in : (n v f i : ℕ) → f < n → i < n → source v f i < n
source-in n v f i hf hi = elim (i == v) as (λ b. cond b f i < n) [ true ↦ hf | false ↦ hi ]

pub shift-between : (most v : ℕ) (c : ℤ) (i : ℕ) → IsBetween most c → IsBetween most (shift v c i)
shift-between most v c i h = elim (i == v) as (λ b. IsBetween most (cond b c (pos 0)))
    [ true ↦ h | false ↦ record { low = omega (arith, ints); high = omega (arith, ints) } ]

pub minus-between : (a : ℕ) (x y : ℤ) → IsBetween a x → IsBetween a y → IsBetween (a + a) (x -ℤ y)
minus-between a x y h k = let xl = h.low in let xh = h.high in let yl = k.low in let yh = k.high in
    record { low = omega (arith, ints); high = omega (arith, ints) }

-- a bound that was read of a list of small ones
pub read-within : (most limit n : ℕ) (bounds : List Bound) (i j : ℕ) (b : Bound) → b ≡ entry (matrix_of n bounds) i j
    → AreWithin most bounds → i < n → j < n → most ≤ limit → IsWithin limit b
read-within most limit n bounds i j b e within hi hj l = subst (IsWithin limit) (sym e)
    (within-more most limit (entry (matrix_of n bounds) i j) l (entry-within most n bounds within i j hi hj))

pub sum-within : (most limit : ℕ) (a b r : Bound) → r ≡ plus a b → IsWithin most a → IsWithin most b
    → most + most ≤ limit
    → IsWithin limit r
sum-within most limit a b r e h k l = subst (IsWithin limit) (sym e)
    (within-more (most + most) limit (plus a b) l (plus-within most most a b h k))

-- the number of a bound
pub number-within : (most : ℕ) (b : Bound) (z : ℤ) → b ≡ Some z → IsWithin most b → IsBetween most z
number-within most b z e h = subst (IsWithin most) e h
