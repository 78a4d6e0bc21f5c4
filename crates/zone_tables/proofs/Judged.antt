-- Whether bounds are too large.
use Rattle.std.proofs.Common.{◌≤◌, ◌^◌, ℕ, ℤ, unsigned_abs, Some, None, arith}
use Rattle.std.proofs.lemmas.Int.{ints}
use Rattle.zone_theory.specs.Bounds.{Bound}
use Rattle.zone_tables.specs.Sizes.{IsBetween, IsWithin}
use Rattle.zone_tables.specs.Large.{IsLarge}

pub abs-between : (n : ℕ) (z : ℤ) → IsBetween n z → unsigned_abs z ≤ n
abs-between n z h = let low = h.low in let high = h.high in omega (arith, ints)

-- a small bound isn't large
pub within-not_large : (b : Bound) → IsWithin (2 ^ 40) b → IsLarge b → ⊥
within-not_large None h k = k
within-not_large (Some z) h k = omega (arith, abs-between (2 ^ 40) z h, k)
