-- Counts of looks that rise by one, to 2^62 where they stay.
use Rattle.std.proofs.Common.{◌≡◌, ◌<◌, ◌≤◌, ◌+◌, ◌*◌, ◌^◌, ℕ, min, arith, add-mul, length}
use Rattle.std.proofs.Math.Nat.{mul-le-mul_right}

-- a count that rose by k looks
pub record IsCounted (old k now : ℕ) : Type 0 where
  pub kept : old ≤ now
  pub at_most : now ≤ old + k
  pub at_least : min (old + k) (2 ^ 62) ≤ now

pub IsCounted-first : (old : ℕ) → IsCounted old 0 old
IsCounted-first old = record { kept = omega arith; at_most = omega arith; at_least = omega arith }

pub IsCounted-more : (old k now next : ℕ) → IsCounted old k now → next ≡ min (now + 1) (2 ^ 62) → now ≤ next →
    IsCounted old (k + 1) next
IsCounted-more old k now next h e l = record {
  kept = omega (arith, h.kept);
  at_most = omega (arith, h.at_most);
  at_least = omega (arith, h.at_least);
}

-- a count after whole rounds over a list
pub record IsCountedIn (old rounds length now : ℕ) : Type 0 where
  pub kept : old ≤ now
  pub at_most : now ≤ old + rounds * length
  pub at_least : 0 < rounds → 0 < length → min (old + 1) (2 ^ 62) ≤ now

pub IsCountedIn-first : (old length : ℕ) → IsCountedIn old 0 length old
IsCountedIn-first old length = record {
  kept = omega arith;
  at_most = omega arith;
  at_least =
      λ h. absurd (omega arith);
}

pub IsCountedIn-more : (old rounds length now next : ℕ) → IsCountedIn old rounds length now → now ≤ next →
    next ≤ now + length → min (now + length) (2 ^ 62) ≤ next → IsCountedIn old (rounds + 1) length next
IsCountedIn-more old rounds length now next h l m n = record {
  kept = omega (arith, h.kept);
  at_most = omega (arith, h.at_most, add-mul rounds 1 length);
  at_least = λ p q. omega (arith, h.kept);
}

pub IsCountedIn-wider : (old rounds more length now : ℕ) → rounds ≤ more → IsCountedIn old rounds length now →
    now ≤ old + more * length
IsCountedIn-wider old rounds more length now l h = omega (
  arith,
  h.at_most,
  mul-le-mul_right {m = rounds} {n = more}
      length l,
)
