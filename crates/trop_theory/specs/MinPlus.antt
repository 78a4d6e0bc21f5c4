-- Whole numbers with an element `oo` above all, as the semiring of min and +.
use Rattle.std.specs.Prelude.{cond, ℤ, pos, int_lt, Option, Some, None}
use Rattle.trop_theory.specs.Semiring.{Semiring}
use Rattle.trop_theory.specs.MaxPlus.{sum_of, opposite, magnitude}

-- the lesser of two
abbrev pub lesser : ℤ → ℤ → ℤ
lesser a b = cond (int_lt b a) b a

abbrev pub min_plus : Option ℤ → Option ℤ → Option ℤ
min_plus None b = b
min_plus (Some a) None = Some a
min_plus (Some a) (Some b) = Some (lesser a b)

abbrev pub min_ring : Semiring (Option ℤ)
min_ring = record {
  zero = None;
  one = Some (pos 0);
  delta = Some (pos 1);
  plus = min_plus;
  times = sum_of;
  inverse = opposite;
  size = magnitude;
}
