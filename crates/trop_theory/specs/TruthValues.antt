-- Truth values as the semiring of "or" and "and".
use Rattle.std.specs.Prelude.{Bool, true, false, ◌&&◌, ◌||◌, ℤ, pos, Option, Some, None}
use Rattle.trop_theory.specs.Semiring.{Semiring}
use Rattle.trop_theory.specs.Numbers.{Numbering}

abbrev pub truth_ring : Semiring Bool
truth_ring = record {
  zero = false;
  one = true;
  delta = false;
  plus = λ a b. a || b;
  times = λ a b. a && b;
  inverse = λ a. a;
  size = λ a. 0;
}

abbrev pub truth_number : Bool → Option ℤ
truth_number true = Some (pos 0)
truth_number false = None

abbrev pub truth_numbering : Numbering Bool
truth_numbering = record { of = λ n. true; to = truth_number }
