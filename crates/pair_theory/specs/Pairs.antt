-- Pairs of whole numbers in lexicographic order, with an element below all others, as a semiring.
use Rattle.std.specs.Prelude.{ℕ, ◌+◌, ℤ, pos, negsuc, ◌+ℤ◌, neg_ℤ, nat_abs, int_lt, Bool, true, false, cond, ◌&&◌, Option, Some, None}
use Rattle.std.specs.Ordering.{int_eq}
use Rattle.trop_theory.specs.Semiring.{Semiring}
use Rattle.trop_theory.specs.Numbers.{Numbering}
use Rattle.trop_theory.specs.OrderedGroups.{OrderedGroup, with_bottom}

-- the first numbers decide, and where they are equal the second ones
abbrev pub pair_less : ℤ × ℤ → ℤ × ℤ → Bool
pair_less a b = cond (int_lt a.0 b.0) true (cond (int_lt b.0 a.0) false (int_lt a.1 b.1))

abbrev pub pair_sum : ℤ × ℤ → ℤ × ℤ → ℤ × ℤ
pair_sum a b = (a.0 +ℤ b.0, a.1 +ℤ b.1)

abbrev pub pair_opposite : ℤ × ℤ → ℤ × ℤ
pair_opposite a = (neg_ℤ a.0, neg_ℤ a.1)

abbrev pub pair_size : ℤ × ℤ → ℕ
pair_size a = nat_abs a.0 + nat_abs a.1

abbrev pub pairs : OrderedGroup (ℤ × ℤ)
pairs = record {
  less = pair_less;
  neutral = (pos 0, pos 0);
  sum = pair_sum;
  opposite = pair_opposite;
  step = (pos 0, negsuc 0);
  size = pair_size;
}

abbrev pub pair_ring : Semiring (Option (ℤ × ℤ))
pair_ring = with_bottom pairs

abbrev pub first_number : Option (ℤ × ℤ) → Option ℤ
first_number None = None
first_number (Some a) = Some a.0

-- a pair stands for its first number
abbrev pub pair_numbering : Numbering (Option (ℤ × ℤ))
pair_numbering = record { of = λ n. Some (n, pos 0); to = first_number }

-- whether two elements are the same
abbrev pub same_pair : Option (ℤ × ℤ) → Option (ℤ × ℤ) → Bool
same_pair None None = true
same_pair None (Some b) = false
same_pair (Some a) None = false
same_pair (Some a) (Some b) = int_eq a.0 b.0 && int_eq a.1 b.1
