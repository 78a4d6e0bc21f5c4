-- Whole numbers with an element below all, as the semiring of max and +.
use Rattle.std.specs.Prelude.{ℕ, Bool, true, false, cond, ℤ, pos, negsuc, ◌+ℤ◌, neg_ℤ, int_lt, nat_abs, Option, Some, None}
use Rattle.std.specs.Ordering.{int_eq}
use Rattle.trop_theory.specs.Semiring.{Semiring}
use Rattle.trop_theory.specs.Numbers.{Numbering}

-- the greater of two
abbrev pub greater : ℤ → ℤ → ℤ
greater a b = cond (int_lt a b) b a

abbrev pub max_plus : Option ℤ → Option ℤ → Option ℤ
max_plus None b = b
max_plus (Some a) None = Some a
max_plus (Some a) (Some b) = Some (greater a b)

abbrev pub sum_of : Option ℤ → Option ℤ → Option ℤ
sum_of None b = None
sum_of (Some a) None = None
sum_of (Some a) (Some b) = Some (a +ℤ b)

abbrev pub opposite : Option ℤ → Option ℤ
opposite None = None
opposite (Some a) = Some (neg_ℤ a)

abbrev pub magnitude : Option ℤ → ℕ
magnitude None = 0
magnitude (Some a) = nat_abs a

abbrev pub max_ring : Semiring (Option ℤ)
max_ring = record {
  zero = None;
  one = Some (pos 0);
  delta = Some (negsuc 0);
  plus = max_plus;
  times = sum_of;
  inverse = opposite;
  size = magnitude;
}

-- whether two elements are the same
abbrev pub same_element : Option ℤ → Option ℤ → Bool
same_element None None = true
same_element None (Some b) = false
same_element (Some a) None = false
same_element (Some a) (Some b) = int_eq a b

abbrev pub max_numbering : Numbering (Option ℤ)
max_numbering = record { of = λ n. Some n; to = λ a. a }
