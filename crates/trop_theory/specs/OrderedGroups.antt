-- Totally ordered commutative groups. With an element below all others such a group is a semiring: the greater of two
-- elements is their sum, and the operation of the group their product.
use Rattle.std.specs.Prelude.{◌≡◌, ◌+◌, ◌≤◌, ℕ, Bool, true, false, cond, Option, Some, None}
use Rattle.trop_theory.specs.Semiring.{Semiring}

-- the operations; `step` is the greatest element below the neutral one
pub record OrderedGroup (G : Type 0) : Type 0 where
  pub less : G → G → Bool
  pub neutral : G
  pub sum : G → G → G
  pub opposite : G → G
  pub step : G
  pub size : G → ℕ

pub record OrderedGroupLaws {G : Type 0} (A : OrderedGroup G) : Type 0 where
  pub less_apart : (a b : G) → A.less a b ≡ true → A.less b a ≡ false
  pub less_total : (a b : G) → A.less a b ≡ false → A.less b a ≡ false → a ≡ b
  pub less_trans : (a b c : G) → A.less a b ≡ true → A.less b c ≡ true → A.less a c ≡ true
  pub less-sum : (a b c : G) → A.less (A.sum a b) (A.sum a c) ≡ A.less b c
  pub sum_assoc : (a b c : G) → A.sum (A.sum a b) c ≡ A.sum a (A.sum b c)
  pub sum_comm : (a b : G) → A.sum a b ≡ A.sum b a
  pub sum_neutral : (a : G) → A.sum A.neutral a ≡ a
  pub sum_opposite : (a : G) → A.sum a (A.opposite a) ≡ A.neutral
  pub step_below : A.less A.step A.neutral ≡ true
  pub step_next : (a b : G) → A.less a b ≡ true → A.less (A.sum A.step b) a ≡ false
  pub size_sum : (a b : G) → A.size (A.sum a b) ≤ A.size a + A.size b
  pub size_opposite : (a : G) → A.size (A.opposite a) ≡ A.size a
  pub size_step : A.size A.step ≤ 1
  pub size_neutral : A.size A.neutral ≡ 0

-- the same group with its order reversed
abbrev pub reversed : {G : Type 0} → OrderedGroup G → OrderedGroup G
reversed A = record {
  less = λ a b. A.less b a;
  neutral = A.neutral;
  sum = A.sum;
  opposite = A.opposite;
  step = A.opposite A.step;
  size = A.size;
}

abbrev pub greater_of : {G : Type 0} → OrderedGroup G → G → G → G
greater_of A a b = cond (A.less a b) b a

abbrev pub plus_of : {G : Type 0} → OrderedGroup G → Option G → Option G → Option G
plus_of A None b = b
plus_of A (Some a) None = Some a
plus_of A (Some a) (Some b) = Some (greater_of A a b)

abbrev pub times_of : {G : Type 0} → OrderedGroup G → Option G → Option G → Option G
times_of A None b = None
times_of A (Some a) None = None
times_of A (Some a) (Some b) = Some (A.sum a b)

abbrev pub inverse_of : {G : Type 0} → OrderedGroup G → Option G → Option G
inverse_of A None = None
inverse_of A (Some a) = Some (A.opposite a)

abbrev pub size_of : {G : Type 0} → OrderedGroup G → Option G → ℕ
size_of A None = 0
size_of A (Some a) = A.size a

-- the group with an element below all others
abbrev pub with_bottom : {G : Type 0} → OrderedGroup G → Semiring (Option G)
with_bottom A = record {
  zero = None;
  one = Some A.neutral;
  delta = Some A.step;
  plus = plus_of A;
  times = times_of A;
  inverse = inverse_of A;
  size = size_of A;
}
