-- The laws of the max-plus semiring.
use Rattle.std.proofs.Common.{◌≡◌, Bool, true, false, Option, Some, None, sym, ap, ◌∙◌, refl, arith}
use Rattle.std.specs.Prelude.{ℤ, pos, negsuc, ◌+ℤ◌, neg_ℤ, nat_abs, int_lt, ◌≤ℤ◌, ◌↔◌}
use Rattle.std.specs.Ordering.{int_eq}
use Rattle.std.proofs.lemmas.Bool.Decides.{Decides-int_eq}
use Rattle.std.proofs.lemmas.Int.{ints}
use Rattle.trop_theory.specs.Semiring.{SemiringLaws, Le}
use Rattle.trop_theory.specs.OrderedGroups.{OrderedGroup, OrderedGroupLaws}
use Rattle.trop_theory.specs.MaxPlus.{greater, max_plus, sum_of, magnitude, max_ring, max_numbering, same_element}
use Rattle.trop_theory.proofs.OrderedGroupLaws.{bottom_laws}
use Rattle.trop_theory.specs.Numbers.{NumberLaws, NumericLaws}
use Rattle.std.specs.Cmp.{IsEquivalence}

-- the whole numbers with their order
abbrev pub whole_numbers : OrderedGroup ℤ
whole_numbers = record {
  less = int_lt;
  neutral = pos 0;
  sum = ◌+ℤ◌;
  opposite = neg_ℤ;
  step = negsuc 0;
  size = nat_abs;
}

pub whole_number_laws : OrderedGroupLaws whole_numbers
whole_number_laws = record {
  less_apart = λ a b p. grind (arith, ints);
  less_total = λ a b p q. grind (arith, ints);
  less_trans = λ a b c p q. grind (arith, ints);
  less-sum = λ a b c. grind (arith, ints);
  sum_assoc = λ a b c. omega (arith, ints);
  sum_comm = λ a b. omega (arith, ints);
  sum_neutral = λ a. omega (arith, ints);
  sum_opposite = λ a. omega (arith, ints);
  step_below = refl;
  step_next = λ a b p. grind (arith, ints);
  size_sum = λ a b. grind (arith, ints);
  size_opposite = λ a. grind (arith, ints);
  size_step = omega arith;
  size_neutral = refl;
}

pub max_laws : SemiringLaws max_ring
max_laws = bottom_laws whole_numbers whole_number_laws

-- what a test by cases decides
abbrev none : Option ℤ
none = None

both_none : (true ≡ true) ↔ (none ≡ none)
both_none = (λ e. refl, λ e. refl)

none_some : (y : ℤ) → (false ≡ true) ↔ (None ≡ Some y)
none_some y = (λ e. cc, λ e. cc)

some_none : (x : ℤ) → (false ≡ true) ↔ (Some x ≡ None)
some_none x = (λ e. cc, λ e. cc)

both_some : (x y : ℤ) → (int_eq x y ≡ true) ↔ (Some x ≡ Some y)
both_some x y = (λ e. ap Some ((Decides-int_eq x y).0 e), λ e. (Decides-int_eq x y).1 cc)

pub decides_same : (a b : Option ℤ) → (same_element a b ≡ true) ↔ (a ≡ b)
decides_same None None = both_none
decides_same None (Some y) = none_some y
decides_same (Some x) None = some_none x
decides_same (Some x) (Some y) = both_some x y

same_itself : (a : Option ℤ) → same_element a a ≡ true
same_itself a = (decides_same a a).1 refl

from_true : (a b : Bool) → (a ≡ true → b ≡ true) → (b ≡ true → a ≡ true) → a ≡ b
from_true true b f g = sym (f refl)
from_true false true f g = g refl
from_true false false f g = refl

pub same_is_equivalence : IsEquivalence same_element
same_is_equivalence = record {
  refl = same_itself;
  symm = λ x y. from_true _ _ (λ e. (decides_same y x).1 (sym ((decides_same x y).0 e)))
      (λ e. (decides_same x y).1 (sym ((decides_same y x).0 e)));
  congr = λ x y z e. ap (λ w. same_element w z) ((decides_same x y).0 e);
}

pub max_number_laws : NumberLaws max_ring max_numbering
max_number_laws = record { none = λ a. (λ e. e, λ e. e) }

pub both_of_some : (a b : Option ℤ) (m n : ℤ) → a ≡ Some m → b ≡ Some n → sum_of a b ≡ Some (m +ℤ n)
both_of_some a b m n p q = ap (λ v. sum_of v b) p ∙ ap (sum_of (Some m)) q

le_greater : (m n : ℤ) → (m ≤ℤ n) ↔ (Some (greater m n) ≡ Some n)
le_greater m n = (λ h. ap Some (le_to m n h), λ e. to_le m n cc)
  where
    le_to : (m n : ℤ) → m ≤ℤ n → greater m n ≡ n
    le_to m n h = grind (arith, ints)

    to_le : (m n : ℤ) → greater m n ≡ n → m ≤ℤ n
    to_le m n e = grind (arith, ints)

order_of : (a b : Option ℤ) (m n : ℤ) → a ≡ Some m → b ≡ Some n → (m ≤ℤ n) ↔ Le max_ring a b
order_of a b m n p q = (
  λ h. ap (λ v. max_plus v b) p ∙ ap (max_plus (Some m)) q ∙ (le_greater m n).0 h ∙ sym q,
  λ e. (le_greater m n).1 (sym (ap (λ v. max_plus v b) p ∙ ap (max_plus (Some m)) q) ∙ e ∙ q),
)

pub max_numeric_laws : NumericLaws max_ring max_numbering false
max_numeric_laws = record {
  to-of = λ n. refl;
  of-to = λ a n e. sym e;
  to-one = refl;
  to-times = both_of_some;
  size = λ a n e. ap magnitude e;
  order = order_of;
}
