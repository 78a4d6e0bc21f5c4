-- The laws of the min-plus semiring.
use Rattle.std.proofs.Common.{◌≡◌, ◌≢◌, true, Option, Some, None, sym, ap, ◌∙◌, refl, arith}
use Rattle.std.specs.Prelude.{ℤ, pos, ◌+ℤ◌, nat_abs, ◌≤ℤ◌, ◌↔◌, neg_ℤ}
use Rattle.std.proofs.lemmas.Int.{ints}
use Rattle.std.proofs.Math.IntN.{neg_ℤ-neg_ℤ}
use Rattle.trop_theory.specs.Semiring.{SemiringLaws, Le}
use Rattle.trop_theory.specs.MaxPlus.{sum_of, magnitude, max_numbering, greater, max_plus, max_ring, opposite, same_element}
use Rattle.trop_theory.specs.MinPlus.{lesser, min_plus, min_ring}
use Rattle.trop_theory.specs.OrderedGroups.{reversed}
use Rattle.trop_theory.proofs.OrderedGroupLaws.{bottom_laws, reversed_laws}
use Rattle.trop_theory.proofs.MaxPlusLaws.{whole_numbers, whole_number_laws, both_of_some}
use Rattle.trop_theory.specs.Numbers.{NumberLaws, NumericLaws}
use Rattle.std.specs.Ordering.{int_eq}

abs_opposite : (a : ℤ) → nat_abs (neg_ℤ a) ≡ nat_abs a
abs_opposite a = grind (arith, ints)

-- the whole numbers with their order reversed
pub min_laws : SemiringLaws min_ring
min_laws = bottom_laws (reversed whole_numbers) (reversed_laws whole_numbers whole_number_laws)

le_lesser : (m n : ℤ) → (m ≤ℤ n) ↔ (Some (lesser n m) ≡ Some m)
le_lesser m n = (λ h. ap Some (le_to m n h), λ e. to_le m n cc)
  where
    le_to : (m n : ℤ) → m ≤ℤ n → lesser n m ≡ m
    le_to m n h = grind (arith, ints)

    to_le : (m n : ℤ) → lesser n m ≡ m → m ≤ℤ n
    to_le m n e = grind (arith, ints)

-- the order of the semiring is that of numbers reversed
order_of : (a b : Option ℤ) (m n : ℤ) → a ≡ Some m → b ≡ Some n → (m ≤ℤ n) ↔ Le min_ring b a
order_of a b m n p q = (
  λ h. ap (λ v. min_plus v a) q ∙ ap (min_plus (Some n)) p ∙ (le_lesser m n).0 h ∙ sym p,
  λ e. (le_lesser m n).1 (sym (ap (λ v. min_plus v a) q ∙ ap (min_plus (Some n)) p) ∙ e ∙ p),
)

pub min_numeric_laws : NumericLaws min_ring max_numbering true
min_numeric_laws = record {
  to-of = λ n. refl;
  of-to = λ a n e. sym e;
  to-one = refl;
  to-times = both_of_some;
  size = λ a n e. ap magnitude e;
  order = order_of;
}

pub min_number_laws : NumberLaws min_ring max_numbering
min_number_laws = record { none = λ a. (λ e. e, λ e. e) }

-- The opposite of each number turns the max-plus semiring into this one.

opposite-greater : (a b : ℤ) → neg_ℤ (greater a b) ≡ lesser (neg_ℤ a) (neg_ℤ b)
opposite-greater a b = grind (arith, ints)

opposite-sum : (a b : ℤ) → neg_ℤ (a +ℤ b) ≡ neg_ℤ a +ℤ neg_ℤ b
opposite-sum a b = omega (arith, ints)

same_opposite : (a b : ℤ) → int_eq a b ≡ int_eq (neg_ℤ a) (neg_ℤ b)
same_opposite a b = grind (arith, ints)

pub opposite-opposite : (a : Option ℤ) → opposite (opposite a) ≡ a
opposite-opposite None = refl
opposite-opposite (Some a) = ap Some (neg_ℤ-neg_ℤ a)

pub opposite-max_plus : (a b : Option ℤ) → opposite (max_plus a b) ≡ min_plus (opposite a) (opposite b)
opposite-max_plus None b = refl
opposite-max_plus (Some a) None = refl
opposite-max_plus (Some a) (Some b) = ap Some (opposite-greater a b)

pub opposite-sum_of : (a b : Option ℤ) → opposite (sum_of a b) ≡ sum_of (opposite a) (opposite b)
opposite-sum_of None b = refl
opposite-sum_of (Some a) None = refl
opposite-sum_of (Some a) (Some b) = ap Some (opposite-sum a b)

pub magnitude-opposite : (a : Option ℤ) → magnitude (opposite a) ≡ magnitude a
magnitude-opposite None = refl
magnitude-opposite (Some a) = abs_opposite a

pub same_element-opposite : (a b : Option ℤ) → same_element a b ≡ same_element (opposite a) (opposite b)
same_element-opposite None None = refl
same_element-opposite None (Some b) = refl
same_element-opposite (Some a) None = refl
same_element-opposite (Some a) (Some b) = same_opposite a b

pub Le-opposite : (a b : Option ℤ) → Le max_ring a b ↔ Le min_ring (opposite a) (opposite b)
Le-opposite a b = (
  λ h. sym (opposite-max_plus a b) ∙ ap opposite h,
  λ h. sym (opposite-opposite (max_plus a b)) ∙ ap opposite (opposite-max_plus a b ∙ h) ∙ opposite-opposite b,
)

-- the opposite of a finite element is finite
pub opposite_finite : (a : Option ℤ) → opposite a ≢ None → a ≢ None
opposite_finite a f e = f (ap opposite e)
