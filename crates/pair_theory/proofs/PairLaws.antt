-- The laws of the semiring of pairs.
use Rattle.std.proofs.Common.{◌≡◌, ◌≤◌, ◌+◌, ◌^◌, Bool, true, false, cond, Option, Some, None, sym, ap, ap₂, ◌∙◌, refl, arith}
use Rattle.std.specs.Prelude.{ℤ, pos, negsuc, ◌+ℤ◌, neg_ℤ, nat_abs, int_lt, ◌&&◌, ◌↔◌}
use Rattle.std.specs.Ordering.{int_eq}
use Rattle.std.specs.Cmp.{IsEquivalence}
use Rattle.std.proofs.lemmas.Bool.Decides.{Decides-int_eq}
use Rattle.std.proofs.lemmas.Int.{ints}
use Rattle.trop_theory.specs.Semiring.{SemiringLaws, Le}
use Rattle.trop_theory.specs.Numbers.{NumberLaws}
use Rattle.trop_theory.specs.OrderedGroups.{OrderedGroupLaws, greater_of}
use Rattle.trop_theory.proofs.OrderedGroupLaws.{bottom_laws}
use Rattle.pair_theory.specs.Pairs.{pair_less, pair_sum, pairs, pair_ring, first_number, pair_numbering, same_pair}

-- ---- the order, on the numbers of two pairs

less_apart : (x u y v : ℤ) → cond (int_lt x y) true (cond (int_lt y x) false (int_lt u v)) ≡ true →
    cond (int_lt y x) true (cond (int_lt x y) false (int_lt v u)) ≡ false
less_apart x u y v p = grind (arith, ints)

less_total : (x u y v : ℤ) → cond (int_lt x y) true (cond (int_lt y x) false (int_lt u v)) ≡ false →
    cond (int_lt y x) true (cond (int_lt x y) false (int_lt v u)) ≡ false → (x ≡ y) × (u ≡ v)
less_total x u y v p q = (grind (arith, ints), grind (arith, ints))

less_trans : (x u y v z w : ℤ) → cond (int_lt x y) true (cond (int_lt y x) false (int_lt u v)) ≡ true →
    cond (int_lt y z) true (cond (int_lt z y) false (int_lt v w)) ≡ true →
    cond (int_lt x z) true (cond (int_lt z x) false (int_lt u w)) ≡ true
less_trans x u y v z w p q = grind (arith, ints)

lt-sum : (x y z : ℤ) → int_lt (x +ℤ y) (x +ℤ z) ≡ int_lt y z
lt-sum x y z = grind (arith, ints)

step_next : (x u y v : ℤ) → cond (int_lt x y) true (cond (int_lt y x) false (int_lt u v)) ≡ true →
    cond (int_lt (pos 0 +ℤ y) x) true (cond (int_lt x (pos 0 +ℤ y)) false (int_lt (negsuc 0 +ℤ v) u)) ≡ false
step_next x u y v p = grind (arith, ints)

abs-sum : (a b : ℤ) → nat_abs (a +ℤ b) ≤ nat_abs a + nat_abs b
abs-sum a b = grind (arith, ints)

abs-opposite : (a : ℤ) → nat_abs (neg_ℤ a) ≡ nat_abs a
abs-opposite a = grind (arith, ints)

pub size_of_sum : (x u y v : ℤ) → (nat_abs x + nat_abs u) + (nat_abs y + nat_abs v) ≤ 2 ^ 62 →
    nat_abs (x +ℤ y) + nat_abs (u +ℤ v) ≤ 2 ^ 62
size_of_sum x u y v h = let p = abs-sum x y in let q = abs-sum u v in omega (arith, p, q)

sum_assoc : (a b c : ℤ) → (a +ℤ b) +ℤ c ≡ a +ℤ (b +ℤ c)
sum_assoc a b c = omega (arith, ints)

sum_comm : (a b : ℤ) → a +ℤ b ≡ b +ℤ a
sum_comm a b = omega (arith, ints)

zero_sum : (a : ℤ) → pos 0 +ℤ a ≡ a
zero_sum a = omega (arith, ints)

sum_opposite : (a : ℤ) → a +ℤ neg_ℤ a ≡ pos 0
sum_opposite a = omega (arith, ints)

both : (a b : ℤ × ℤ) → a.0 ≡ b.0 → a.1 ≡ b.1 → a ≡ b
both a b p q = ap₂ (λ (x y : ℤ). let t : ℤ × ℤ = (x, y) in t) p q

pair_laws_of_order : OrderedGroupLaws pairs
pair_laws_of_order = record {
  less_apart = λ a b p. less_apart a.0 a.1 b.0 b.1 p;
  less_total = λ a b p q. let e = less_total a.0 a.1 b.0 b.1 p q in both a b e.0 e.1;
  less_trans = λ a b c p q. less_trans a.0 a.1 b.0 b.1 c.0 c.1 p q;
  less-sum = λ a b c.
      ap (λ (t : Bool). cond t true (cond (int_lt (a.0 +ℤ c.0) (a.0 +ℤ b.0)) false
      (int_lt (a.1 +ℤ b.1) (a.1 +ℤ c.1)))) (lt-sum a.0 b.0 c.0)
      ∙ ap (λ (t : Bool). cond (int_lt b.0 c.0) true (cond t false (int_lt (a.1 +ℤ b.1) (a.1 +ℤ c.1))))
      (lt-sum a.0 c.0 b.0)
      ∙ ap (λ (t : Bool). cond (int_lt b.0 c.0) true (cond (int_lt c.0 b.0) false t)) (lt-sum a.1 b.1 c.1);
  sum_assoc = λ a b c. both _ _ (sum_assoc a.0 b.0 c.0) (sum_assoc a.1 b.1 c.1);
  sum_comm = λ a b. both _ _ (sum_comm a.0 b.0) (sum_comm a.1 b.1);
  sum_neutral = λ a. both _ _ (zero_sum a.0) (zero_sum a.1);
  sum_opposite = λ a. both _ _ (sum_opposite a.0) (sum_opposite a.1);
  step_below = refl;
  step_next = λ a b p. step_next a.0 a.1 b.0 b.1 p;
  size_sum = λ a b. let p = abs-sum a.0 b.0 in let q = abs-sum a.1 b.1 in omega (arith, p, q);
  size_opposite = λ a. ap₂ ◌+◌ (abs-opposite a.0) (abs-opposite a.1);
  size_step = omega arith;
  size_neutral = refl;
}

pub pair_laws : SemiringLaws pair_ring
pair_laws = bottom_laws pairs pair_laws_of_order

number_none : (a : Option (ℤ × ℤ)) → (first_number a ≡ None) ↔ (a ≡ None)
number_none None = (λ e. refl, λ e. refl)
number_none (Some a) = (λ e. cc, λ e. cc)

pub pair_number_laws : NumberLaws pair_ring pair_numbering
pair_number_laws = record { none = number_none }

-- ---- what tests decide

both_true : (b c : Bool) → (b && c) ≡ true → (b ≡ true) × (c ≡ true)
both_true true c h = (refl, h)
both_true false c h = absurd cc

true_both : (b c : Bool) → b ≡ true → c ≡ true → (b && c) ≡ true
true_both b c p q = ap (λ (t : Bool). t && c) p ∙ q

same_from : (a b : ℤ × ℤ) → (int_eq a.0 b.0 && int_eq a.1 b.1) ≡ true → a ≡ b
same_from a b h = let t = both_true (int_eq a.0 b.0) (int_eq a.1 b.1) h in
    both a b ((Decides-int_eq a.0 b.0).0 t.0) ((Decides-int_eq a.1 b.1).0 t.1)

to_same : (a b : ℤ × ℤ) → a ≡ b → (int_eq a.0 b.0 && int_eq a.1 b.1) ≡ true
to_same a b e = true_both (int_eq a.0 b.0) (int_eq a.1 b.1)
    ((Decides-int_eq a.0 b.0).1 (ap (λ (z : ℤ × ℤ). z.0) e))
    ((Decides-int_eq a.1 b.1).1 (ap (λ (z : ℤ × ℤ). z.1) e))

pub decides_pair : (a b : Option (ℤ × ℤ)) → (same_pair a b ≡ true) ↔ (a ≡ b)
decides_pair None None = (λ e. refl, λ e. refl)
decides_pair None (Some b) = (λ e. cc, λ e. cc)
decides_pair (Some a) None = (λ e. cc, λ e. cc)
decides_pair (Some a) (Some b) = (λ h. ap Some (same_from a b h), λ e. to_same a b cc)

from_true : (a b : Bool) → (a ≡ true → b ≡ true) → (b ≡ true → a ≡ true) → a ≡ b
from_true true b f g = sym (f refl)
from_true false true f g = g refl
from_true false false f g = refl

pub same_pair_is_equivalence : IsEquivalence same_pair
same_pair_is_equivalence = record {
  refl = λ a. (decides_pair a a).1 refl;
  symm = λ x y. from_true _ _ (λ e. (decides_pair y x).1 (sym ((decides_pair x y).0 e)))
      (λ e. (decides_pair x y).1 (sym ((decides_pair y x).0 e)));
  congr = λ x y z e. ap (λ w. same_pair w z) ((decides_pair x y).0 e);
}

-- ---- the order of the semiring

not_less : (a b : ℤ × ℤ) (t : Bool) → pair_less b a ≡ t →
    (t ≡ false) ↔ (Some (greater_of pairs a b) ≡ Some b)
not_less a b true e = (
  λ h. absurd cc,
  λ h. let first : greater_of pairs a b ≡ a = ap (λ (s : Bool). cond s b a) (less_apart b.0 b.1 a.0 a.1 e) in
      let same : a ≡ b = sym first ∙ (let k : greater_of pairs a b ≡ b = cc in k) in
      sym e ∙ ap (λ (z : ℤ × ℤ). pair_less b z) same ∙ less_itself b,
)
  where
    less_itself : (c : ℤ × ℤ) → pair_less c c ≡ false
    less_itself c = grind (arith, ints)
not_less a b false e = (
  λ h. ap Some (other (pair_less a b) refl),
  λ h. refl,
)
  where
    other : (s : Bool) → pair_less a b ≡ s → greater_of pairs a b ≡ b
    other true k = ap (λ (s : Bool). cond s b a) k
    other false k = ap (λ (s : Bool). cond s b a) k ∙ pair_laws_of_order.less_total a b k e

-- a pair is at most another exactly where that one is not less
pub pair_le : (a b : ℤ × ℤ) → (pair_less b a ≡ false) ↔ Le pair_ring (Some a) (Some b)
pair_le a b = not_less a b (pair_less b a) refl
