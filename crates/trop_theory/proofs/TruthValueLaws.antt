-- The laws of the Boolean semiring.
use Rattle.std.proofs.Common.{◌≡◌, ◌≢◌, ◌⊎◌, Bool, true, false, None, inl, inr, refl, arith}
use Rattle.std.specs.Prelude.{◌↔◌, ◌&&◌, ◌||◌}
use Rattle.trop_theory.specs.Semiring.{SemiringLaws}
use Rattle.trop_theory.specs.Numbers.{NumberLaws}
use Rattle.trop_theory.specs.TruthValues.{truth_ring, truth_numbering, truth_number}

or_assoc : (a b c : Bool) → ((a || b) || c) ≡ (a || (b || c))
or_assoc true b c = refl
or_assoc false b c = refl

or_comm : (a b : Bool) → (a || b) ≡ (b || a)
or_comm true true = refl
or_comm true false = refl
or_comm false true = refl
or_comm false false = refl

or_selective : (a b : Bool) → ((a || b) ≡ a) ⊎ ((a || b) ≡ b)
or_selective true b = inl refl
or_selective false b = inr refl

and_assoc : (a b c : Bool) → ((a && b) && c) ≡ (a && (b && c))
and_assoc true b c = refl
and_assoc false b c = refl

and_comm : (a b : Bool) → (a && b) ≡ (b && a)
and_comm true true = refl
and_comm true false = refl
and_comm false true = refl
and_comm false false = refl

and-or : (a b c : Bool) → (a && (b || c)) ≡ ((a && b) || (a && c))
and-or true b c = refl
and-or false b c = refl

inverted : (a : Bool) → a ≢ false → (a && a) ≡ true
inverted true f = refl
inverted false f = absurd (f refl)

next : (a b : Bool) → (a || b) ≡ b → a ≢ b → (a || (false && b)) ≡ (false && b)
next true true h d = absurd (d refl)
next true false h d = h
next false b h d = refl

decided : (a b : Bool) → (a ≡ b) ⊎ (a ≢ b)
decided true true = inl refl
decided true false = inr (λ e. cc)
decided false true = inr (λ e. cc)
decided false false = inl refl

pub truth_laws : SemiringLaws truth_ring
truth_laws = record {
  plus_assoc = or_assoc;
  plus_comm = or_comm;
  selective = or_selective;
  zero_neutral = λ a. refl;
  times_assoc = and_assoc;
  times_comm = and_comm;
  distributes = and-or;
  one_neutral = λ a. refl;
  zero_absorbs = λ a. refl;
  invertible = inverted;
  one_finite = λ e. cc;
  delta_below = refl;
  delta_differs = λ e. cc;
  delta_next = next;
  size_times = λ a b. omega arith;
  size_inverse = λ a f. refl;
  size_plus = λ a b. omega arith;
  size_delta = omega arith;
  size_zero = refl;
  size_one = refl;
  discrete = decided;
}

number_none : (a : Bool) → (truth_number a ≡ None) ↔ (a ≡ false)
number_none true = (λ e. cc, λ e. cc)
number_none false = (λ e. refl, λ e. refl)

pub truth_number_laws : NumberLaws truth_ring truth_numbering
truth_number_laws = record { none = number_none }

pub both_alike : (a : Bool) → (true ≡ true) ↔ (a ≡ a)
both_alike a = (λ e. refl, λ e. refl)

pub true_false : (false ≡ true) ↔ (true ≡ false)
true_false = (λ e. cc, λ e. cc)

pub false_true : (false ≡ true) ↔ (false ≡ true)
false_true = (λ e. e, λ e. e)
