-- The elements of each semiring by their numbers.
use Rattle.std.proofs.Common.{◌≡◌, ◌≤◌, ℕ, Bool, List, [], ◌∷◌, map, Option, Some, None, ⊎_elim, refl, sym, ap, ◌∙◌, arith}
use Rattle.std.specs.Prelude.{ℤ, pos}
use Rattle.trop_theory.specs.Semiring.{Semiring}
use Rattle.trop_theory.specs.Numbers.{Numbering, NumberLaws}
use Rattle.trop_theory.specs.Vectors.{row_size}
use Rattle.trop_scalar.specs.MaxPlus.{magnitude}
use Rattle.trop_spelling.specs.declared.ring_kind.RingKind.{RingKind}
use Rattle.trop_spelling.specs.declared.ring_kind.RingKind.TheVariants.{Max as MaxKind, Min as MinKind, Bool as BoolKind}
use Rattle.trop_spelling.specs.Spelling.{KindLaws, IsTruthOnly}
use Rattle.trop_spelling.specs.Printed.{numbers}
use Rattle.trop_spelling.proofs.WrittenElements.{named, AreWithin}

module _ {V : Type 0} (kind : RingKind) (reversed : Bool) (R : Semiring V) (N : Numbering V) (laws : NumberLaws R N)
    (known : KindLaws kind R N reversed) where
  number_of_one : (kind : RingKind) → KindLaws kind R N reversed → N.to R.one ≡ Some (pos 0)
  number_of_one MaxKind k = k.0.to-one
  number_of_one MinKind k = k.0.to-one
  number_of_one BoolKind k = k.number

  -- the one has the number 0
  pub one_number : N.to R.one ≡ Some (pos 0)
  one_number = number_of_one kind known

  one_of_some : IsTruthOnly R N → (a : V) (n : ℤ) → N.to a ≡ Some n → a ≡ R.one
  one_of_some truths a n e = ⊎_elim (λ z. let p : None ≡ Some n = sym ((laws.none a).1 z) ∙ e in absurd cc) (λ o. o)
      (truths.two a)

  -- an element is named by its number
  named_by : (kind : RingKind) → KindLaws kind R N reversed → (a : V) (o : Option ℤ) → N.to a ≡ o → named kind R N o ≡ a
  named_by kind k a None e = sym ((laws.none a).0 e)
  named_by MaxKind k a (Some n) e = k.0.of-to a n e
  named_by MinKind k a (Some n) e = k.0.of-to a n e
  named_by BoolKind k a (Some n) e = sym (one_of_some k a n e)

  -- a row is named by its numbers
  pub named_row : (x : List V) → map (named kind R N) (numbers N x) ≡ x
  named_row [] = refl
  named_row (a ∷ x) = λ i. named_by kind known a (N.to a) refl i ∷ named_row x i

  small_at : (kind : RingKind) → KindLaws kind R N reversed → (bound : ℕ) (a : V) (o : Option ℤ) → N.to a ≡ o →
      R.size a ≤ bound → magnitude o ≤ bound
  small_at kind k bound a None e s = omega arith
  small_at MaxKind k bound a (Some n) e s = omega (arith, k.0.size a n e)
  small_at MinKind k bound a (Some n) e s = omega (arith, k.0.size a n e)
  small_at BoolKind k bound a (Some n) e s =
      let p : Some n ≡ Some (pos 0) = sym e ∙ ap N.to (one_of_some k a n e) ∙ k.number in
      let q : magnitude (Some n) ≡ 0 = ap magnitude p in
      omega arith

  -- the numbers of a small row are small
  pub within : (bound : ℕ) (x : List V) → row_size R x ≤ bound → AreWithin bound (numbers N x)
  within bound [] s = tt
  within bound (a ∷ x) s = (small_at kind known bound a (N.to a) refl (omega arith), within bound x (omega arith))

  one_at : (kind : RingKind) → KindLaws kind R N reversed → (a : V) (n : ℤ) → N.to a ≡ Some n → n ≡ pos 0 → R.one ≡ a
  one_at MaxKind k a n e nought = sym (k.0.of-to R.one (pos 0) k.0.to-one) ∙ ap N.of (sym nought) ∙ k.0.of-to a n e
  one_at MinKind k a n e nought = sym (k.0.of-to R.one (pos 0) k.0.to-one) ∙ ap N.of (sym nought) ∙ k.0.of-to a n e
  one_at BoolKind k a n e nought = sym (one_of_some k a n e)

  -- an element whose number is 0 is the one
  pub is_one : (a : V) (n : ℤ) → N.to a ≡ Some n → n ≡ pos 0 → R.one ≡ a
  is_one = one_at kind known
