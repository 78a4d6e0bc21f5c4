-- The numbers of the entries of vectors, as they stand in texts.
use Rattle.std.proofs.Common.{◌≡◌, ◌<◌, ◌≤◌, ◌+◌, ℕ, zero, suc, Bool, true, List, [], ◌∷◌, map, length, Option, Some, None, refl, sym, ap, ◌∙◌, arith}
use Rattle.std.specs.Prelude.{ℤ, pos, All, is_some}
use Rattle.std.specs.List.{list_any}
use Rattle.std.proofs.lemmas.List.{length-map}
use Rattle.std.proofs.lemmas.Bool.{or_left, or_right}
use Rattle.trop_theory.specs.Semiring.{Semiring}
use Rattle.trop_theory.specs.Numbers.{Numbering, NumberLaws}
use Rattle.trop_theory.specs.Vectors.{entry, row_size, rows_size, AreWide}
use Rattle.trop_theory.specs.Normal.{IsNormal}
use Rattle.trop_spelling.specs.declared.ring_kind.RingKind.{RingKind}
use Rattle.trop_spelling.specs.Spelling.{KindLaws}
use Rattle.trop_spelling.specs.Printed.{numbers}
use Rattle.trop_files.specs.Generators.{greatest_number}
use Rattle.trop_spelling.proofs.WrittenElements.{AreWithin}
use Rattle.trop_spelling.proofs.KindLaws.{one_number, within}

-- a row of so many entries behind the first, each of which is small enough for a file
abbrev pub FitsLine : ℕ → List (Option ℤ) → Type 0
FitsLine vars [] = ⊥
FitsLine vars (o ∷ os) = (length os ≡ vars) × AreWithin greatest_number os

-- the first entry has no number, or 0
abbrev pub StartsPlain : List (Option ℤ) → Type 0
StartsPlain [] = Unit {0}
StartsPlain (None ∷ os) = Unit {0}
StartsPlain (Some n ∷ os) = n ≡ pos 0

-- the numbers of a row in normal form that a file may hold
pub record FitsFile (vars : ℕ) (entries : List (Option ℤ)) : Type 0 where
  pub fits : FitsLine vars entries
  pub plain : StartsPlain entries
  pub finite : list_any is_some entries ≡ true

abbrev pub FitFile : ℕ → List (List (Option ℤ)) → Type 0
FitFile vars [] = Unit {0}
FitFile vars (row ∷ rows) = FitsFile vars row × FitFile vars rows

module _ {V : Type 0} (kind : RingKind) (reversed : Bool) (R : Semiring V) (N : Numbering V) (laws : NumberLaws R N)
    (known : KindLaws kind R N reversed) where
  -- an entry that is the one has a number
  finite_at : (x : List V) (f : ℕ) → f < length x → entry R x f ≡ R.one → list_any is_some (numbers N x) ≡ true
  finite_at [] f h e = absurd (omega arith)
  finite_at (a ∷ x) zero h e = or_left (is_some (N.to a)) (list_any is_some (numbers N x))
      (ap is_some (ap N.to e ∙ one_number kind reversed R N laws known))
  finite_at (a ∷ x) (suc f) h e = or_right (is_some (N.to a)) (list_any is_some (numbers N x))
      (finite_at x f (omega arith) e)

  plain_at : (a : V) (x : List V) (o : Option ℤ) → N.to a ≡ o → IsNormal R (a ∷ x) → StartsPlain (o ∷ numbers N x)
  plain_at a x None e h = tt
  plain_at a x (Some n) e h = at h.first h.is_one h.before
    where
      at : (f : ℕ) → entry R (a ∷ x) f ≡ R.one → ((i : ℕ) → i < f → entry R (a ∷ x) i ≡ R.zero) → n ≡ pos 0
      at zero one before = let p : Some n ≡ Some (pos 0) =
          sym e ∙ ap N.to one ∙ one_number kind reversed R N laws known in cc
      at (suc f) one before = let p : None ≡ Some n = sym ((laws.none a).1 (before 0 (omega arith))) ∙ e in absurd cc

  row_fits : (vars : ℕ) (x : List V) → IsNormal R x → length x ≡ vars + 1 → row_size R x ≤ greatest_number →
      FitsFile vars (numbers N x)
  row_fits vars [] h wide s = absurd (omega arith)
  row_fits vars (a ∷ x) h wide s = record {
    fits = (omega (arith, length-map x N.to), within kind reversed R N laws known greatest_number x (omega arith));
    plain = plain_at a x (N.to a) refl h;
    finite = finite_at (a ∷ x) h.first h.within h.is_one;
  }

  pub rows_fit : (vars : ℕ) (rows : List (List V)) → All (IsNormal R) rows → AreWide (vars + 1) rows →
      rows_size R rows ≤ greatest_number → FitFile vars (map (numbers N) rows)
  rows_fit vars [] normal wide s = tt
  rows_fit vars (x ∷ rows) normal wide s = (
    row_fits vars x (normal 0 x (omega arith)) (wide 0 x (omega arith)) (omega arith),
    rows_fit vars rows (λ i d h. normal (suc i) d (omega arith)) (λ i d h. wide (suc i) d (omega arith))
        (omega arith),
  )
