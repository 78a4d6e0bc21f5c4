-- Rows that are read: their sizes and their normal forms.
use Rattle.std.proofs.Common.{◌≡◌, ◌≤◌, ℕ, zero, suc, Bool, true, false, cond, Option, Some, None, List, [], ◌∷◌, length, Ok, refl, sym, ap, ◌∙◌, arith}
use Rattle.std.specs.Prelude.{is_some}
use Rattle.std.specs.Bool.{OnTrue, OnFalse}
use Rattle.trop_theory.specs.Semiring.{Semiring, SemiringLaws}
use Rattle.trop_theory.specs.Numbers.{Numbering, NumberLaws}
use Rattle.trop_theory.specs.Vectors.{entry, scaled, row_size, bottom}
use Rattle.trop_theory.specs.Normal.{Normalises}
use Rattle.trop_theory.proofs.Rows.{scaled-scaled, entry-scaled, entry-bottom}
use Rattle.trop_theory.proofs.Generation.{undo_normal}
use Rattle.trop_theory.proofs.Canonical.{same_from_multiple}
use Rattle.trop_text.specs.Pieces.{Piece}
use Rattle.trop_spelling.specs.declared.ring_kind.RingKind.{RingKind}
use Rattle.trop_spelling.specs.Spelling.{KindLaws}
use Rattle.trop_spelling.specs.Parts.{row_line_at}
use Rattle.trop_spelling.proofs.PartLaws.{row_line_reads}
use Rattle.trop_spelling.proofs.ReadSizes.{row_size-read}
use Rattle.report_texts.specs.Limits.{greatest_entry}
use Rattle.report_texts.specs.LineTexts.{leading, divided, normalised}
use Rattle.report_texts.proofs.NormalRows.{finite_led, normalised_is}

module _ {V : Type 0} {R : Semiring V} (laws : SemiringLaws R) where
  -- a row of numbers up to 2^40, with an element of size 0 in front
  pub row_small : (kind : RingKind) (N : Numbering V) (reversed : Bool) → KindLaws kind R N reversed →
      (n : ℕ) (ts rest : List Piece) (first : V) (row : List V) → R.size first ≡ 0 →
      row_line_at kind R N greatest_entry n ts ≡ Ok (row, rest) → row_size R (first ∷ row) ≤ 1152921504606846976
  row_small kind N reversed kinds n ts rest first row none e =
      let t = (row_line_reads R N greatest_entry kind n).takes ts row rest e in
      let h = t.is in
      let size = row_size-read laws kind N reversed greatest_entry n h.front h.value kinds h.first in
      let same = ap (row_size R) h.second.second.is in
      omega (arith, size, same, none)

module _ {V : Type 0} (R : Semiring V) (N : Numbering V) (laws : SemiringLaws R) (numbers_are : NumberLaws R N) where
  zero_at : (a : V) → is_some (N.to a) ≡ false → a ≡ R.zero
  zero_at a e = at (N.to a) refl e
    where
      at : (o : Option _) → N.to a ≡ o → is_some o ≡ false → a ≡ R.zero
      at None k q = (numbers_are.none a).0 k
      at (Some n) k q = absurd cc

  none_leads : (x : List V) → leading N x ≡ None → (i : ℕ) → entry R x i ≡ R.zero
  none_leads [] e i = refl
  none_leads (a ∷ x) e i = at (λ q j. none_leads x q j) (is_some (N.to a)) refl e i
    where
      at : (leading N x ≡ None → (j : ℕ) → entry R x j ≡ R.zero) → (b : Bool) → is_some (N.to a) ≡ b →
          cond b (Some a) (leading N x) ≡ None → (i : ℕ) → entry R (a ∷ x) i ≡ R.zero
      at more true k q i = absurd cc
      at more false k q zero = zero_at a k
      at more false k q (suc i) = more q i

  -- the multiple in normal form that the theory of texts names is the one that a row is brought to
  pub normalised_same : (x y : List V) → Normalises R x y → normalised R N x ≡ y
  normalised_same x y m = at (leading N x) refl
    where
      at : (o : Option V) → leading N x ≡ o → normalised R N x ≡ y
      at None e =
          let h = m.normal in
          let none : entry R y h.first ≡ R.zero =
          ap (λ (z : List V). entry R z h.first) m.multiple ∙ entry-scaled laws m.factor x h.first
          ∙ ap (R.times m.factor) (none_leads x e h.first) ∙ laws.times_comm m.factor R.zero
          ∙ laws.zero_absorbs m.factor in
          absurd (laws.one_finite (sym h.is_one ∙ none))
      at (Some c) e =
          let k = normalised_is R N laws numbers_are x (finite_led R N laws numbers_are x c e) in
          let z = normalised R N x in
          let back : scaled R (R.inverse k.factor) z ≡ x = undo_normal laws x z k in
          let multiple : y ≡ scaled R (R.times m.factor (R.inverse k.factor)) z =
          m.multiple ∙ ap (scaled R m.factor) (sym back) ∙ scaled-scaled laws m.factor (R.inverse k.factor) z in
          sym (same_from_multiple laws 0 y z (R.times m.factor (R.inverse k.factor)) m.normal k.normal multiple)

  zero_leads : (x : List V) → ((i : ℕ) → entry R x i ≡ R.zero) → leading N x ≡ None
  zero_leads [] h = refl
  zero_leads (a ∷ x) h = ap (λ b. cond b (Some a) (leading N x))
      (ap (λ z. is_some (N.to z)) (h 0) ∙ ap is_some ((numbers_are.none R.zero).1 refl))
      ∙ zero_leads x (λ i. h (suc i))

  -- one that is all the zero stays
  pub normalised_bottom : (x : List V) → x ≡ bottom R (length x) → normalised R N x ≡ x
  normalised_bottom x e = ap (λ o. divided R o x) (zero_leads x (λ i. ap (λ (z : List V). entry R z i) e
      ∙ entry-bottom R (length x) i))

  -- what `normalise` leaves of the row
  pub normalised_left : (b : Bool) (old new row : List V) → OnTrue b (Normalises R old new) →
      OnFalse b (old ≡ bottom R (length old)) → OnFalse b (new ≡ old) → old ≡ row → new ≡ normalised R N row
  normalised_left true old new row found other same e =
      sym (normalised_same old new found) ∙ ap (normalised R N) e
  normalised_left false old new row found other same e =
      same ∙ sym (normalised_bottom old other) ∙ ap (normalised R N) e
