-- What a reader by lines answers.
-- Index: shown, sound_behind, next_only_is, next_end_is, next_size, next_count, next_given, next_found, refused_only,
-- refused_end, line_refused, next_refused, sound_fault.
use Rattle.std.proofs.Common.{◌≡◌, ◌<◌, ◌≤◌, ◌+◌, ◌^◌, ◌⊎◌, inl, inr, ℕ, Bool, true, false, Option, Some, None, List, [], ◌++◌, length, Ok, Err, sym, ap, subst, ◌∙◌, arith}
use Rattle.std.specs.Prelude.{is_some, IfSome, IfNone}
use Rattle.trop_theory.specs.Semiring.{Semiring, SemiringLaws}
use Rattle.trop_theory.specs.Numbers.{Numbering}
use Rattle.trop_theory.specs.Inequalities.{Inequality, inequality_size}
use Rattle.trop_grammar.specs.Reading.{Reading}
use Rattle.trop_text.specs.Pieces.{Piece, pieces_of}
use Rattle.trop_text.specs.declared.fault.Fault.{Fault}
use Rattle.trop_text.specs.declared.fault.FaultKind.{FaultKind}
use Rattle.trop_text.specs.declared.fault.TextErr.{TextErr}
use Rattle.trop_text.specs.declared.fault.TextErr.TheVariants as errors
use Rattle.trop_reading.specs.declared.read_err.ReadErr.{ReadErr}
use Rattle.trop_reading.specs.declared.read_err.ReadErr.TheVariants as reads
use Rattle.trop_spelling.specs.declared.ring_kind.RingKind.{RingKind}
use Rattle.trop_spelling.specs.Spelling.{KindLaws}
use Rattle.trop_files.specs.Generators.{greatest_number}
use Rattle.trop_spelling.specs.Inequalities.{IsInequality}
use Rattle.trop_files.specs.InequalityFiles.{most_inequalities, SpellsInequalities, inequality_file_at}
use Rattle.trop_files.specs.InequalityLines.{LineReader, file_given, GivesLine, GivesNext, IsAtEnd, line_at, first_of, IsSound}
use Rattle.trop_reading.specs.Gives.{Fails, IsPlaced}
use Rattle.trop_reading.specs.Outcome.{AnswersWith, IsRefusal}
use Rattle.trop_spelling.specs.Over.{Embedding, IsOneOfThree}
use Rattle.trop_spelling.proofs.ReadSizes.{inequality_size-read}
use Rattle.trop_files.proofs.LineSteps.{same_read, line_below, end_none}
use Rattle.trop_files.proofs.LineFiles.{given_length, more_given, more_behind, next_whole, next_only, text_spelled, text_at_end, text_refused}

-- where a value is read, a refusal is for want of memory
not_refused : {X : Type 0} (bytes : List ℕ) (e : ReadErr) (refusal : TextErr) (r : Reading Piece FaultKind X)
    (v : X × List Piece) (value : X) → Fails e r → IsPlaced bytes e refusal → r ≡ Ok v →
    AnswersWith {X = X} (λ o. o) (Err refusal) value
not_refused bytes reads.NoMemory refusal r v value h is e = subst (λ t. AnswersWith (λ o. o) (Err t) value) (sym is) tt
not_refused bytes (reads.Wrong what at) refusal r v value h is e = absurd (subst (Fails (reads.Wrong what at)) e h)

module _ {V : Type 0} (kind : RingKind) (R : Semiring V) (N : Numbering V) (bytes : List ℕ) (names : List (List ℕ))
    (failed : Option Fault) where
  -- what contracts see of a reader behind k lines
  abbrev pub shown : ℕ → List Piece → LineReader V
  shown k left = record {
    bytes = bytes;
    names = names;
    given = first_of kind R N k bytes;
    left = left;
    failed =
        failed;
  }

  module _ (k : ℕ) (left : List Piece) (sound : IsSound kind R N bytes names k left failed) where
    gives_line : (x : Inequality V) (us : List Piece) → line_at kind R N names k left ≡ Ok (Some x, us) →
        GivesLine kind R N (shown k left) (shown (k + 1) us) x
    gives_line x us e =
        let next = next_whole kind R N bytes names k left sound.behind x us e in
        record {
          line = next.0;
          whole = next.1;
          is = next.2;
          given = ap (λ (xs : List (Inequality V)). let reader : LineReader V =
              record { bytes = bytes; names = names; given = xs; left = us; failed = failed } in reader)
              (more_given kind R N bytes names k left sound.behind x us e);
        }

    pub sound_behind : (o : Option (Inequality V)) (us : List Piece) → is_some o ≡ true →
        line_at kind R N names k left ≡ Ok (o, us) → IsSound kind R N bytes names (k + 1) us failed
    sound_behind None us some e = absurd cc
    sound_behind (Some x) us some e = record {
      small = sound.small;
      few = sound.few;
      count = omega (arith, line_below kind R N names k left x us e);
      behind = more_behind kind R N bytes names k left sound.behind x us e;
      fault = sound.fault;
    }

    below : length (first_of kind R N k bytes) < most_inequalities → k < most_inequalities
    below fewer = subst (λ m. m < most_inequalities) (given_length kind R N bytes names k left sound.behind) fewer

    -- ---- what the next line gives

    module _ (old : LineReader V) (is : shown k left ≡ old) (o : Option (Inequality V)) (us : List Piece)
        (e : line_at kind R N names k left ≡ Ok (o, us)) where
      pub next_only_is : length old.given < most_inequalities → (line rest : List Piece) (x : Inequality V) →
          old.left ≡ line ++ rest → IsInequality kind R N greatest_number old.names line x → o ≡ Some x
      next_only_is = subst (λ (r : LineReader V). length r.given < most_inequalities →
          (line rest : List Piece) (x : Inequality V) → r.left ≡ line ++ rest →
          IsInequality kind R N greatest_number r.names line x → o ≡ Some x) is
          (λ fewer line rest x whole spells. (same_read o (Some x) us rest
          (sym e ∙ next_only kind R N bytes names k left sound.behind line rest x (below fewer) whole spells)).0)

      pub next_end_is : IsAtEnd old → o ≡ None
      next_end_is = subst (λ (r : LineReader V). IsAtEnd r → o ≡ None) is
          (λ ended. (same_read o None us [] (sym e ∙ end_none kind R N names k left [] ended)).0)

      size_of : SemiringLaws R → (reversed : Bool) → KindLaws kind R N reversed → (v : Option (Inequality V)) →
          line_at kind R N names k left ≡ Ok (v, us) → IfSome v (λ x. inequality_size R x ≤ 2 ^ 40)
      size_of laws reversed kinds None h = tt
      size_of laws reversed kinds (Some x) h = let next = next_whole kind R N bytes names k left sound.behind x us h in
          inequality_size-read laws kind N reversed greatest_number names next.0 x kinds next.2

      pub next_size : SemiringLaws R → (reversed : Bool) → KindLaws kind R N reversed →
          IfSome o (λ x. inequality_size R x ≤ 2 ^ 40)
      next_size laws reversed kinds = size_of laws reversed kinds o e

      count_of : (v : Option (Inequality V)) → line_at kind R N names k left ≡ Ok (v, us) →
          IfSome v (λ x. length (first_of kind R N k bytes) < most_inequalities)
      count_of None h = tt
      count_of (Some x) h = subst (λ m. m < most_inequalities)
          (sym (given_length kind R N bytes names k left sound.behind)) (line_below kind R N names k left x us h)

      pub next_count : IfSome o (λ x. length old.given < most_inequalities)
      next_count = subst (λ (r : LineReader V). IfSome o (λ x. length r.given < most_inequalities)) is (count_of o e)

    module _ {over : Embedding V} (one : IsOneOfThree V kind R N over) (old : LineReader V)
        (is : shown k left ≡ old) where
      given_from : (o : Option (Inequality V)) (us : List Piece) (new : LineReader V) →
          line_at kind R N names k left ≡ Ok (o, us)
          → ((is_some o ≡ true) × (new ≡ shown (k + 1) us)) ⊎ ((is_some o ≡ false) × (new ≡ shown k left)) →
          GivesNext kind R N (shown k left) new o
      given_from (Some x) us new e (inl h) = subst (λ n. GivesNext kind R N (shown k left) n (Some x)) (sym h.1)
          (gives_line x us e)
      given_from (Some x) us new e (inr h) = absurd (let b = h.0 in cc)
      given_from None us new e (inl h) = absurd (let b = h.0 in cc)
      given_from None us new e (inr h) = (
        text_at_end kind R N bytes names k left sound.behind one sound.count us e,
        h.1,
      )

      pub next_given : (o : Option (Inequality V)) (us : List Piece) (new : LineReader V) →
          line_at kind R N names k left ≡ Ok (o, us)
          → ((is_some o ≡ true) × (new ≡ shown (k + 1) us)) ⊎ ((is_some o ≡ false) × (new ≡ shown k left)) →
          GivesNext kind R N old new o
      next_given o us new e by = subst (λ (r : LineReader V). GivesNext kind R N r new o) is (given_from o us new e by)

      found_from : (o : Option (Inequality V)) (us : List Piece) → line_at kind R N names k left ≡ Ok (o, us) →
          IfNone o (SpellsInequalities (pieces_of bytes) (file_given over (shown k left)))
      found_from (Some x) us e = tt
      found_from None us e = text_spelled kind R N bytes names k left sound.behind one sound.count us e

      pub next_found : (o : Option (Inequality V)) (us : List Piece) → line_at kind R N names k left ≡ Ok (o, us) →
          IfNone o (SpellsInequalities (pieces_of old.bytes) (file_given over old))
      next_found o us e = subst (λ (r : LineReader V).
          IfNone o (SpellsInequalities (pieces_of r.bytes) (file_given over r))) is (found_from o us e)

    -- ---- refusals

    module _ (e : ReadErr) (refusal : TextErr) (fails : Fails e (line_at kind R N names k left))
        (placed : IsPlaced bytes e refusal) where
      pub refused_only : (old : LineReader V) → shown k left ≡ old → length old.given < most_inequalities →
          (line rest : List Piece) (x : Inequality V) → old.left ≡ line ++ rest →
          IsInequality kind R N greatest_number old.names line x →
          AnswersWith {X = Option (Inequality V)} (λ o. o) (Err refusal) (Some x)
      refused_only old is =
          subst (λ (r : LineReader V). length r.given < most_inequalities →
          (line rest : List Piece) (x : Inequality V) → r.left ≡ line ++ rest →
          IsInequality kind R N greatest_number r.names line x →
          AnswersWith {X = Option (Inequality V)} (λ o. o) (Err refusal) (Some x)) is
          (λ fewer line rest x whole spells. not_refused bytes e refusal (line_at kind R N names k left) (Some x, rest)
          (Some x) fails placed (next_only kind R N bytes names k left sound.behind line rest x
          (below fewer) whole spells))

      pub refused_end : (old : LineReader V) → shown k left ≡ old → IsAtEnd old →
          AnswersWith {X = Option (Inequality V)} (λ o. o) (Err refusal) None
      refused_end old is = subst (λ (r : LineReader V). IsAtEnd r →
          AnswersWith {X = Option (Inequality V)} (λ o. o) (Err refusal) None) is
          (λ ended. not_refused bytes e refusal (line_at kind R N names k left) (None, []) None fails placed
          (end_none kind R N names k left [] ended))

      pub line_refused : {over : Embedding V} → IsOneOfThree V kind R N over →
          IsRefusal SpellsInequalities inequality_file_at bytes refusal
      line_refused one = text_refused kind R N bytes names k left sound.behind one sound.count e refusal fails placed

      pub next_refused : {over : Embedding V} → IsOneOfThree V kind R N over → (old : LineReader V) →
          shown k left ≡ old → IsRefusal SpellsInequalities inequality_file_at old.bytes refusal
      next_refused one old is = subst (λ (r : LineReader V).
          IsRefusal SpellsInequalities inequality_file_at r.bytes refusal) is (line_refused one)

    pub sound_fault : (f : Fault) → IsRefusal SpellsInequalities inequality_file_at bytes (errors.Fault f) →
        IsSound kind R N bytes names k left (Some f)
    sound_fault f fault = record {
      small = sound.small;
      few = sound.few;
      count = sound.count;
      behind =
          sound.behind;
      fault = fault;
    }
