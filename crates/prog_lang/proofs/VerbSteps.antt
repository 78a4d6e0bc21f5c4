-- What a statement begins with.
use Rattle.std.proofs.Common.{◌≡◌, ℕ, Bool, true, false, cond, Option, Some, None, List, codes, Result, Ok, Err, refl, ◌∙◌, ◌||◌}
use Rattle.trop_text.specs.declared.fault.FaultKind.{FaultKind}
use Rattle.trop_text.specs.declared.fault.FaultKind.TheVariants.{TooManyStatements}
use Rattle.prog_theory.specs.Limits.{Limits}
use Rattle.prog_texts.specs.Words.{Counted, says, is_variable}
use Rattle.prog_texts.specs.Judges.{passed, known, is_one_too_many}
use Rattle.prog_texts.specs.Statements.{Verb, Havocs, Assumes, Asserts, Asks, Loops, Skips, Sets, verb}
use Rattle.prog_lang.specs.Verbs.{is_start}

abbrev Judged : Type 0
Judged = Option (Result Verb FaultKind)

abbrev given : Bool → Result Verb FaultKind → Judged
given many v = Some (cond many (Err TooManyStatements) v)

abbrev chosen : (a b c d e f g many : Bool) → Result Verb FaultKind → Judged
chosen a b c d e f g many v =
    cond a (given many (Ok Havocs))
    (cond b (given many (Ok Assumes))
    (cond c (given many (Ok Asserts))
    (cond d (given many (Ok Asks))
    (cond e (given many (Ok Loops)) (cond f (given many (Ok Skips)) (cond g (given many v) None))))))

many_chosen : (a b c d e f g : Bool) (v : Result Verb FaultKind) → (a || b || c || d || e || f || g) ≡ true →
    chosen a b c d e f g true v ≡ Some (Err TooManyStatements)
many_chosen true b c d e f g v h = refl
many_chosen false true c d e f g v h = refl
many_chosen false false true d e f g v h = refl
many_chosen false false false true e f g v h = refl
many_chosen false false false false true f g v h = refl
many_chosen false false false false false true g v h = refl
many_chosen false false false false false false true v h = refl
many_chosen false false false false false false false v h = absurd cc

none_chosen : (a b c d e f g many : Bool) (v : Result Verb FaultKind) → (a || b || c || d || e || f || g) ≡ false →
    chosen a b c d e f g many v ≡ None
none_chosen true b c d e f g many v h = absurd cc
none_chosen false true c d e f g many v h = absurd cc
none_chosen false false true d e f g many v h = absurd cc
none_chosen false false false true e f g many v h = absurd cc
none_chosen false false false false true f g many v h = absurd cc
none_chosen false false false false false true g many v h = absurd cc
none_chosen false false false false false false true many v h = absurd cc
none_chosen false false false false false false false many v h = refl

module _ (L : Limits) (names : List (List ℕ)) (t : Counted) where
  whole : (many : Bool) → is_one_too_many L t ≡ many →
      verb L names t ≡ chosen (says (codes "havoc") t) (says (codes "assume") t) (says (codes "assert") t)
      (says (codes "if") t) (says (codes "while") t) (says (codes "skip") t) (is_variable t) many
      (passed Sets (known names t))
  whole many e = rw e refl

  -- one statement more than there may be
  pub verb_many : is_start t ≡ true → is_one_too_many L t ≡ true → verb L names t ≡ Some (Err TooManyStatements)
  verb_many h e = whole true e
      ∙ many_chosen (says (codes "havoc") t) (says (codes "assume") t) (says (codes "assert") t) (says (codes "if") t)
      (says (codes "while") t) (says (codes "skip") t) (is_variable t) (passed Sets (known names t)) h

  -- no statement
  pub verb_none : is_start t ≡ false → verb L names t ≡ None
  verb_none h = none_chosen (says (codes "havoc") t) (says (codes "assume") t) (says (codes "assert") t)
      (says (codes "if") t) (says (codes "while") t) (says (codes "skip") t) (is_variable t) (is_one_too_many L t)
      (passed Sets (known names t)) h
