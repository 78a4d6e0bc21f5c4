-- The steps of a stop, written one after another.
use Rattle.std.proofs.Common.{◌≡◌, ◌<◌, ◌+◌, ℕ, List, [], ◌∷◌, ◌++◌, length, take, drop, get_or, IsErr, Option, Result, Ok, Err, refl, sym, ap, subst, ◌∙◌, append_assoc, append-nil, decimal}
use Rattle.std.proofs.lemmas.List.{take_more, take-append-drop}
use Rattle.std.specs.Io.KnownBytes.{Appends}
use Rattle.trop_io.specs.Whole.{WritesAll}
use Rattle.trop_io.specs.declared.write.WriteFault.{WriteFault}
use Rattle.trop_io.proofs.Known.{Appends-more}
use Rattle.tplib_reply.specs.declared.stop_text.Step.{Step}
use Rattle.tplib_reply.specs.StopTexts.{label_words, step_text, steps_text}
use Rattle.tplib_reply.proofs.WrittenPieces.{piece_written, piece_cut}

steps_text-append : (xs ys : List Step) → steps_text (xs ++ ys) ≡ steps_text xs ++ steps_text ys
steps_text-append [] ys = refl
steps_text-append (x ∷ xs) ys = ap (λ z. step_text x ++ z) (steps_text-append xs ys)
    ∙ sym (append_assoc (step_text x) (steps_text xs) (steps_text ys))

module _ (steps : List Step) (i : ℕ) (d : Step) (l : i < length steps) where
  abbrev here : Step
  here = get_or steps i d

  steps_text-more : steps_text (take (i + 1) steps) ≡ steps_text (take i steps) ++ step_text here
  steps_text-more =
      ap steps_text (take_more steps i d l) ∙ steps_text-append (take i steps) (here ∷ [])
      ∙ ap (λ z. steps_text (take i steps) ++ z) (append-nil (step_text here))

  steps_text-parts : (steps_text (take i steps) ++ step_text here) ++ steps_text (drop (i + 1) steps) ≡ steps_text steps
  steps_text-parts =
      ap (λ z. z ++ steps_text (drop (i + 1) steps)) (sym steps_text-more)
      ∙ sym (steps_text-append (take (i + 1) steps) (drop (i + 1) steps))
      ∙ ap steps_text (take-append-drop (i + 1) steps)

  module _ (a b c : Option (List ℕ)) (words : List ℕ) (said : words ≡ label_words here.label)
      (before : Appends a b (steps_text (take i steps))) where
    -- one more step was written
    pub step_written : Appends b c (words ++ decimal here.number) → Appends a c (steps_text (take (i + 1) steps))
    step_written h =
        subst (Appends a c) (sym steps_text-more)
        (Appends-more a b c (steps_text (take i steps)) (step_text here) before
        (subst (λ w. Appends b c (w ++ decimal here.number)) said h))

    -- a step was cut short
    pub step_cut : (r s : Result (Unit {0}) WriteFault) (fault : WriteFault) → r ≡ Err fault → IsErr s →
        WritesAll b c (words ++ decimal here.number) r → WritesAll a c (steps_text steps) s
    step_cut r s fault e f h =
        subst (λ t. WritesAll a c t s) steps_text-parts
        (piece_cut a c (steps_text (take i steps) ++ step_text here) (steps_text (drop (i + 1) steps)) r s fault e f
        (piece_written a b c (steps_text (take i steps)) (step_text here) (Ok tt) r tt refl before
        (subst (λ w. WritesAll b c (w ++ decimal here.number) r) said h)))
