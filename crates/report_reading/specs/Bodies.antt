-- One line behind the program, and what it comes to.
use Rattle.std.specs.Prelude.{ℕ, List, Option, Some, None, Ok, Err}
use Rattle.trop_theory.specs.Semiring.{Semiring}
use Rattle.trop_theory.specs.Numbers.{Numbering}
use Rattle.trop_grammar.specs.Reading.{Reading}
use Rattle.trop_text.specs.Pieces.{Piece}
use Rattle.trop_text.specs.declared.fault.FaultKind.{FaultKind}
use Rattle.trop_spelling.specs.declared.ring_kind.RingKind.{RingKind}
use Rattle.prog_theory.specs.Graph.{Point}
use Rattle.report_texts.specs.Progress.{Progress}
use Rattle.report_texts.specs.LineTexts.{line_at}
use Rattle.report_texts.specs.Heads.{against}
use Rattle.report_texts.specs.Bodies.{Outcome, outcome}

-- what a line comes to that was read from the tokens ts, or else it is against the report
abbrev pub taken : {A : Type 0} → List Piece → List Piece → Option A → Reading Piece FaultKind A
taken ts rest None = against ts rest
taken ts rest (Some o) = Ok (o, rest)

abbrev pub judged_line : {A B : Type 0} → List Piece → (A → Option B) → Reading Piece FaultKind A →
    Reading Piece FaultKind B
judged_line ts judge (Ok x) = taken ts x.1 (judge x.0)
judged_line ts judge (Err miss) = Err miss

abbrev pub step_at : {V : Type 0} → RingKind → Semiring V → Numbering V → List (List ℕ) → List Point → List ℕ →
    Progress V → List Piece → Reading Piece FaultKind (Outcome V)
step_at kind R N names points numbers s ts =
    judged_line ts (outcome N points numbers s) (line_at kind R N names s.place ts)
