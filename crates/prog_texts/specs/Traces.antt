-- Trace files: a program, the state in which it starts, and its choices.
use Rattle.std.specs.Prelude.{◌≡◌, ◌<◌, ◌≤◌, ◌⊎◌, ℤ, unsigned_abs, All, length, true, List, [], ◌∷◌, ◌++◌, codes}
use Rattle.trop_text.specs.Digits.{number_of}
use Rattle.trop_text.specs.declared.fault.FaultKind.{FaultKind}
use Rattle.trop_text.specs.declared.fault.FaultKind.TheVariants.{Syntax, NumberRange}
use Rattle.trop_grammar.specs.Reading.{Reading, ◌>>=◌, gives}
use Rattle.trop_grammar.specs.Grammar.{Empty, Then}
use Rattle.trop_grammar.specs.Lists.{Passes}
use Rattle.shape_grammar.specs.Steps.{token_past}
use Rattle.shape_grammar.specs.Texts.{One}
use Rattle.shape_grammar.specs.Shape.{Begins}
use Rattle.prog_theory.specs.Limits.{Limits}
use Rattle.prog_texts.specs.AssertRule.{AssertRule}
use Rattle.prog_texts.specs.Words.{Counted, text, skipped, is_digits}
use Rattle.prog_texts.specs.Judges.{ended}
use Rattle.prog_texts.specs.RowRule.{one_each, any_number}
use Rattle.prog_texts.specs.Shapes.{language, program}
use Rattle.prog_texts.specs.Operands.{IsSaid, said_at}
use Rattle.prog_texts.specs.Rows.{IsRow, row_at}
use Rattle.prog_theory.specs.Named.{Named}
use Rattle.prog_theory.specs.Within.{IsWithin}
use Rattle.prog_texts.specs.Programs.{IsProgram, program_at, IsProgramCause}

pub record TraceFile : Type 0 where
  pub program : Named
  pub start : List ℤ
  pub choices : List ℤ

abbrev pub trace_of : Named → List ℤ → List ℤ → TraceFile
trace_of p s c = record { program = p; start = s; choices = c }

abbrev pub IsTraceFile : Limits → AssertRule → List Counted → TraceFile → Type 0
IsTraceFile L rule =
    Then (IsProgram L rule) (λ p. Then (IsSaid (codes "start")) (λ u. Then (IsRow one_each L.entry) (λ s.
    Then (IsSaid (codes "choices")) (λ v. Then (IsRow any_number L.entry)
    (λ c. Then (One skipped (Passes ended)) (λ w. Empty (trace_of p s c)))))))

unfoldable pub trace_file_at : Limits → AssertRule → List Counted → Reading Counted FaultKind TraceFile
trace_file_at L rule =
    program_at L rule >>= λ p. said_at (codes "start") >>= λ u. row_at one_each L.entry >>= λ s.
    said_at (codes "choices") >>= λ v. row_at any_number L.entry >>= λ c. token_past skipped Syntax ended >>= λ w.
    gives (trace_of p s c)

-- a cause in the program, or a number of a row that is out of range
abbrev pub IsTraceCause : Limits → AssertRule → FaultKind → List Counted → Counted → Type 0
IsTraceCause L rule what before t =
    (Begins language program (before ++ t ∷ []) × IsProgramCause L rule what before t)
    ⊎ ((what ≡ NumberRange) × (is_digits t ≡ true) × (L.entry < number_of (text t)))

-- What a trace file keeps: its program is within the limits, it starts with one number for each variable, and no number
-- of a row is too great.
pub record IsTraceWithin (L : Limits) (x : TraceFile) : Type 0 where
  pub program : IsWithin L x.program
  pub width : length x.start ≡ length x.program.names
  pub start : All (λ n. unsigned_abs n ≤ L.entry) x.start
  pub choices : All (λ n. unsigned_abs n ≤ L.entry) x.choices
