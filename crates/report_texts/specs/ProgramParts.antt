-- The program of a report, up to the word `end`: its tokens stand in free layout.
use Rattle.std.specs.Prelude.{◌≡◌, List, map, codes, Ok, Err}
use Rattle.trop_grammar.specs.Reading.{Reading, ◌>>=◌, gives}
use Rattle.trop_grammar.specs.Grammar.{Empty, Then}
use Rattle.trop_text.specs.Pieces.{Piece}
use Rattle.trop_text.specs.declared.fault.FaultKind.{FaultKind}
use Rattle.trop_text.specs.declared.fault.FaultKind.TheVariants.{Syntax}
use Rattle.shape_grammar.specs.Shape.{Shape, Both}
use Rattle.shape_grammar.specs.Faults.{IsFirstFault}
use Rattle.prog_theory.specs.Limits.{program_limits}
use Rattle.prog_theory.specs.Named.{Named}
use Rattle.prog_texts.specs.AssertRule.{AssertRule}
use Rattle.prog_texts.specs.Words.{Counted, counted, nothing_before}
use Rattle.prog_texts.specs.Shapes.{Noun, language, sign, program}
use Rattle.prog_texts.specs.Operands.{IsSaid, said_at}
use Rattle.prog_texts.specs.Programs.{IsProgram, program_at, IsProgramCause}

-- pieces as those of a program that begins with them
abbrev pub part_pieces : List Piece → List Counted
part_pieces ps = counted nothing_before ps

abbrev pub plain : List Counted → List Piece
plain ts = map (λ (t : Counted). t.piece) ts

-- ---- grammar

-- a program and the word `end`
abbrev pub IsEnded : AssertRule → List Counted → Named → Type 0
IsEnded rule = Then (IsProgram program_limits rule) (λ p. Then (IsSaid (codes "end")) (λ u. Empty p))

abbrev pub IsProgramPart : AssertRule → List Piece → Named → Type 0
IsProgramPart rule us p = IsEnded rule (part_pieces us) p

-- the shape of such texts
abbrev pub ended_program : Shape Counted Noun
ended_program = Both program (sign (codes "end"))

-- ---- reading

unfoldable pub ended_at : AssertRule → List Counted → Reading Counted FaultKind Named
ended_at rule = program_at program_limits rule >>= λ p. said_at (codes "end") >>= λ u. gives p

abbrev pub uncounted : {A : Type 0} → Reading Counted FaultKind A → Reading Piece FaultKind A
uncounted (Ok x) = Ok (x.0, plain x.1)
uncounted (Err miss) = Err (record { what = miss.what; rest = plain miss.rest })

unfoldable pub program_part_at : AssertRule → List Piece → Reading Piece FaultKind Named
program_part_at rule ps = uncounted (ended_at rule (part_pieces ps))

-- ---- faults

-- A syntax fault is one of the shape: names and numbers are free, and nothing is counted. Any other has its cause.
pub record IsProgramFault (rule : AssertRule) (ts : List Piece) (what : FaultKind) (rest : List Piece) : Type 0 where
  pub counted_rest : List Counted
  pub is : rest ≡ plain counted_rest
  pub first : IsFirstFault language Syntax (IsEnded rule) ended_program (IsProgramCause program_limits rule)
      (part_pieces ts) what counted_rest
