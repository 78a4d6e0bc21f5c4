-- What a reader of a program, or of a trace file, answers.
use Rattle.std.specs.Prelude.{◌≡◌, ℕ, true, List, [], ◌∷◌, ◌++◌, map, Result, Ok, Err}
use Rattle.trop_grammar.specs.Reading.{Reading}
use Rattle.trop_text.specs.Tokens.{Tok}
use Rattle.trop_text.specs.Pieces.{pieces_from, pieces_left, tokens_in}
use Rattle.trop_text.specs.Places.{fault_before}
use Rattle.trop_text.specs.declared.fault.Fault.{Fault}
use Rattle.trop_text.specs.declared.fault.FaultKind.{FaultKind}
use Rattle.trop_text.specs.declared.fault.FaultKind.TheVariants.{Syntax}
use Rattle.trop_text.specs.declared.fault.TextErr.{TextErr}
use Rattle.trop_text.specs.declared.fault.TextErr.TheVariants as texts
use Rattle.shape_grammar.specs.Past.{past}
use Rattle.shape_grammar.specs.Shape.{Shape}
use Rattle.shape_grammar.specs.Faults.{IsFirstFault}
use Rattle.prog_theory.specs.Limits.{program_limits}
use Rattle.prog_theory.specs.Named.{Named}
use Rattle.prog_texts.specs.AssertRule.{AssertRule}
use Rattle.prog_texts.specs.Words.{Counted, skipped, closes, nothing_before, counted, program_pieces}
use Rattle.prog_texts.specs.Shapes.{Noun, language, whole_program, closed_program}
use Rattle.prog_texts.specs.Programs.{IsProgram, IsWholeProgram, IsProgramCause, whole_program_at}
use Rattle.prog_texts.specs.Parts.{IsClosed, part_at}
use Rattle.prog_reading.specs.declared.read_err.ReadErr.{ReadErr}
use Rattle.prog_reading.specs.declared.read_err.ReadErr.TheVariants as errors

-- this value, unless memory runs out
abbrev pub Yields : {X A : Type 0} → (X → A) → Result X TextErr → A → Type 0
Yields view (Ok x) value = view x ≡ value
Yields view (Err texts.NoMemory) value = Unit {0}
Yields view (Err (texts.Fault f)) value = ⊥

-- a refusal with its place in the text
abbrev pub IsPlaced : List ℕ → ReadErr → TextErr → Type 0
IsPlaced bytes errors.NoMemory told = told ≡ texts.NoMemory
IsPlaced bytes (errors.Wrong what at) told = told ≡ texts.Fault (fault_before bytes what (pieces_left at.pieces))

-- The first fault of these pieces of a source as a text of the grammar R, at its place: its kind is what the judges of
-- the
-- reading function say of the token there. A syntax fault is one of the shape, and any other has its cause.
pub record IsFaultIn {A : Type 0} (R : List Counted → A → Type 0) (shape : Shape Counted Noun) (C : FaultKind →
    List Counted → Counted → Type 0) (read : List Counted → Reading Counted FaultKind A) (bytes : List ℕ)
    (ts : List Counted) (f : Fault) : Type 0 where
  pub kind : FaultKind
  pub rest : List Counted
  pub is : f ≡ fault_before bytes kind (map (λ (t : Counted). t.piece) rest)
  pub first : IsFirstFault language Syntax R shape C ts kind rest
  pub judged : read ts ≡ Err (record { what = kind; rest = rest })

-- why a text is refused; want of memory is free
abbrev pub IsRefusalIn : {A : Type 0} → (List Counted → A → Type 0) → Shape Counted Noun →
    (FaultKind → List Counted → Counted → Type 0) → (List Counted → Reading Counted FaultKind A) → List ℕ →
    List Counted → TextErr → Type 0
IsRefusalIn R shape C read bytes ts texts.NoMemory = Unit {0}
IsRefusalIn R shape C read bytes ts (texts.Fault f) = IsFaultIn R shape C read bytes ts f

-- why a program is refused
abbrev pub IsProgramRefusal : AssertRule → List ℕ → TextErr → Type 0
IsProgramRefusal rule bytes e =
    IsRefusalIn (IsWholeProgram program_limits rule) whole_program (IsProgramCause program_limits rule)
    (whole_program_at program_limits rule) bytes (program_pieces bytes) e

-- ---- programs that are a part of a text

-- the next token ends a program
pub record IsClosing (ts : List Counted) : Type 0 where
  pub token : Counted
  pub behind : List Counted
  pub whole : past skipped ts ≡ token ∷ behind
  pub is : closes token ≡ true

-- the pieces of these tokens, with no line begun
abbrev pub part_pieces : List Tok → List Counted
part_pieces old = counted nothing_before (pieces_from old 0)

-- The first of the tokens `old` spell the program; the others are the tokens `new`, which begin with `end` or `start`,
-- or
-- there is none.
pub record IsReadPart (rule : AssertRule) (old : List Tok) (p : Named) (new : List Tok) : Type 0 where
  pub front : List Counted
  pub rest : List Counted
  pub whole : part_pieces old ≡ front ++ rest
  pub is : IsProgram program_limits rule front p
  pub ends : IsClosing rest
  pub stands : tokens_in (map (λ (t : Counted). t.piece) rest) ≡ new

-- why it is refused
abbrev pub IsPartRefusal : AssertRule → List ℕ → List Tok → TextErr → Type 0
IsPartRefusal rule bytes old e =
    IsRefusalIn (IsClosed program_limits rule) closed_program (IsProgramCause program_limits rule)
    (part_at program_limits rule) bytes (part_pieces old) e
