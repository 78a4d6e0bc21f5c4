-- What a reader of a whole file, or of a part of a source, answers.
use Rattle.std.specs.Prelude.{◌≡◌, ℕ, List, Result, Ok, Err}
use Rattle.trop_grammar.specs.Reading.{Reading}
use Rattle.trop_grammar.specs.Reads.{IsFirstFault}
use Rattle.trop_text.specs.Pieces.{Piece, pieces_of}
use Rattle.trop_text.specs.Places.{fault_before}
use Rattle.trop_text.specs.declared.fault.Fault.{Fault}
use Rattle.trop_text.specs.declared.fault.FaultKind.{FaultKind}
use Rattle.trop_text.specs.declared.fault.TextErr.{TextErr}
use Rattle.trop_text.specs.declared.fault.TextErr.TheVariants as errors

-- this value, unless memory runs out
abbrev pub AnswersWith : {X A : Type 0} → (X → A) → Result X TextErr → A → Type 0
AnswersWith view (Ok x) value = view x ≡ value
AnswersWith view (Err errors.NoMemory) value = Unit {0}
AnswersWith view (Err (errors.Fault f)) value = ⊥

-- The first fault of these pieces of a source as a text of the grammar R, at its place. Its kind is what the judges of
-- the reading function say of that piece.
pub record IsFaultIn {A : Type 0} (R : List Piece → A → Type 0) (read : List Piece → Reading Piece FaultKind A)
    (bytes : List ℕ) (pieces : List Piece) (f : Fault) : Type 0 where
  pub kind : FaultKind
  pub rest : List Piece
  pub is : f ≡ fault_before bytes kind rest
  pub first : IsFirstFault R pieces rest
  pub judged : read pieces ≡ Err (record { what = kind; rest = rest })

-- why a text at such pieces is refused; want of memory is free
abbrev pub IsRefusalIn : {A : Type 0} → (List Piece → A → Type 0) → (List Piece → Reading Piece FaultKind A) → List ℕ →
    List Piece → TextErr → Type 0
IsRefusalIn R read bytes pieces errors.NoMemory = Unit {0}
IsRefusalIn R read bytes pieces (errors.Fault f) = IsFaultIn R read bytes pieces f

-- the first fault of the bytes
abbrev pub IsFault : {A : Type 0} → (List Piece → A → Type 0) → (List Piece → Reading Piece FaultKind A) → List ℕ →
    Fault → Type 0
IsFault R read bytes f = IsFaultIn R read bytes (pieces_of bytes) f

-- why bytes are refused
abbrev pub IsRefusal : {A : Type 0} → (List Piece → A → Type 0) → (List Piece → Reading Piece FaultKind A) → List ℕ →
    TextErr → Type 0
IsRefusal R read bytes e = IsRefusalIn R read bytes (pieces_of bytes) e

-- a refusal for want of memory alone
abbrev pub IsNoFault : TextErr → Type 0
IsNoFault errors.NoMemory = Unit {0}
IsNoFault (errors.Fault f) = ⊥
