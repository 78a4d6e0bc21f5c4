-- What is known of the streams of a run, and what a run does to them.
use Rattle.std.specs.Prelude.{◌≡◌, ℕ, ◌+◌, ◌<◌, ◌≤◌, ◌⊎◌, Bool, true, false, List, [], length, take, Result, Ok, Err, Vec, Option, Some}
use Rattle.std.specs.declared.alloc.Global.{Global}
use Rattle.std.specs.Io.KnownBytes.{Consumes, IsAtEnd, Appends, Keeps}
use Rattle.trop_io.specs.Faults.{Rose}
use Rattle.trop_io.specs.Whole.{TakesFront}
use Rattle.trop_io.specs.declared.read.ReadAllErr.{ReadAllErr}
use Rattle.trop_io.specs.declared.read.ReadAllErr.TheVariants.{ReadFault, TooLong, NoMemory}

-- what is known of an input at a moment: the bytes that are left, where it tells them, its count of faults, and a count
-- that each read may raise
pub record Input : Type 0 where
  pub left : Option (List ℕ)
  pub faults : ℕ
  pub calls : ℕ

-- what is known of an output at a moment: its bytes, where it tells them, and its count of faults
pub record Output : Type 0 where
  pub bytes : Option (List ℕ)
  pub faults : ℕ

-- a source at a moment, and a sink
abbrev pub input_of : {I : Type 0} → (I → Option (List ℕ)) → (I → ℕ) → (I → ℕ) → I → Input
input_of left faults calls source = record { left = left source; faults = faults source; calls = calls source }

abbrev pub output_of : {O : Type 0} → (O → Option (List ℕ)) → (O → ℕ) → O → Output
output_of bytes faults sink = record { bytes = bytes sink; faults = faults sink }

-- the longest input, in bytes
abbrev pub longest_input : ℕ
longest_input = 4194304

-- ---- the input

-- no read failed: the count of faults is as before
abbrev pub IsCalm : Input → Input → Type 0
IsCalm before after = after.faults ≡ before.faults

-- the input was read to its end, had these bytes, and no read failed
pub record IsReadWhole (before after : Input) (bytes : List ℕ) : Type 0 where
  pub taken : Consumes before.left after.left bytes
  pub ended : IsAtEnd after.left
  pub within : length bytes ≤ longest_input
  pub calm : IsCalm before after

-- a front of the input of at most the longest length was read
abbrev pub IsReadInPart : Input → Input → Type 0
IsReadInPart before after = TakesFront before.left after.left (λ n. n ≤ longest_input)

-- one byte more than the longest input was read, and no further one, and no read failed
pub record IsReadTooFar (before after : Input) : Type 0 where
  pub taken : TakesFront before.left after.left (λ n. n ≡ longest_input + 1)
  pub calm : IsCalm before after

-- no read was made
pub record IsUntouched (before after : Input) : Type 0 where
  pub left : Keeps before.left after.left
  pub faults : after.faults ≡ before.faults
  pub calls : after.calls ≡ before.calls

-- The bytes that a command has from its input: all that were left, where it reads. One that does not has none, and
-- makes no read.
abbrev pub IsInput : Bool → Input → Input → List ℕ → Type 0
IsInput true before after bytes = IsReadWhole before after bytes
IsInput false before after bytes = IsUntouched before after × (bytes ≡ [])

-- the same of a front of these bytes
abbrev pub IsInputInPart : Bool → Input → Input → Type 0
IsInputInPart true before after = IsReadInPart before after × IsCalm before after
IsInputInPart false before after = IsUntouched before after

-- only a command that reads has an input that is too long, or a read that fails
abbrev pub IsTooLong : Bool → Input → Input → Type 0
IsTooLong true before after = IsReadTooFar before after
IsTooLong false before after = ⊥

abbrev pub IsReadFault : Bool → Input → Input → Type 0
IsReadFault true before after = IsReadInPart before after × Rose before.faults after.faults
IsReadFault false before after = ⊥

-- what is taken for a command, or why it is not
abbrev pub Takes : Bool → Input → Input → Result (Vec ℕ Global) ReadAllErr → Type 0
Takes reads before after (Ok bytes) = IsInput reads before after bytes.items
Takes reads before after (Err ReadFault) = IsReadFault reads before after
Takes reads before after (Err TooLong) = IsTooLong reads before after
Takes reads before after (Err NoMemory) = IsInputInPart reads before after

-- These are the bytes of the input of a command that reads, at most as many as the longest input has, and no read
-- fails. A command that does not read has no bytes.
abbrev pub HasInput : Bool → Input → Input → List ℕ → Type 0
HasInput true before after bytes = (before.left ≡ Some bytes) × (length bytes ≤ longest_input)
    × (Rose before.faults after.faults → ⊥)
HasInput false before after bytes = bytes ≡ []

-- ---- outputs

-- an output was not touched
pub record IsSame (before after : Output) : Type 0 where
  pub bytes : Keeps before.bytes after.bytes
  pub faults : after.faults ≡ before.faults

-- the text was written whole
abbrev pub IsWritten : Output → Output → List ℕ → Type 0
IsWritten before after text = Appends before.bytes after.bytes text

-- a proper front of the text was written, and the count of faults rose
abbrev pub IsCutShort : Output → Output → List ℕ → Type 0
IsCutShort before after text = (n : ℕ) × (n < length text) × Appends before.bytes after.bytes (take n text)
    × Rose before.faults after.faults

-- the line was written, or a proper front of it where the count of faults rose
abbrev pub IsReported : Output → Output → List ℕ → Type 0
IsReported before after line = IsWritten before after line ⊎ IsCutShort before after line
