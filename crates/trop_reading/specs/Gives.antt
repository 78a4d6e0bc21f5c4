-- How a reader of the program follows a reading function.
use Rattle.std.specs.Prelude.{◌≡◌, ℕ, List, Result, Ok, Err}
use Rattle.trop_grammar.specs.Reading.{Reading}
use Rattle.trop_text.specs.Pieces.{Piece, pieces_left}
use Rattle.trop_text.specs.declared.pieces.Pieces.{Pieces}
use Rattle.trop_text.specs.declared.fault.FaultKind.{FaultKind}
use Rattle.trop_text.specs.Places.{fault_before}
use Rattle.trop_text.specs.declared.fault.TextErr.{TextErr}
use Rattle.trop_text.specs.declared.fault.TextErr.TheVariants as texts
use Rattle.trop_reading.specs.declared.read_err.ReadErr.{ReadErr}
use Rattle.trop_reading.specs.declared.read_err.ReadErr.TheVariants as errors

-- a refusal: want of memory at any reading, a fault just where the reading has the same one
abbrev pub Fails : {A : Type 0} → ReadErr → Reading Piece FaultKind A → Type 0
Fails errors.NoMemory read = Unit {0}
Fails (errors.Wrong what at) (Ok x) = ⊥
Fails (errors.Wrong what at) (Err miss) = (what ≡ miss.what) × (pieces_left at ≡ miss.rest)

-- what the program answers, seen by `view`, is what the reading gives, unless memory ran out
abbrev pub Gives : {X A : Type 0} → (X → A × List Piece) → Result X ReadErr → Reading Piece FaultKind A → Type 0
Gives view (Ok x) read = read ≡ Ok (view x)
Gives view (Err e) read = Fails e read

-- the word on the next piece, as a reader answers it
abbrev pub Settles : {X : Type 0} → Result X FaultKind → Pieces → Pieces → Result (X × Pieces) ReadErr → Type 0
Settles (Ok x) at rest answer = answer ≡ Ok (x, rest)
Settles (Err what) at rest answer = answer ≡ Err (errors.Wrong what at)

-- what a judge of the program answers, seen by `view`, is the word of the other judge
abbrev pub Passed : {X A : Type 0} → (X → A) → Result X FaultKind → Result A FaultKind → Type 0
Passed view (Ok x) word = word ≡ Ok (view x)
Passed view (Err what) word = word ≡ Err what

-- the refusal e of a reader, with the place of its fault in the text
abbrev pub IsPlaced : List ℕ → ReadErr → TextErr → Type 0
IsPlaced bytes errors.NoMemory refusal = refusal ≡ texts.NoMemory
IsPlaced bytes (errors.Wrong what at) refusal = refusal ≡ texts.Fault (fault_before bytes what (pieces_left at))
