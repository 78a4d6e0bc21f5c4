-- How a reader of the program follows a reading function.
use Rattle.std.specs.Prelude.{◌≡◌, ℕ, None, Some, List, ◌∷◌, Option, Result, Ok, Err}
use Rattle.trop_grammar.specs.Reading.{Reading}
use Rattle.trop_text.specs.declared.fault.FaultKind.{FaultKind}
use Rattle.shape_grammar.specs.Past.{past}
use Rattle.shape_grammar.specs.Reads.{Heads}
use Rattle.prog_texts.specs.Words.{Counted, skipped}
use Rattle.prog_texts.specs.Judges.{goes_on}
use Rattle.prog_reading.specs.Left.{left}
use Rattle.prog_reading.specs.declared.at.At.{At}
use Rattle.prog_reading.specs.declared.read_err.ReadErr.{ReadErr}
use Rattle.prog_reading.specs.declared.read_err.ReadErr.TheVariants as errors

-- a refusal: want of memory at any reading, a fault just where the reading has the same one
abbrev pub Fails : {A : Type 0} → ReadErr → Reading Counted FaultKind A → Type 0
Fails errors.NoMemory read = Unit {0}
Fails (errors.Wrong what at) (Ok x) = ⊥
Fails (errors.Wrong what at) (Err miss) = (what ≡ miss.what) × (left at ≡ miss.rest)

-- what the program answers, seen by `view`, is what the reading gives, unless memory ran out
abbrev pub Gives : {X A : Type 0} → (X → A × List Counted) → Result X ReadErr → Reading Counted FaultKind A → Type 0
Gives view (Ok x) read = read ≡ Ok (view x)
Gives view (Err e) read = Fails e read

-- what a judge of the program answers, seen by `view`, is the word of the other judge
abbrev pub Passed : {X A : Type 0} → (X → A) → Result X FaultKind → Result A FaultKind → Type 0
Passed view (Ok x) word = word ≡ Ok (view x)
Passed view (Err what) word = word ≡ Err what

-- the same of a judge of what may be left out
abbrev pub Chosen : {X A : Type 0} → (X → A) → Option (Result X FaultKind) → Option (Result A FaultKind) → Type 0
Chosen view None word = word ≡ None
Chosen view (Some (Ok x)) word = word ≡ Some (Ok (view x))
Chosen view (Some (Err what)) word = word ≡ Some (Err what)

-- the word on the next piece, as a reader answers it
abbrev pub Settles : {X : Type 0} → Result X FaultKind → At → At → Result (X × At) ReadErr → Type 0
Settles (Ok x) at rest answer = answer ≡ Ok (x, rest)
Settles (Err what) at rest answer = answer ≡ Err (errors.Wrong what at)

-- a word of the program is one of the table
abbrev pub Held : {X A : Type 0} → (X → A) → Option X → Option A → Type 0
Held view None word = word ≡ None
Held view (Some x) word = word ≡ Some (view x)

-- the next token lets a part with this value begin, and these stand behind it
pub record IsBegun {A : Type 0} (judge : Counted → Option (Result A FaultKind)) (ts : List Counted) (a : A)
    (rest : List Counted) : Type 0 where
  pub token : Counted
  pub whole : past skipped ts ≡ token ∷ rest
  pub is : judge token ≡ Some (Ok a)

-- something is wrong with the next token, which is the first of the rest
pub record IsBad {A : Type 0} (judge : Counted → Option (Result A FaultKind)) (ts : List Counted) (what : FaultKind)
    (rest : List Counted) : Type 0 where
  pub token : Counted
  pub behind : List Counted
  pub whole : past skipped ts ≡ token ∷ behind
  pub here : rest ≡ token ∷ behind
  pub is : judge token ≡ Some (Err what)

-- the next token begins no part
abbrev pub NoneBegins : {A : Type 0} → (Counted → Option (Result A FaultKind)) → List Counted → Type 0
NoneBegins judge ts = Heads (λ t. judge t ≡ None) (past skipped ts)

-- what a part begins with that may be left out
abbrev pub Begins : {X A : Type 0} → (X → A) → (Counted → Option (Result A FaultKind)) → List Counted →
    Result (Option (X × At)) ReadErr → Type 0
Begins view judge ts (Ok None) = NoneBegins judge ts
Begins view judge ts (Ok (Some x)) = IsBegun judge ts (view x.0) (left x.1)
Begins view judge ts (Err errors.NoMemory) = ⊥
Begins view judge ts (Err (errors.Wrong what at)) = IsBad judge ts what (left at)

-- the same of a judge that finds nothing wrong
abbrev pub Follows : {X A : Type 0} → (X → A) → (Counted → Option (Result A FaultKind)) → List Counted →
    Option (X × At) → Type 0
Follows view judge ts None = NoneBegins judge ts
Follows view judge ts (Some x) = IsBegun judge ts (view x.0) (left x.1)

-- what is behind the word, where it is the next token
abbrev pub IsPassed : List ℕ → List Counted → Option At → Type 0
IsPassed word ts None = NoneBegins (goes_on word) ts
IsPassed word ts (Some at) = IsBegun (goes_on word) ts tt (left at)

-- what is behind a token that the judge lets pass, where it is the next one
abbrev pub IsLetPass : (Counted → Option (Result (Unit {0}) FaultKind)) → List Counted → Option At → Type 0
IsLetPass judge ts None = NoneBegins judge ts
IsLetPass judge ts (Some at) = IsBegun judge ts tt (left at)
