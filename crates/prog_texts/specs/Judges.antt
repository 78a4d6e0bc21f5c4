-- What a single piece may be: judges, which let it pass with a value or say what is wrong with it.
use Rattle.std.specs.Prelude.{ℕ, suc, ◌&&◌, Bool, List, codes, Option, Some, None, Result, Ok, Err, nat_le, if◌then◌else◌}
use Rattle.std.specs.Str.{bytes_eq}
use Rattle.trop_text.specs.Digits.{number_of}
use Rattle.trop_text.specs.Names.{place_of}
use Rattle.trop_text.specs.declared.fault.FaultKind.{FaultKind}
use Rattle.trop_text.specs.declared.fault.FaultKind.TheVariants.{Syntax, NumberRange, UnknownName}
use Rattle.prog_theory.specs.Conditions.{Cmp, Le, Lt, Ge, Gt, Eq, Ne}
use Rattle.prog_theory.specs.Statements.{Rel, AtMost, AtLeast, Same}
use Rattle.prog_texts.specs.Words.{Counted, text, says, is_digits, is_variable, is_end, begins_statement, begins_atom}
use Rattle.prog_theory.specs.Limits.{Limits}

abbrev pub passed : {A B : Type 0} → (A → B) → Result A FaultKind → Result B FaultKind
passed f (Ok x) = Ok (f x)
passed f (Err what) = Err what

-- this word or sign
abbrev pub said : List ℕ → Counted → Result (Unit {0}) FaultKind
said word t = if says word t then Ok tt else Err Syntax

-- the end of the input
abbrev pub ended : Counted → Result (Unit {0}) FaultKind
ended t = if is_end t then Ok tt else Err Syntax

-- the word that goes on with a list or a chain
abbrev pub goes_on : List ℕ → Counted → Option (Result (Unit {0}) FaultKind)
goes_on word t = if says word t then Some (Ok tt) else None

-- digits of a value that is at most the bound
abbrev pub sized : ℕ → Counted → Result ℕ FaultKind
sized bound t = if nat_le (number_of (text t)) bound then Ok (number_of (text t)) else Err NumberRange

abbrev pub number : ℕ → Counted → Result ℕ FaultKind
number bound t = if is_digits t then sized bound t else Err Syntax

-- the coordinate of a name: one more than its place
abbrev pub coordinate : Option ℕ → Result ℕ FaultKind
coordinate (Some place) = Ok (suc place)
coordinate None = Err UnknownName

abbrev pub known : List (List ℕ) → Counted → Result ℕ FaultKind
known names t = coordinate (place_of (text t) names)

abbrev pub variable : List (List ℕ) → Counted → Result ℕ FaultKind
variable names t = if is_variable t then known names t else Err Syntax

-- one of some words
abbrev pub wanted : {A : Type 0} → Option A → Result A FaultKind
wanted (Some x) = Ok x
wanted None = Err Syntax

abbrev pub comparison_of : List ℕ → Option Cmp
comparison_of word =
    if bytes_eq word (codes "<=") then Some Le
    else (if bytes_eq word (codes "<") then Some Lt
    else (if bytes_eq word (codes ">=") then Some Ge
    else (if bytes_eq word (codes ">") then Some Gt
    else (if bytes_eq word (codes "==") then Some Eq
    else (if bytes_eq word (codes "!=") then Some Ne else None)))))

abbrev pub relation_of : List ℕ → Option Rel
relation_of word =
    if bytes_eq word (codes "<=") then Some AtMost
    else (if bytes_eq word (codes ">=") then Some AtLeast
    else (if bytes_eq word (codes "=") then Some Same else None))

-- ---- counts

abbrev pub is_one_too_many : Limits → Counted → Bool
is_one_too_many L t = begins_statement t && nat_le L.statements t.before.statements

abbrev pub is_atom_too_many : Limits → Counted → Bool
is_atom_too_many L t = begins_atom t && nat_le L.atoms t.before.atoms
