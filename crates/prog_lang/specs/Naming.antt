-- What one step of a reader of names does.
use Rattle.std.specs.Prelude.{◌≡◌, ℕ, true, false, None, Some, List, [], ◌∷◌, ◌++◌, length, nat_le, Option, IsSome, Result, Ok, Err}
use Rattle.trop_text.specs.Names.{place_of}
use Rattle.trop_text.specs.declared.fault.FaultKind.{FaultKind}
use Rattle.trop_text.specs.declared.fault.FaultKind.TheVariants.{Syntax, NumberRange, UnknownName, DuplicateName, TooManyVars, TooManyLines, WrongKind, TooManyStatements, TooManyAtoms, TooDeep, AssertMode, ReportFault}
use Rattle.prog_theory.specs.Limits.{program_limits}
use Rattle.prog_texts.specs.Words.{Counted}
use Rattle.prog_texts.specs.Programs.{new_name}
use Rattle.prog_reading.specs.Left.{left}
use Rattle.prog_reading.specs.Gives.{IsBegun, IsBad, NoneBegins}
use Rattle.prog_reading.specs.declared.at.At.{At}
use Rattle.prog_reading.specs.declared.read_err.ReadErr.{ReadErr}
use Rattle.prog_reading.specs.declared.read_err.ReadErr.TheVariants as errors

-- a name that follows and is put behind those before
pub record IsAdded (old : List (List ℕ)) (ts : List Counted) (new : List (List ℕ)) (rest : List Counted) : Type 0 where
  pub name : List ℕ
  pub begun : IsBegun (new_name program_limits old) ts name rest
  pub added : new ≡ old ++ name ∷ []

abbrev pub Declares : List (List ℕ) → List Counted → Result (Option At) ReadErr → List (List ℕ) → Type 0
Declares old ts (Ok None) new = NoneBegins (new_name program_limits old) ts × (new ≡ old)
Declares old ts (Ok (Some at)) new = IsAdded old ts new (left at)
Declares old ts (Err errors.NoMemory) new = Unit {0}
Declares old ts (Err (errors.Wrong what at)) new = IsBad (new_name program_limits old) ts what (left at)

-- why a name is not put behind these
abbrev pub IsNameFault : List (List ℕ) → List ℕ → FaultKind → Type 0
IsNameFault old name TooManyVars = nat_le 63 (length old) ≡ true
IsNameFault old name DuplicateName = (nat_le 63 (length old) ≡ false) × IsSome (place_of name old)
IsNameFault old name Syntax = ⊥
IsNameFault old name NumberRange = ⊥
IsNameFault old name UnknownName = ⊥
IsNameFault old name TooManyLines = ⊥
IsNameFault old name WrongKind = ⊥
IsNameFault old name TooManyStatements = ⊥
IsNameFault old name TooManyAtoms = ⊥
IsNameFault old name TooDeep = ⊥
IsNameFault old name AssertMode = ⊥
IsNameFault old name ReportFault = ⊥

-- the name is put behind these, and the reader goes on with the rest; or it stands where the name is wrong
abbrev pub Adds : List (List ℕ) → List ℕ → At → At → Result (Option At) ReadErr → List (List ℕ) → Type 0
Adds old name here rest (Ok None) new = ⊥
Adds old name here rest (Ok (Some at)) new =
    (at ≡ rest) × (nat_le 63 (length old) ≡ false) × (place_of name old ≡ None) × (new ≡ old ++ name ∷ [])
Adds old name here rest (Err errors.NoMemory) new = Unit {0}
Adds old name here rest (Err (errors.Wrong what at)) new = (at ≡ here) × IsNameFault old name what
