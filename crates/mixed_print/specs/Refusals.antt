-- Why there is no short report.
use Rattle.std.specs.Prelude.{◌≡◌, ℤ, ℕ, List, Option}
use Rattle.prog_theory.specs.Named.{Named}
use Rattle.cone_domain.specs.Values.{Value}
use Rattle.mixed_print.specs.declared.error.MixedErr.{MixedErr}
use Rattle.mixed_print.specs.declared.error.MixedErr.TheVariants.{Polar, NoMemory}
use Rattle.mixed_print.specs.Said.{IsListStop, IsFirstStop}

-- the external list of the value of this point stops; want of memory is free
abbrev pub IsBlockRefusal : Value (Option ℤ) → ℕ → MixedErr → Type 0
IsBlockRefusal v point (Polar p i k) = (p ≡ point) × IsListStop v i k
IsBlockRefusal v point NoMemory = Unit {0}

-- that of the value of some point does, and those of the points before do not
abbrev pub IsPrintRefusal : Named → List (Value (Option ℤ)) → MixedErr → Type 0
IsPrintRefusal p values (Polar point i k) = IsFirstStop p values point i k
IsPrintRefusal p values NoMemory = Unit {0}
