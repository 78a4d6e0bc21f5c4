-- Refusals in the program of a report.
use Rattle.std.specs.Prelude.{◌≡◌}
use Rattle.trop_reading.specs.declared.read_err.ReadErr.{ReadErr}
use Rattle.trop_reading.specs.declared.read_err.ReadErr.TheVariants.{NoMemory, Wrong}
use Rattle.prog_reading.specs.declared.read_err.ReadErr.{ReadErr as ProgramErr}
use Rattle.prog_reading.specs.declared.read_err.ReadErr.TheVariants as programs

-- the same without what stands before the place
abbrev pub IsPlain : ProgramErr → ReadErr → Type 0
IsPlain programs.NoMemory e = e ≡ NoMemory
IsPlain (programs.Wrong what at) e = e ≡ Wrong what at.pieces
