-- Faults by their kind.
use Rattle.std.specs.Prelude.{ℕ}
use Rattle.trop_text.specs.declared.fault.Fault.{Fault}
use Rattle.trop_text.specs.declared.fault.Fault.TheVariants as faults
use Rattle.trop_text.specs.declared.fault.FaultKind.{FaultKind}
use Rattle.trop_text.specs.declared.fault.FaultKind.TheVariants as kinds

-- a fault of this kind at a line and a column, of which all but a syntax fault keep the line alone
abbrev pub fault : FaultKind → ℕ → ℕ → Fault
fault kinds.Syntax line column = faults.Syntax line column
fault kinds.NumberRange line column = faults.NumberRange line
fault kinds.UnknownName line column = faults.UnknownName line
fault kinds.DuplicateName line column = faults.DuplicateName line
fault kinds.TooManyVars line column = faults.TooManyVars line
fault kinds.TooManyLines line column = faults.TooManyLines line
fault kinds.WrongKind line column = faults.WrongKind line
fault kinds.TooManyStatements line column = faults.TooManyStatements line
fault kinds.TooManyAtoms line column = faults.TooManyAtoms line
fault kinds.TooDeep line column = faults.TooDeep line
fault kinds.AssertMode line column = faults.AssertMode line
fault kinds.ReportFault line column = faults.ReportFault line
