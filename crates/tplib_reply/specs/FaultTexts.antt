-- The text of a fault: its line, its column where it is one of syntax, and what is wrong.
use Rattle.std.specs.Prelude.{ℕ, List, [], ◌++◌, codes, decimal}
use Rattle.trop_text.specs.declared.fault.Fault.{Fault}
use Rattle.trop_text.specs.declared.fault.Fault.TheVariants.{Syntax, NumberRange, UnknownName, DuplicateName, TooManyVars, TooManyLines, WrongKind, TooManyStatements, TooManyAtoms, TooDeep, AssertMode, ReportFault}

abbrev pub fault_line : Fault → ℕ
fault_line (Syntax line column) = line
fault_line (NumberRange line) = line
fault_line (UnknownName line) = line
fault_line (DuplicateName line) = line
fault_line (TooManyVars line) = line
fault_line (TooManyLines line) = line
fault_line (WrongKind line) = line
fault_line (TooManyStatements line) = line
fault_line (TooManyAtoms line) = line
fault_line (TooDeep line) = line
fault_line (AssertMode line) = line
fault_line (ReportFault line) = line

abbrev pub fault_column : Fault → List ℕ
fault_column (Syntax line column) = codes ", column " ++ decimal column
fault_column _ = []

abbrev pub fault_words : Fault → List ℕ
fault_words (Syntax line column) = codes ": syntax"
fault_words (NumberRange line) = codes ": number out of range"
fault_words (UnknownName line) = codes ": unknown name"
fault_words (DuplicateName line) = codes ": duplicate name"
fault_words (TooManyVars line) = codes ": too many variables"
fault_words (TooManyLines line) = codes ": too many lines"
fault_words (WrongKind line) = codes ": wrong kind"
fault_words (TooManyStatements line) = codes ": too many statements"
fault_words (TooManyAtoms line) = codes ": too many atoms"
fault_words (TooDeep line) = codes ": nested too deep"
fault_words (AssertMode line) = codes ": assert not in this mode"
fault_words (ReportFault line) = codes ": report fault"

-- where a text is wrong, and how
abbrev pub fault_text : Fault → List ℕ
fault_text fault = (codes "line " ++ decimal (fault_line fault)) ++ (fault_column fault ++ fault_words fault)
