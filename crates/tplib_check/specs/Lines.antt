-- The line of a verdict.
use Rattle.std.specs.Prelude.{ℕ, Bool, true, false, List, ◌++◌, codes, decimal}
use Rattle.trop_theory.specs.Numbers.{Numbering}
use Rattle.trop_spelling.specs.declared.ring_kind.RingKind.{RingKind}
use Rattle.trop_spelling.specs.Printed.{numbers, printed_row}
use Rattle.cone_reports.specs.Verdicts.{Verdict, Inductive, NotWhole, Escapes, InvFails, AssertWrong}

-- the number of the edge, and the row with its coordinate 0
abbrev pub escape_line : {V : Type 0} → RingKind → Numbering V → ℕ → List V → List ℕ
escape_line kind N edge row = codes "escapes edge " ++ decimal edge ++ codes " row " ++ printed_row kind (numbers N row)
    ++ codes "\n"

abbrev pub failure_line : ℕ → ℕ → List ℕ
failure_line point index =
    codes "invariant fails point " ++ decimal point ++ codes " number " ++ decimal index ++ codes "\n"

abbrev pub wrong_line : ℕ → List ℕ
wrong_line statement = codes "assert wrong statement " ++ decimal statement ++ codes "\n"

abbrev pub verdict_line : {V : Type 0} → RingKind → Numbering V → Verdict V → List ℕ
verdict_line kind N Inductive = codes "inductive\n"
verdict_line kind N NotWhole = codes "not whole\n"
verdict_line kind N (Escapes edge row) = escape_line kind N edge row
verdict_line kind N (InvFails point index) = failure_line point index
verdict_line kind N (AssertWrong statement) = wrong_line statement

-- whether it is the verdict that the report is inductive
abbrev pub says_inductive : {V : Type 0} → Verdict V → Bool
says_inductive Inductive = true
says_inductive NotWhole = false
says_inductive (Escapes edge row) = false
says_inductive (InvFails point index) = false
says_inductive (AssertWrong statement) = false
