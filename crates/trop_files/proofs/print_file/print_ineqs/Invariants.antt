use Rattle.std.proofs.Common.{◌≡◌, ◌++◌, drop}
use Rattle.trop_files.specs.PrintedFiles.{lines_of, printed_ineqs}
use Rattle.trop_spelling.specs.Printed.{printed_inequality}
use Rattle.trop_files.proofs.print_file.print_ineqs.Given as goal

abbrev pub invariant-loop-ineq : goal.invariant-loop-ineq
invariant-loop-ineq g l =
    let kind = g.S.Spelling.KIND in
    let N = g.S.Scalar.numbering in
    l.text.items ++ lines_of (printed_inequality kind N l.names) (drop l.ineq-index l.system.inequalities) ≡
    printed_ineqs kind N l.names l.system.inequalities
