use Rattle.std.proofs.Common.{◌≡◌, ◌++◌, drop}
use Rattle.tplib_lean.specs.Printed.{lean_lines, printed_lean}
use Rattle.tplib_lean.proofs.print.print_lean.Given as goal

abbrev pub invariant-loop-k : goal.invariant-loop-k
invariant-loop-k g l =
    let kind = g.S.Spelling.KIND in
    let N = g.S.Scalar.numbering in
    l.text.items ++ lean_lines kind N l.names (drop l.k l.kept) (drop l.k l.rows) ≡
    printed_lean kind N l.names l.kept l.rows
