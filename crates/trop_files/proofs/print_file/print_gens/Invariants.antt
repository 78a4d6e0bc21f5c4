use Rattle.std.proofs.Common.{◌≡◌, ◌++◌, drop}
use Rattle.trop_files.specs.PrintedFiles.{lines_of, generator_line, printed_gens}
use Rattle.trop_spelling.specs.Printed.{numbers}
use Rattle.trop_files.proofs.print_file.print_gens.Given as goal

abbrev pub invariant-loop-row : goal.invariant-loop-row
invariant-loop-row g l =
    let kind = g.S.Spelling.KIND in
    let N = g.S.Scalar.numbering in
    l.text.items ++ lines_of (λ x. generator_line kind (numbers N x)) (drop l.row-index l.gens.rows) ≡
    printed_gens kind N l.names l.gens.rows
