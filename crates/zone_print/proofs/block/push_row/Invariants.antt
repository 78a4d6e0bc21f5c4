use Rattle.std.proofs.Common.{◌≡◌, ◌++◌, Some}
use Rattle.zone_theory.specs.Matrices.{Matrix}
use Rattle.zone_theory.specs.Limits.{row}
use Rattle.report_texts.specs.Printed.{lines_text}
use Rattle.zone_lists.specs.Zones.{matrix_if}
use Rattle.zone_print.specs.Blocks.{limit_text}
use Rattle.zone_print.proofs.block.push_row.Given as goal

abbrev pub invariant-loop-j : goal.invariant-loop-j
invariant-loop-j l = (m : Matrix) → matrix_if l.zone.vars l.zone.bounds ≡ Some m →
    l.text.items ≡ l.fn.text.items ++ lines_text (limit_text l.names) (row m l.i l.j)
