use Rattle.std.proofs.Common.{◌≡◌, ◌++◌, suc, Some}
use Rattle.zone_theory.specs.Matrices.{Matrix}
use Rattle.zone_theory.specs.Limits.{rows}
use Rattle.report_texts.specs.Printed.{lines_text}
use Rattle.zone_lists.specs.Zones.{matrix_if}
use Rattle.zone_print.specs.Blocks.{limit_text}
use Rattle.zone_print.proofs.block.push_bounds.Given as goal

abbrev pub invariant-loop-i : goal.invariant-loop-i
invariant-loop-i l = (m : Matrix) → matrix_if l.zone.vars l.zone.bounds ≡ Some m →
    l.text.items ≡ l.fn.text.items ++ lines_text (limit_text l.names) (rows m (suc l.zone.vars) l.i)
