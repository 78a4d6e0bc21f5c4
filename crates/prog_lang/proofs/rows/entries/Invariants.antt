use Rattle.std.proofs.Common.{length}
use Rattle.prog_reading.specs.Left.{left}
use Rattle.prog_lang.specs.RowParts.{entries_at}
use Rattle.prog_lang.proofs.RowSteps.{IsRowing}
use Rattle.prog_lang.proofs.rows.entries.Given as goal

abbrev pub invariant-entries : goal.invariant-entries
invariant-entries l = IsRowing l.rule l.numbers (left l.rest) (entries_at l.rule l.fn.first (left l.at))

abbrev pub decreases-entries : goal.decreases-entries
decreases-entries l = length (left l.rest)
