use Rattle.prog_lang.specs.RowParts.{row_start_of}
use Rattle.prog_reading.proofs.Follow.{settled}
use Rattle.prog_lang.proofs.rows.begin_row.Goals as goal

pub returns-clause-gives : goal.returns-clause-gives
returns-clause-gives c =
    settled row_start_of _ _ _ _ _ _ _ c.past-here.ensures.past c.in-Some.ensures.entry c.row_first.ensures.passed
    c.settle.ensures
