use Rattle.prog_reading.specs.Firsts.{side_start_of}
use Rattle.prog_reading.proofs.Follow.{settled}
use Rattle.prog_reading.proofs.claims.begin.Goals as goal

pub returns-clause-gives : goal.returns-clause-gives
returns-clause-gives c = settled side_start_of _ _ _ _ _ _ _ c.past-here.ensures.past c.in-Some.ensures.entry
    c.side_start.ensures c.settle.ensures
