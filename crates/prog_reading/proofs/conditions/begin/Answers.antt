use Rattle.prog_reading.specs.Firsts.{start_of}
use Rattle.prog_reading.proofs.Follow.{settled}
use Rattle.prog_reading.proofs.conditions.begin.Goals as goal

pub returns-clause-gives : goal.returns-clause-gives
returns-clause-gives c = settled start_of _ _ _ _ _ _ _ c.past-here.ensures.past c.in-Some.ensures.entry
    c.start_token.ensures.passed c.settle.ensures
