use Rattle.prog_reading.specs.Firsts.{first_of}
use Rattle.prog_reading.proofs.Follow.{settled}
use Rattle.prog_reading.proofs.operands.begin.Goals as goal

pub returns-clause-gives : goal.returns-clause-gives
returns-clause-gives c = settled first_of _ _ _ _ _ _ _ c.past-here.ensures.past c.in-Some.ensures.entry
    c.first_token.ensures c.settle.ensures
