use Rattle.prog_theory.specs.Limits.{program_limits}
use Rattle.prog_reading.proofs.OperandSteps.{variable_moves, variable_alone}
use Rattle.prog_reading.proofs.operands.with_sum.Goals as goal

pub returns-in-Some-clause-gives : goal.returns-in-Some-clause-gives
returns-in-Some-clause-gives c = rw (variable_moves program_limits c.args.coord _ _ _ c.in-Some.ensures.way)
    c.moved.ensures.gives

pub returns-in-None-clause-gives : goal.returns-in-None-clause-gives
returns-in-None-clause-gives c = variable_alone program_limits c.args.coord _ c.in-None.ensures.way
