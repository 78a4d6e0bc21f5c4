use Rattle.prog_theory.specs.Named.{nameless}
use Rattle.prog_run.specs.Stacks.{stack_of}
use Rattle.prog_run.proofs.Going.{Going}
use Rattle.prog_run.proofs.chosen.trace.Given as goal

abbrev pub invariant-turns : goal.invariant-turns
invariant-turns l = Going (nameless l.program) l.start l.choices l.turns l.counter l.configs
    (stack_of l.stack.items) l.state.items l.left
