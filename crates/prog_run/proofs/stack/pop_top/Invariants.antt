use Rattle.std.proofs.Common.{◌≡◌, vec_len}
use Rattle.prog_run.specs.Stacks.{stack_of}
use Rattle.prog_run.proofs.stack.pop_top.Given as goal

abbrev pub invariant-rests : goal.invariant-rests
invariant-rests l = stack_of l.stack.items ≡ stack_of l.fn.stack.items

abbrev pub decreases-rests : goal.decreases-rests
decreases-rests l = vec_len l.stack
