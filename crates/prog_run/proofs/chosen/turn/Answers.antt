use Rattle.prog_run.proofs.Stacks.{ready_numbered, top_ready}
use Rattle.prog_run.specs.Stacks.{stack_of, top_of}
use Rattle.std.proofs.Common.{length}
use Rattle.prog_run.proofs.chosen.turn.Goals as goal

pub next_config-requires : goal.next_config-requires
next_config-requires c = ready_numbered (length c.args.state.now) (stack_of c.args.stack.now.items) c.requires.ready
