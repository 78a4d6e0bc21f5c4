use Rattle.std.proofs.Common.{◌≡◌, ◌∙◌, [], sym, subst}
use Rattle.tplib_cmd.specs.Commands.{reads}
use Rattle.tplib_cmd.proofs.Ending.{no_bytes}
use Rattle.tplib_cmd.proofs.top.run_command.Goals as goal

pub answer-requires-clause-input : goal.answer-requires-clause-input
answer-requires-clause-input g c = λ unread. c.deref.ensures.value
    ∙ no_bytes (reads c.args.command) _ _ c.in-Ok.bytes.items c.in-Ok.ensures unread
