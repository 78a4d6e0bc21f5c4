use Rattle.std.proofs.Common.{sym, subst, IfOk}
use Rattle.std.specs.Prelude.{IfErr}
use Rattle.trop_words.specs.declared.command.Command.TheVariants.{Int}
use Rattle.tplib_reply.specs.Meaning.{IsReply, IsRefused}
use Rattle.tplib_cmd.specs.Commands.{meaning_of}
use Rattle.tplib_cmd.proofs.answer.list_answer.Goals as goal

pub returns-then-lean-clause-reply : goal.returns-then-lean-clause-reply
returns-then-lean-clause-reply c =
    subst (λ lean. IfOk c.lean_reply.result (IsReply (meaning_of (Int lean)) c.args.bytes.now))
    (sym c.if-lean.true) c.lean_reply.ensures.reply

pub returns-then-lean-clause-refused : goal.returns-then-lean-clause-refused
returns-then-lean-clause-refused c =
    subst (λ lean. IfErr c.lean_reply.result (IsRefused (meaning_of (Int lean)) c.args.bytes.now))
    (sym c.if-lean.true) c.lean_reply.ensures.refused

pub returns-else-lean-clause-reply : goal.returns-else-lean-clause-reply
returns-else-lean-clause-reply c =
    subst (λ lean. IfOk c.int_reply.result (IsReply (meaning_of (Int lean)) c.args.bytes.now))
    (sym c.if-lean.false) c.int_reply.ensures.reply

pub returns-else-lean-clause-refused : goal.returns-else-lean-clause-refused
returns-else-lean-clause-refused c =
    subst (λ lean. IfErr c.int_reply.result (IsRefused (meaning_of (Int lean)) c.args.bytes.now))
    (sym c.if-lean.false) c.int_reply.ensures.refused
