use Rattle.std.proofs.Common.{◌≡◌, [], sym, ap, subst, IfOk, arith}
use Rattle.std.specs.Prelude.{IfErr}
use Rattle.tplib_reply.specs.Meaning.{IsReply, IsRefused}
use Rattle.tplib_cmd.specs.Commands.{IsInRange, reads, meaning_of}
use Rattle.tplib_cmd.proofs.answer.answer.Goals as goal

pub returns-in-Reduce-clause-reply : goal.returns-in-Reduce-clause-reply
returns-in-Reduce-clause-reply c =
    subst (λ command. IfOk c.reduce_reply.result (IsReply (meaning_of command) c.args.bytes.now))
    (sym c.in-Reduce.is) c.reduce_reply.ensures.reply

pub returns-in-Reduce-clause-refused : goal.returns-in-Reduce-clause-refused
returns-in-Reduce-clause-refused c =
    subst (λ command. IfErr c.reduce_reply.result (IsRefused (meaning_of command) c.args.bytes.now))
    (sym c.in-Reduce.is) c.reduce_reply.ensures.refused

pub returns-in-Ext-clause-reply : goal.returns-in-Ext-clause-reply
returns-in-Ext-clause-reply c =
    subst (λ command. IfOk c.ext_reply.result (IsReply (meaning_of command) c.args.bytes.now))
    (sym c.in-Ext.is) c.ext_reply.ensures.reply

pub returns-in-Ext-clause-refused : goal.returns-in-Ext-clause-refused
returns-in-Ext-clause-refused c =
    subst (λ command. IfErr c.ext_reply.result (IsRefused (meaning_of command) c.args.bytes.now))
    (sym c.in-Ext.is) c.ext_reply.ensures.refused

pub returns-in-Tangent-clause-reply : goal.returns-in-Tangent-clause-reply
returns-in-Tangent-clause-reply c =
    subst (λ command. IfOk c.tangent_reply.result (IsReply (meaning_of command) c.args.bytes.now))
    (sym c.in-Tangent.is) c.tangent_reply.ensures.reply

pub returns-in-Tangent-clause-refused : goal.returns-in-Tangent-clause-refused
returns-in-Tangent-clause-refused c =
    subst (λ command. IfErr c.tangent_reply.result (IsRefused (meaning_of command) c.args.bytes.now))
    (sym c.in-Tangent.is) c.tangent_reply.ensures.refused

pub returns-in-Int-clause-reply : goal.returns-in-Int-clause-reply
returns-in-Int-clause-reply c =
    subst (λ command. IfOk c.list_answer.result (IsReply (meaning_of command) c.args.bytes.now))
    (sym c.in-Int.is) c.list_answer.ensures.reply

pub returns-in-Int-clause-refused : goal.returns-in-Int-clause-refused
returns-in-Int-clause-refused c =
    subst (λ command. IfErr c.list_answer.result (IsRefused (meaning_of command) c.args.bytes.now))
    (sym c.in-Int.is) c.list_answer.ensures.refused

pub returns-in-Include-clause-reply : goal.returns-in-Include-clause-reply
returns-in-Include-clause-reply c =
    subst (λ command. IfOk c.pair_reply.result (IsReply (meaning_of command) c.args.bytes.now))
    (sym c.in-Include.is) c.pair_reply.ensures.reply

pub returns-in-Include-clause-refused : goal.returns-in-Include-clause-refused
returns-in-Include-clause-refused c =
    subst (λ command. IfErr c.pair_reply.result (IsRefused (meaning_of command) c.args.bytes.now))
    (sym c.in-Include.is) c.pair_reply.ensures.refused

pub returns-in-Equal-clause-reply : goal.returns-in-Equal-clause-reply
returns-in-Equal-clause-reply c =
    subst (λ command. IfOk c.pair_reply-in-Equal.result (IsReply (meaning_of command) c.args.bytes.now))
    (sym c.in-Equal.is) c.pair_reply-in-Equal.ensures.reply

pub returns-in-Equal-clause-refused : goal.returns-in-Equal-clause-refused
returns-in-Equal-clause-refused c =
    subst (λ command. IfErr c.pair_reply-in-Equal.result (IsRefused (meaning_of command) c.args.bytes.now))
    (sym c.in-Equal.is) c.pair_reply-in-Equal.ensures.refused

pub returns-in-Join-clause-reply : goal.returns-in-Join-clause-reply
returns-in-Join-clause-reply c =
    subst (λ command. IfOk c.pair_reply-in-Join.result (IsReply (meaning_of command) c.args.bytes.now))
    (sym c.in-Join.is) c.pair_reply-in-Join.ensures.reply

pub returns-in-Join-clause-refused : goal.returns-in-Join-clause-refused
returns-in-Join-clause-refused c =
    subst (λ command. IfErr c.pair_reply-in-Join.result (IsRefused (meaning_of command) c.args.bytes.now))
    (sym c.in-Join.is) c.pair_reply-in-Join.ensures.refused

pub returns-in-Meet-clause-reply : goal.returns-in-Meet-clause-reply
returns-in-Meet-clause-reply c =
    subst (λ command. IfOk c.pair_reply-in-Meet.result (IsReply (meaning_of command) c.args.bytes.now))
    (sym c.in-Meet.is) c.pair_reply-in-Meet.ensures.reply

pub returns-in-Meet-clause-refused : goal.returns-in-Meet-clause-refused
returns-in-Meet-clause-refused c =
    subst (λ command. IfErr c.pair_reply-in-Meet.result (IsRefused (meaning_of command) c.args.bytes.now))
    (sym c.in-Meet.is) c.pair_reply-in-Meet.ensures.refused

pub returns-in-Forget-clause-reply : goal.returns-in-Forget-clause-reply
returns-in-Forget-clause-reply c =
    subst (λ command. IfOk c.forget_reply.result (IsReply (meaning_of command) c.args.bytes.now))
    (sym c.in-Forget.is) c.forget_reply.ensures.reply

pub returns-in-Forget-clause-refused : goal.returns-in-Forget-clause-refused
returns-in-Forget-clause-refused c =
    subst (λ command. IfErr c.forget_reply.result (IsRefused (meaning_of command) c.args.bytes.now))
    (sym c.in-Forget.is) c.forget_reply.ensures.refused

pub returns-in-Trace-clause-reply : goal.returns-in-Trace-clause-reply
returns-in-Trace-clause-reply c =
    subst (λ command. IfOk c.trace_reply.result (IsReply (meaning_of command) c.args.bytes.now))
    (sym c.in-Trace.is) c.trace_reply.ensures.reply

pub returns-in-Trace-clause-refused : goal.returns-in-Trace-clause-refused
returns-in-Trace-clause-refused c =
    subst (λ command. IfErr c.trace_reply.result (IsRefused (meaning_of command) c.args.bytes.now))
    (sym c.in-Trace.is) c.trace_reply.ensures.refused

pub trace_reply-requires-clause-turns : goal.trace_reply-requires-clause-turns
trace_reply-requires-clause-turns c = subst IsInRange c.in-Trace.is c.requires.range

pub returns-in-Analyze-clause-reply : goal.returns-in-Analyze-clause-reply
returns-in-Analyze-clause-reply c =
    subst (λ command. IfOk c.analysis_answer.result (IsReply (meaning_of command) c.args.bytes.now))
    (sym c.in-Analyze.is) c.analysis_answer.ensures.reply

pub returns-in-Analyze-clause-refused : goal.returns-in-Analyze-clause-refused
returns-in-Analyze-clause-refused c =
    subst (λ command. IfErr c.analysis_answer.result (IsRefused (meaning_of command) c.args.bytes.now))
    (sym c.in-Analyze.is) c.analysis_answer.ensures.refused

pub analysis_answer-requires-clause-delay : goal.analysis_answer-requires-clause-delay
analysis_answer-requires-clause-delay c = (subst IsInRange c.in-Analyze.is c.requires.range).0

pub analysis_answer-requires-clause-narrow : goal.analysis_answer-requires-clause-narrow
analysis_answer-requires-clause-narrow c = (subst IsInRange c.in-Analyze.is c.requires.range).1

pub returns-in-Check-clause-reply : goal.returns-in-Check-clause-reply
returns-in-Check-clause-reply c =
    subst (λ command. IfOk c.check_reply.result (IsReply (meaning_of command) c.args.bytes.now))
    (sym c.in-Check.is) c.check_reply.ensures.reply

pub returns-in-Check-clause-refused : goal.returns-in-Check-clause-refused
returns-in-Check-clause-refused c =
    subst (λ command. IfErr c.check_reply.result (IsRefused (meaning_of command) c.args.bytes.now))
    (sym c.in-Check.is) c.check_reply.ensures.refused

pub returns-in-Sample-clause-reply : goal.returns-in-Sample-clause-reply
returns-in-Sample-clause-reply c =
    let none : c.args.bytes.now ≡ [] = c.requires.input (ap reads c.in-Sample.is) in
    subst (λ bytes. IfOk c.sample_reply.result (IsReply (meaning_of c.args.command) bytes)) (sym none)
    (subst (λ command. IfOk c.sample_reply.result (IsReply (meaning_of command) []))
    (sym c.in-Sample.is) c.sample_reply.ensures.reply)

pub returns-in-Sample-clause-refused : goal.returns-in-Sample-clause-refused
returns-in-Sample-clause-refused c =
    let none : c.args.bytes.now ≡ [] = c.requires.input (ap reads c.in-Sample.is) in
    subst (λ bytes. IfErr c.sample_reply.result (IsRefused (meaning_of c.args.command) bytes)) (sym none)
    (subst (λ command. IfErr c.sample_reply.result (IsRefused (meaning_of command) []))
    (sym c.in-Sample.is) c.sample_reply.ensures.refused)

pub sample_reply-requires-clause-seed : goal.sample_reply-requires-clause-seed
sample_reply-requires-clause-seed c = let range = subst IsInRange c.in-Sample.is c.requires.range in let seed =
    range.0 in omega arith

pub sample_reply-requires-clause-at_least : goal.sample_reply-requires-clause-at_least
sample_reply-requires-clause-at_least c = let range = subst IsInRange c.in-Sample.is c.requires.range in range.1

pub sample_reply-requires-clause-at_most : goal.sample_reply-requires-clause-at_most
sample_reply-requires-clause-at_most c = let range = subst IsInRange c.in-Sample.is c.requires.range in range.2

pub sample_reply-requires-clause-rows : goal.sample_reply-requires-clause-rows
sample_reply-requires-clause-rows c = let range = subst IsInRange c.in-Sample.is c.requires.range in range.3
