use Rattle.std.proofs.Common.{sym, subst, IfOk}
use Rattle.std.specs.Prelude.{IfErr}
use Rattle.tplib_reply.specs.Meaning.{IsReply, IsRefused}
use Rattle.tplib_cmd.specs.Analyses.{analysis_meaning}
use Rattle.tplib_cmd.proofs.answer.analysis_answer.Goals as goal

pub returns-in-Max-clause-reply : goal.returns-in-Max-clause-reply
returns-in-Max-clause-reply c =
    subst (λ mode. IfOk c.max_reply.result
    (IsReply (analysis_meaning mode c.args.delay c.args.narrow) c.args.bytes.now))
    (sym c.in-Max.is) c.max_reply.ensures.reply

pub returns-in-Max-clause-refused : goal.returns-in-Max-clause-refused
returns-in-Max-clause-refused c =
    subst (λ mode. IfErr c.max_reply.result
    (IsRefused (analysis_meaning mode c.args.delay c.args.narrow) c.args.bytes.now))
    (sym c.in-Max.is) c.max_reply.ensures.refused

pub returns-in-Min-clause-reply : goal.returns-in-Min-clause-reply
returns-in-Min-clause-reply c =
    subst (λ mode. IfOk c.min_reply.result
    (IsReply (analysis_meaning mode c.args.delay c.args.narrow) c.args.bytes.now))
    (sym c.in-Min.is) c.min_reply.ensures.reply

pub returns-in-Min-clause-refused : goal.returns-in-Min-clause-refused
returns-in-Min-clause-refused c =
    subst (λ mode. IfErr c.min_reply.result
    (IsRefused (analysis_meaning mode c.args.delay c.args.narrow) c.args.bytes.now))
    (sym c.in-Min.is) c.min_reply.ensures.refused

pub returns-in-Mixed-clause-reply : goal.returns-in-Mixed-clause-reply
returns-in-Mixed-clause-reply c =
    subst (λ mode. IfOk c.mixed_reply.result
    (IsReply (analysis_meaning mode c.args.delay c.args.narrow) c.args.bytes.now))
    (sym c.in-Mixed.is) c.mixed_reply.ensures.reply

pub returns-in-Mixed-clause-refused : goal.returns-in-Mixed-clause-refused
returns-in-Mixed-clause-refused c =
    subst (λ mode. IfErr c.mixed_reply.result
    (IsRefused (analysis_meaning mode c.args.delay c.args.narrow) c.args.bytes.now))
    (sym c.in-Mixed.is) c.mixed_reply.ensures.refused

pub returns-in-Zone-clause-reply : goal.returns-in-Zone-clause-reply
returns-in-Zone-clause-reply c =
    subst (λ mode. IfOk c.zone_reply.result
    (IsReply (analysis_meaning mode c.args.delay c.args.narrow) c.args.bytes.now))
    (sym c.in-Zone.is) c.zone_reply.ensures.reply

pub returns-in-Zone-clause-refused : goal.returns-in-Zone-clause-refused
returns-in-Zone-clause-refused c =
    subst (λ mode. IfErr c.zone_reply.result
    (IsRefused (analysis_meaning mode c.args.delay c.args.narrow) c.args.bytes.now))
    (sym c.in-Zone.is) c.zone_reply.ensures.refused
