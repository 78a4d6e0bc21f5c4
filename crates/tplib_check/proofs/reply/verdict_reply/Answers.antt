use Rattle.report_value.specs.Views.{said}
use Rattle.prog_check.specs.Views.{verdict_of}
use Rattle.tplib_check.proofs.Replies.{reply_is}
use Rattle.tplib_check.proofs.reply.verdict_reply.Goals as goal

pub returns : goal.returns
returns g c =
    let v = c.in_ok-verdict.ensures in
    reply_is g.S.Spelling.KIND g.S.Scalar.ring g.S.Scalar.numbering g.S.Scalar.REVERSED (said c.args.report.now)
    c.requires.words (verdict_of c.in_ok-verdict.verdict) v.verdict v.unique v.true_at_visits c.is_inductive.result
    c.is_inductive.ensures c.in_ok-text.text.items c.in_ok-text.ensures
