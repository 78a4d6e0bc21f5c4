use Rattle.std.proofs.Common.{sym, subst}
use Rattle.std.specs.Prelude.{IfOk}
use Rattle.report_texts.specs.Modes.{is_reversed}
use Rattle.report_texts.specs.Reports.{said_by}
use Rattle.report_value.specs.Texts.{text_of}
use Rattle.tplib_check.specs.Words.{HasSuitableWords}
use Rattle.tplib_check.specs.Answers.{IsCheckAnswer}
use Rattle.tplib_check.proofs.reply.report_reply.Goals as goal

pub verdict_reply-requires : goal.verdict_reply-requires
verdict_reply-requires c = record {
  words = subst (λ r. HasSuitableWords (is_reversed (text_of r).mode) (said_by (text_of r)).program) c.in-Max.is
      c.requires.words;
}

pub verdict_reply-requires-in-Min : goal.verdict_reply-requires-in-Min
verdict_reply-requires-in-Min c = record {
  words = subst (λ r. HasSuitableWords (is_reversed (text_of r).mode) (said_by (text_of r)).program) c.in-Min.is
      c.requires.words;
}

pub returns-in-Max : goal.returns-in-Max
returns-in-Max c = subst (λ r. IfOk c.verdict_reply.result
    (λ reply. IsCheckAnswer (text_of r) reply.yes reply.text.items)) (sym c.in-Max.is) c.verdict_reply.ensures

pub returns-in-Min : goal.returns-in-Min
returns-in-Min c = subst (λ r. IfOk c.verdict_reply-in-Min.result
    (λ reply. IsCheckAnswer (text_of r) reply.yes reply.text.items)) (sym c.in-Min.is) c.verdict_reply-in-Min.ensures
