use Rattle.trop_text.specs.Pieces.{pieces_of}
use Rattle.report_value.specs.Texts.{text_of}
use Rattle.tplib_check.proofs.Words.{report_words}
use Rattle.tplib_check.proofs.check.check_reply.Goals as goal

pub report_reply-requires : goal.report_reply-requires
report_reply-requires c = record {
  words = report_words (pieces_of c.args.bytes.now) (text_of c.in_ok-report.report) c.in_ok-report.ensures.found;
}

pub returns-clause-reply : goal.returns-clause-reply
returns-clause-reply c = record {
  said = text_of c.in_ok-report.report;
  spelled = c.in_ok-report.ensures.found;
  unstopped = λ cause stop h. h;
  answer = c.in_ok-reply.ensures;
}
