use Rattle.std.proofs.Common.{◌≡◌, ◌++◌, suc, subst, arith}
use Rattle.zone_theory.specs.Limits.{row}
use Rattle.report_texts.specs.Printed.{lines_text}
use Rattle.zone_print.specs.Blocks.{limit_text}
use Rattle.zone_print.proofs.Lines.{row_more}
use Rattle.zone_print.proofs.block.push_row.Goals as goal

pub loop-j-preserved : goal.loop-j-preserved
loop-j-preserved c = λ m e. row_more (limit_text c.args.names.now) m c.args.i c.loop-j.j c.args.text.now.items
    c.loop-j.text.items c.push_bound.new.text.items (c.loop-j.invariant m e) (c.in_ok-push_bound.ensures m e)

pub returns : goal.returns
returns c = λ m e.
    let all : c.loop-j.j ≡ suc c.args.zone.now.vars = omega arith in
    subst (λ k. c.loop-j.text.items ≡ c.args.text.now.items
    ++ lines_text (limit_text c.args.names.now) (row m c.args.i k)) all (c.loop-j.invariant m e)
