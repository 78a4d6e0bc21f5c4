use Rattle.std.proofs.Common.{◌≡◌, ◌++◌, suc, subst, arith}
use Rattle.zone_theory.specs.Limits.{rows}
use Rattle.report_texts.specs.Printed.{lines_text}
use Rattle.zone_print.specs.Blocks.{limit_text}
use Rattle.zone_print.proofs.Lines.{rows_more}
use Rattle.zone_print.proofs.block.push_bounds.Goals as goal

pub loop-i-preserved : goal.loop-i-preserved
loop-i-preserved c = λ m e. rows_more (limit_text c.args.names.now) m (suc c.args.zone.now.vars) c.loop-i.i
    c.args.text.now.items c.loop-i.text.items c.push_row.new.text.items (c.loop-i.invariant m e)
    (c.in_ok-push_row.ensures m e)

pub returns : goal.returns
returns c = λ m e.
    let all : c.loop-i.i ≡ suc c.args.zone.now.vars = omega arith in
    subst (λ k. c.loop-i.text.items ≡ c.args.text.now.items
    ++ lines_text (limit_text c.args.names.now) (rows m (suc c.args.zone.now.vars) k)) all (c.loop-i.invariant m e)
