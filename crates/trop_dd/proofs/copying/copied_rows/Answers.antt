use Rattle.std.proofs.Common.{◌∙◌, arith}
use Rattle.std.proofs.lemmas.List.{take_all}
use Rattle.trop_dd.proofs.Copies.{copied_more}
use Rattle.trop_dd.proofs.copying.copied_rows.Goals as goal

pub loop-row-preserved : goal.loop-row-preserved
loop-row-preserved g c = copied_more c.args.rows.now c.loop-row.copies.items c.push.new.self.items c.loop-row.row-index
    c.row-item.result c.in_ok-copy.field-0 (omega arith) c.row-item.is c.in_ok-copy.ensures.same c.loop-row.invariant
    c.in_ok-push.ensures.items

pub returns : goal.returns
returns g c = c.loop-row.invariant ∙ take_all c.loop-row.row-index c.args.rows.now (omega arith)
