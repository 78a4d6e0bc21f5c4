use Rattle.std.proofs.Common.{◌∙◌, arith}
use Rattle.std.proofs.lemmas.List.{take_all}
use Rattle.trop_dd.proofs.Copies.{copied_more}
use Rattle.trop_dd.proofs.copying.copied_sides.Goals as goal

pub loop-side-preserved : goal.loop-side-preserved
loop-side-preserved g c = copied_more c.args.sides.now c.loop-side.copies.items c.push.new.self.items
    c.loop-side.side-index c.side-item.result c.in_ok-copy.field-0
    (omega arith) c.side-item.is c.in_ok-copy.ensures c.loop-side.invariant c.in_ok-push.ensures.items

pub returns : goal.returns
returns g c = c.loop-side.invariant ∙ take_all c.loop-side.side-index c.args.sides.now (omega arith)
