use Rattle.std.proofs.Common.{◌+◌, refl, arith}
use Rattle.prog_graph.specs.Views.{point_of}
use Rattle.report_value.specs.Views.{part_of}
use Rattle.report_lines.proofs.Loops.{item_at, drop_mapped}
use Rattle.report_print.proofs.Loops.{one_block}
use Rattle.report_print.proofs.blocks.push_parts.Goals as goal

pub loop-k-preserved : goal.loop-k-preserved
loop-k-preserved g c =
    let k = c.loop-k.k in
    let points = c.args.points.now in
    let parts = c.args.parts.now in
    let each = c.requires.each in
    let x = item_at parts k (omega arith) in
    let p = item_at points k (omega (arith, each)) in
    one_block g.S.Spelling.KIND g.S.Scalar.numbering c.args.names.now _ _ k (k + 1) _ _ (point_of p.item) _ _
    (part_of x.item) _ refl c.loop-k.invariant (drop_mapped point_of points k p.item p.got)
    (drop_mapped part_of parts k x.item x.got) (c.in_ok-push_block.ensures p.item x.item p.got x.got)
