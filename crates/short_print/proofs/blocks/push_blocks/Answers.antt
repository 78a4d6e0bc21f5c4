use Rattle.std.proofs.Common.{ℕ, ◌+◌, Vec, refl, arith}
use Rattle.std.specs.declared.alloc.Global.{Global}
use Rattle.prog_graph.specs.Views.{point_of}
use Rattle.report_lines.proofs.Loops.{item_at, drop_mapped}
use Rattle.short_print.proofs.Loops.{one_block}
use Rattle.short_print.proofs.blocks.push_blocks.Goals as goal

pub loop-k-preserved : goal.loop-k-preserved
loop-k-preserved c =
    let k = c.loop-k.k in
    let points = c.args.points.now in
    let blocks = c.args.blocks.now in
    let each = c.requires.each in
    let x = item_at blocks k (omega arith) in
    let p = item_at points k (omega (arith, each)) in
    one_block _ _ k (k + 1) _ _ (point_of p.item) _ _ x.item.items _ refl c.loop-k.invariant
    (drop_mapped point_of points k p.item p.got)
    (drop_mapped (λ (b : Vec ℕ Global). b.items) blocks k x.item x.got)
    (c.in_ok-push_block.ensures p.item x.item p.got x.got)
