use Rattle.std.proofs.Common.{◌≡◌, ◌+◌, ◌<◌, drop, length, arith, ◌∙◌, sym, refl}
use Rattle.prog_theory.specs.Places.{entry}
use Rattle.prog_tree.specs.Stmts.{block_of}
use Rattle.prog_graph.proofs.Turns.{drop_next, entry_end, entry_more, turn_edges, turn_width, turn_modest}
use Rattle.prog_graph.proofs.edges.+edges.Goals as goal
use Rattle.prog_graph.proofs.edges.+edges.Goals.{block_edges-then-i-count, block_edges-else-i-count}

pub block_edges-loop-i-preserved : goal.block_edges-loop-i-preserved
block_edges-loop-i-preserved t c =
    let xs = c.deref-st-items.result.now in
    let i = c.loop-i.i in
    let in_range : i < length xs = omega arith in
    let step = drop_next xs i (i + 1) c.st-item.result refl in_range c.st-item.is in
    let follow : c.if-i-count.follow ≡ entry (c.loop-i.at + c.stmt_width.result) (block_of (drop (i + 1) xs))
    c.args.next =
    elim c.if-i-count.branch [
      | block_edges-then-i-count w ↦ w.follow-is ∙ sym (entry_end xs (i + 1) (c.loop-i.at + c.stmt_width.result)
          c.args.next (omega arith))
      | block_edges-else-i-count w ↦ w.follow-is ∙ sym (entry_more xs (i + 1) (c.loop-i.at + c.stmt_width.result)
          c.args.next (omega arith))
    ] in
    record {
      edges = turn_edges (drop i xs) (drop (i + 1) xs) c.st-item.result c.loop-i.at c.args.next c.if-i-count.follow
          c.stmt_width.result _ _ _ step c.stmt_width.ensures follow c.loop-i.invariant.edges
          c.in_ok-stmt_edges.ensures;
      fits = turn_width (drop i xs) (drop (i + 1) xs) c.st-item.result c.loop-i.at c.stmt_width.result _ step
          c.stmt_width.ensures c.loop-i.invariant.fits;
      modest = turn_modest (drop i xs) (drop (i + 1) xs) c.st-item.result step c.loop-i.invariant.modest;
      number = c.loop-i.invariant.number;
    }
