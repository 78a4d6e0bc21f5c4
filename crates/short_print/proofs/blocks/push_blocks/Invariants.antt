use Rattle.std.proofs.Common.{◌≡◌, ◌++◌, drop, map}
use Rattle.prog_graph.specs.Views.{point_of}
use Rattle.short_texts.specs.Short.{short_blocks}
use Rattle.short_print.specs.Blocks.{texts_of}
use Rattle.short_print.proofs.blocks.push_blocks.Given as goal

abbrev pub invariant-loop-k : goal.invariant-loop-k
invariant-loop-k l =
    l.text.items ++ short_blocks l.k (drop l.k (map point_of l.points)) (drop l.k (texts_of l.blocks)) ≡
    l.fn.text.items ++ short_blocks 0 (map point_of l.points) (texts_of l.blocks)
