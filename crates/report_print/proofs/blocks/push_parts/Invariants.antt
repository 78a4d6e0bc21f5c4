use Rattle.std.proofs.Common.{◌≡◌, ◌++◌, drop, map}
use Rattle.prog_graph.specs.Views.{point_of}
use Rattle.report_value.specs.Views.{parts_of}
use Rattle.report_print.specs.Texts.{blocks_text}
use Rattle.report_print.proofs.blocks.push_parts.Given as goal

abbrev pub invariant-loop-k : goal.invariant-loop-k
invariant-loop-k g l =
    let kind = g.S.Spelling.KIND in
    let N = g.S.Scalar.numbering in
    l.text.items ++ blocks_text kind N l.names l.k (drop l.k (map point_of l.points)) (drop l.k (parts_of l.parts)) ≡
    l.fn.text.items ++ blocks_text kind N l.names 0 (map point_of l.points) (parts_of l.parts)
