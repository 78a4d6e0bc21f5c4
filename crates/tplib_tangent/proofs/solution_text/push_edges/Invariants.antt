use Rattle.std.proofs.Common.{take}
use Rattle.tplib_tangent.specs.Adds.{Adds}
use Rattle.tplib_tangent.specs.Tangent.{AreEdgeLines}
use Rattle.tplib_tangent.proofs.solution_text.push_edges.Given as goal

abbrev pub invariant-loop-k : goal.invariant-loop-k
invariant-loop-k g l = Adds l.fn.text.items l.text.items
    (AreEdgeLines g.S.Scalar.ring l.names l.row 1 (take l.k l.system.inequalities))
