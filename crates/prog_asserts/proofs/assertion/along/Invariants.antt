use Rattle.std.proofs.Common.{◌≡◌, ◌++◌, drop, map}
use Rattle.prog_graph.specs.Views.{point_of}
use Rattle.prog_asserts.specs.Listed.{shown, asserts_along}
use Rattle.prog_asserts.specs.Views.{assertions}
use Rattle.prog_asserts.proofs.assertion.along.Given as goal

abbrev pub invariant-loop-p : goal.invariant-loop-p
invariant-loop-p l = assertions l.out.items ++ asserts_along l.p (map point_of (drop l.p l.points)) (shown l.stmts)
    ≡ asserts_along 0 (map point_of l.points) (shown l.stmts)
