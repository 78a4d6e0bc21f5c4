use Rattle.std.proofs.Common.{◌≤◌, ◌^◌, arith}
use Rattle.trop_theory.specs.Inequalities.{inequality_size}
use Rattle.trop_criterion.proofs.Criterion.{All-system_size}
use Rattle.tplib_tangent.proofs.Places.{All-at}
use Rattle.tplib_tangent.proofs.EdgeLines.{edges_more}
use Rattle.tplib_tangent.proofs.solution_text.push_edges.Goals as goal

pub push_if_tight-requires-clause-size : goal.push_if_tight-requires-clause-size
push_if_tight-requires-clause-size g c =
    let R = g.S.Scalar.ring in
    All-at (λ p. inequality_size R p ≤ 2 ^ 49) c.args.system.now.inequalities c.loop-k.k c.get.result.now
    (All-system_size R c.args.system.now.inequalities (2 ^ 49) c.requires.size) c.get.ensures.value

pub loop-k-preserved : goal.loop-k-preserved
loop-k-preserved g c =
    edges_more g.S.Scalar.ring c.args.names.now c.args.row.now c.args.system.now.inequalities c.get.result.now
    c.loop-k.k c.args.text.now.items c.loop-k.text.items c.push_if_tight.new.text.items
    c.get.ensures.value c.loop-k.invariant c.in_ok-push_if_tight.ensures
