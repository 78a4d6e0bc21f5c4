use Rattle.std.proofs.Common.{◌<◌, [], ap, length, arith}
use Rattle.std.proofs.lemmas.Result.{err_from_is_err_and}
use Rattle.dom_theory.specs.Passes.{Settles, Stage}
use Rattle.dom_iter.specs.Steps.{stage}
use Rattle.dom_iter.proofs.Passing.{Points-more, Points-stops}
use Rattle.dom_iter.proofs.Settling.{Settles-values}
use Rattle.dom_iter.proofs.pass.settle.Goals as goal

pub returns-in_err-settle_point : goal.returns-in_err-settle_point
returns-in_err-settle_point g c = λ counts.
    let D = g.D.Domain.relations in
    let G = c.args.graph.now in
    let p = err_from_is_err_and c.from_residual.result c.from_residual.ensures.1 in
    let inside : c.loop-q.q < length G.points = omega (arith, ap length c.points.ensures.value, c.len-count.ensures) in
    rw (p.1, p.2) (Points-stops (Settles D G c.args.pass) G c.loop-q.q (stage c.loop-q.values.items counts)
    (stage c.args.values.now.items counts) c.in_err-settle_point.field-0.0
    inside (c.loop-q.invariant.reads counts) (rw c.spot_in-spot.ensures at c.in_err-settle_point.ensures counts))

pub loop-q-preserved : goal.loop-q-preserved
loop-q-preserved g c =
    let D = g.D.Domain.relations in
    let G = c.args.graph.now in
    let q = c.loop-q.q in
    let Step = Settles D G c.args.pass in
    let inside : q < length G.points = omega (arith, ap length c.points.ensures.value, c.len-count.ensures) in
    let some = rw c.spot_in-spot.ensures at c.in_ok-settle_point.ensures [] in
    record {
      reads = λ counts r h. let m = rw c.spot_in-spot.ensures at c.in_ok-settle_point.ensures counts in
          c.loop-q.invariant.reads counts r
          (Points-more Step (length G.points) q (stage c.loop-q.values.items counts)
          (stage c.settle_point.new.values.items counts) m.held r inside m.gives m.is h);
      are = rw (ap (λ (U : Stage _). U.values) some.is)
          (Settles-values D G c.args.pass (stage c.loop-q.values.items []) q some.held g.met.D.Domain.laws.vars
          c.points.ensures.keeps c.loop-q.invariant.are inside some.gives);
    }
