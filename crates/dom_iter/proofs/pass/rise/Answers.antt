use Rattle.std.proofs.Common.{◌<◌, ap, subst, sym, length, arith}
use Rattle.std.proofs.lemmas.Result.{err_from_is_err_and}
use Rattle.dom_theory.specs.Passes.{Rises, Stage}
use Rattle.dom_iter.specs.Fair.{IsFair}
use Rattle.dom_iter.specs.Steps.{stage}
use Rattle.dom_iter.proofs.Passing.{Points-more, Points-stops}
use Rattle.dom_iter.proofs.Fairness.{Rises-fair, IsFair-put}
use Rattle.dom_iter.proofs.Counting.{counts_more}
use Rattle.dom_iter.proofs.pass.rise.Goals as goal

pub returns-in_err-moved : goal.returns-in_err-moved
returns-in_err-moved g c =
    let D = g.D.Domain.relations in
    let G = c.args.graph.now in
    let p = err_from_is_err_and c.from_residual.result c.from_residual.ensures.1 in
    let inside : c.loop-q.q < length G.points = omega (arith, ap length c.points.ensures.value, c.len-count.ensures) in
    rw (p.1, p.2) (Points-stops (Rises D G c.args.delay c.args.pass) G c.loop-q.q
    (stage c.loop-q.values.items c.loop-q.changes.items) (stage c.args.values.now.items c.args.changes.now.items)
    c.in_err-moved.field-0.0
    inside c.loop-q.invariant.reads (rw c.spot_in-spot.ensures at c.in_err-moved.ensures))

pub loop-q-preserved : goal.loop-q-preserved
loop-q-preserved g c =
    let D = g.D.Domain.relations in
    let G = c.args.graph.now in
    let q = c.loop-q.q in
    let S = stage c.loop-q.values.items c.loop-q.changes.items in
    let T = stage c.rise_point.new.values.items c.rise_point.new.changes.items in
    let Step = Rises D G c.args.delay c.args.pass in
    let m = rw c.spot_in-spot.ensures at c.in_ok-moved.ensures in
    let inside : q < length G.points = omega (arith, ap length c.points.ensures.value, c.len-count.ensures) in
    let at = Rises-fair D G c.args.delay c.args.pass S q m.held g.met.D.Domain.laws c.points.ensures.keeps
    c.loop-q.invariant.fair inside m.gives in
    let inside_changes : q < length S.changes = let e = c.loop-q.invariant.fair.counts in omega arith in
    record {
      reads = λ r h. c.loop-q.invariant.reads r
          (Points-more Step (length G.points) q S T m.held r inside m.gives m.is h);
      fair = subst (λ U. IsFair D G c.args.delay U) (sym m.is)
          (IsFair-put D G c.args.delay S q m.held inside c.loop-q.invariant.fair at);
      counts = rw (c.either-changed.ensures, ap (λ (U : Stage _). U.changes) m.is)
          (counts_more c.loop-q.changed c.in_ok-moved.moved c.args.changes.now.items S.changes q m.held.changes
          inside_changes m.counts c.loop-q.invariant.counts);
    }
