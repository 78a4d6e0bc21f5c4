use Rattle.std.proofs.Common.{◌≡◌, ◌<◌, sum, arith}
use Rattle.std.proofs.lemmas.Bool.Decides.{when_true, when_false}
use Rattle.std.proofs.lemmas.Result.{err_from_is_err_and}
use Rattle.dom_iter.specs.Steps.{stage}
use Rattle.dom_iter.proofs.Ascending.{Ascent-stops, Ascent-goes_on, Ascent-ends, all_changes}
use Rattle.dom_iter.proofs.Counting.{changes_bound}
use Rattle.dom_iter.proofs.Fairness.{IsFair-values}
use Rattle.dom_iter.proofs.top.ascend.Goals as goal

pub returns-in_err-changed : goal.returns-in_err-changed
returns-in_err-changed g c =
    let p = err_from_is_err_and c.from_residual.result c.from_residual.ensures.1 in
    rw (p.1, p.2) (Ascent-stops g.D.Domain.relations c.args.graph.now c.args.delay c.loop-changed.pass
    (stage c.loop-changed.values.items c.loop-changed.changes.items)
    (stage c.args.values.now.items c.args.changes.now.items)
    c.in_err-changed.field-0.0 c.loop-changed.invariant.reads c.in_err-changed.ensures)

pub returns-else-changed : goal.returns-else-changed
returns-else-changed g c =
    let D = g.D.Domain.relations in
    let G = c.args.graph.now in
    let S = stage c.loop-changed.values.items c.loop-changed.changes.items in
    let T = stage c.rise.new.values.items c.rise.new.changes.items in
    let m = c.in_ok-changed.ensures in
    let b = changes_bound D G c.args.delay S c.loop-changed.invariant.fair in
    record {
      gives = c.loop-changed.invariant.reads _
          (Ascent-ends D G c.args.delay c.loop-changed.pass S T m.gives
          (when_false (sum S.changes < sum T.changes) (T.changes ≡ S.changes) c.if-changed.false m.counts));
      are = IsFair-values D G c.args.delay T m.fair;
      bound = omega arith;
    }

pub overflow_add-pass : goal.overflow_add-pass
overflow_add-pass g c =
    let D = g.D.Domain.relations in
    let G = c.args.graph.now in
    let S = stage c.loop-changed.values.items c.loop-changed.changes.items in
    let b = changes_bound D G c.args.delay S c.loop-changed.invariant.fair in
    let a = all_changes D G c.args.delay g.met.D.Domain.laws c.requires.few c.vars-vars.ensures.keeps
    c.requires.delay in
    omega arith

pub loop-changed-smaller : goal.loop-changed-smaller
loop-changed-smaller g c =
    let D = g.D.Domain.relations in
    let G = c.args.graph.now in
    let S = stage c.loop-changed.values.items c.loop-changed.changes.items in
    let T = stage c.rise.new.values.items c.rise.new.changes.items in
    let m = c.in_ok-changed.ensures in
    let b = changes_bound D G c.args.delay T m.fair in
    let more = when_true (sum S.changes < sum T.changes) (T.changes ≡ S.changes) c.if-changed.true m.counts in
    omega arith

pub loop-changed-preserved : goal.loop-changed-preserved
loop-changed-preserved g c =
    let D = g.D.Domain.relations in
    let G = c.args.graph.now in
    let S = stage c.loop-changed.values.items c.loop-changed.changes.items in
    let T = stage c.rise.new.values.items c.rise.new.changes.items in
    let m = c.in_ok-changed.ensures in
    let more = when_true (sum S.changes < sum T.changes) (T.changes ≡ S.changes) c.if-changed.true m.counts in
    record {
      reads = λ r h. c.loop-changed.invariant.reads r
          (Ascent-goes_on D G c.args.delay c.loop-changed.pass S T r m.gives more h);
      fair = m.fair;
      counted = let k = c.loop-changed.invariant.counted in omega arith;
    }
