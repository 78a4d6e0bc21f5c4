use Rattle.std.proofs.Common.{refl}
use Rattle.dom_theory.specs.Relations.{Join, Widen}
use Rattle.dom_theory.specs.Places.{Head}
use Rattle.dom_theory.specs.Outcomes.{goes, stops}
use Rattle.dom_theory.specs.Parts.{Asks}
use Rattle.dom_theory.specs.Passes.{HeadStep, joins, widens}
use Rattle.dom_core.specs.Views.{spot_of}
use Rattle.dom_iter.proofs.Comes.{StopsAt-in}
use Rattle.dom_iter.proofs.step.change.Goals as goal

pub returns-in-Ok : goal.returns-in-Ok
returns-in-Ok g c = joins (λ w. cc (c.if-included.ensures.1 w)) (rw c.vars.ensures.value at c.if-joins.ensures)
    (goes c.in-Ok.joined c.in-Ok.ensures refl)

pub returns-in-Err : goal.returns-in-Err
returns-in-Err g c =
    StopsAt-in (Asks g.D.Domain.relations (spot_of c.args.spot) Head (Join c.args.value.now c.args.sum.now))
    (HeadStep g.D.Domain.relations c.args.graph.now c.args.delay (spot_of c.args.spot) c.args.value.now c.args.changes
    c.args.sum.now)
    (λ s a. joins (λ w. cc (c.if-included.ensures.1 w)) (rw c.vars.ensures.value at c.if-joins.ensures)
    (stops s a refl)) c.in-Err.error c.in-Err.ensures

pub returns-in-Ok-widen_at : goal.returns-in-Ok-widen_at
returns-in-Ok-widen_at g c =
    let both = rw c.vars.ensures.value at c.if-joins.ensures in
    widens (λ w. cc (c.if-included.ensures.1 w)) both.0 both.1
    (goes c.in-Ok-widen_at.wider c.in-Ok-widen_at.ensures refl)

pub returns-in-Err-widen_at : goal.returns-in-Err-widen_at
returns-in-Err-widen_at g c =
    let both = rw c.vars.ensures.value at c.if-joins.ensures in
    StopsAt-in (Asks g.D.Domain.relations (spot_of c.args.spot) Head (Widen c.args.value.now c.args.sum.now))
    (HeadStep g.D.Domain.relations c.args.graph.now c.args.delay (spot_of c.args.spot) c.args.value.now c.args.changes
    c.args.sum.now)
    (λ s a. widens (λ w. cc (c.if-included.ensures.1 w)) both.0 both.1 (stops s a refl)) c.in-Err-widen_at.error
    c.in-Err-widen_at.ensures
