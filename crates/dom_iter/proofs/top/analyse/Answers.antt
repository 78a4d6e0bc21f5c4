use Rattle.std.proofs.Common.{◌+◌, ◌∙◌, length, ap, refl, sym, subst}
use Rattle.std.proofs.lemmas.Result.{err_from_is_err_and}
use Rattle.dom_theory.specs.Outcomes.{Gives, Stops, goes, stops}
use Rattle.dom_theory.specs.Analysis.{Ascent, Analysis, Narrows}
use Rattle.dom_iter.specs.Fair.{IsFair}
use Rattle.dom_iter.specs.Steps.{stage}
use Rattle.dom_iter.proofs.Comes.{StopsAt-in}
use Rattle.dom_iter.proofs.Counting.{at_first-fair, at_first-is}
use Rattle.dom_theory.proofs.Walks.{analysis_covers_walks}
use Rattle.dom_iter.proofs.Exact.{ended_unstopped}
use Rattle.dom_iter.proofs.top.analyse.Goals as goal

pub ascend-requires-clause-fair : goal.ascend-requires-clause-fair
ascend-requires-clause-fair g c =
    let D = g.D.Domain.relations in
    let G = c.args.graph.now in
    let first = at_first-is D G c.in_ok-values.values.items c.in_ok-changes.changes.items _ c.in_ok-values.ensures
    c.in_ok-changes.ensures (c.len-count.ensures ∙ ap length c.points.ensures.value) in
    subst (λ S. IsFair D G c.args.delay S) (sym first) (at_first-fair D G c.args.delay g.met.D.Domain.laws)

pub returns-in_err-passes-clause-comes : goal.returns-in_err-passes-clause-comes
returns-in_err-passes-clause-comes g c =
    let D = g.D.Domain.relations in
    let G = c.args.graph.now in
    let first = at_first-is D G c.in_ok-values.values.items c.in_ok-changes.changes.items _ c.in_ok-values.ensures
    c.in_ok-changes.ensures (c.len-count.ensures ∙ ap length c.points.ensures.value) in
    let p = err_from_is_err_and c.from_residual-in_err-passes.result c.from_residual-in_err-passes.ensures.1 in
    rw (p.1, p.2) (StopsAt-in (Ascent D G c.args.delay 1
    (stage c.in_ok-values.values.items c.in_ok-changes.changes.items)) (Analysis D G c.args.delay c.args.narrow)
    (λ s x. stops s (subst (λ S. Ascent D G c.args.delay 1 S (Stops s)) first x) refl) c.in_err-passes.field-0.0
    c.in_err-passes.ensures)

pub returns-in_err-narrow_down-clause-comes : goal.returns-in_err-narrow_down-clause-comes
returns-in_err-narrow_down-clause-comes g c =
    let D = g.D.Domain.relations in
    let G = c.args.graph.now in
    let first = at_first-is D G c.in_ok-values.values.items c.in_ok-changes.changes.items _ c.in_ok-values.ensures
    c.in_ok-changes.ensures (c.len-count.ensures ∙ ap length c.points.ensures.value) in
    let T = stage c.ascend.new.values.items c.ascend.new.changes.items in
    let passes = c.in_ok-passes.passes in
    let p = err_from_is_err_and c.from_residual-in_err-narrow_down.result
    c.from_residual-in_err-narrow_down.ensures.1 in
    rw (p.1, p.2) (StopsAt-in (Narrows D G c.args.narrow (passes + 1) T) (Analysis D G c.args.delay c.args.narrow)
    (λ s x. goes (record { stage = T; passes = passes })
    (subst (λ S. Ascent D G c.args.delay 1 S (Gives (record { stage = T; passes = passes }))) first
    c.in_ok-passes.ensures.gives) (stops s x refl))
    c.in_err-narrow_down.field-0.0 (c.in_err-narrow_down.ensures c.ascend.new.changes.items))

pub returns-clause-comes : goal.returns-clause-comes
returns-clause-comes g c =
    let D = g.D.Domain.relations in
    let G = c.args.graph.now in
    let first = at_first-is D G c.in_ok-values.values.items c.in_ok-changes.changes.items _ c.in_ok-values.ensures
    c.in_ok-changes.ensures (c.len-count.ensures ∙ ap length c.points.ensures.value) in
    let T = stage c.ascend.new.values.items c.ascend.new.changes.items in
    let passes = c.in_ok-passes.passes in
    goes (record { stage = T; passes = passes })
    (subst (λ S. Ascent D G c.args.delay 1 S (Gives (record { stage = T; passes = passes }))) first
    c.in_ok-passes.ensures.gives)
    (goes (stage c.narrow_down.new.values.items c.ascend.new.changes.items)
    (c.in_ok-narrow_down.ensures c.ascend.new.changes.items).gives refl)

pub returns-clause-covers : goal.returns-clause-covers
returns-clause-covers g c =
    analysis_covers_walks g.D.Domain.relations c.args.graph.now c.args.delay c.args.narrow
    (record { values = c.narrow_down.new.values.items; passes = c.in_ok-passes.passes }) g.met.D.Domain.laws.states
    c.points.ensures.keeps (returns-clause-comes g c)

pub returns-clause-unstopped : goal.returns-clause-unstopped
returns-clause-unstopped g c =
    ended_unstopped g.D.Domain.relations c.args.graph.now c.args.delay c.args.narrow g.met.D.Domain.laws.one
    (record { values = c.narrow_down.new.values.items; passes = c.in_ok-passes.passes }) (returns-clause-comes g c)
