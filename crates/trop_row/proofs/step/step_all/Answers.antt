use Rattle.std.proofs.Common.{sym, subst}
use Rattle.std.specs.Prelude.{All}
use Rattle.trop_theory.specs.Vectors.{AreWide}
use Rattle.trop_theory.specs.Inequalities.{IsTrueAt}
use Rattle.trop_theory.specs.StepList.{AreChosen}
use Rattle.trop_row.specs.Mixing.{CanStep, CanMix}
use Rattle.trop_row.proofs.StepMoves.{can_step, kept_can_step, can_mix, StepOutcome, step_outcome}
use Rattle.trop_row.proofs.step.step_all.Goals as goal
use Rattle.trop_row.proofs.step.step_all.Given as given

able : (g : given.Over) (c : goal.After-as_slice-rows g) → All (CanStep g.S.Scalar.ring c.args.ineq.now)
    c.as_slice-rows.result.now
able g c =
    subst (All (CanStep g.S.Scalar.ring c.args.ineq.now)) (sym c.as_slice-rows.ensures.rows)
    (can_step g.met.S.Scalar.ring_laws c.args.ineq.now c.args.gens.now.n c.args.gens.now.rows
    c.as_slice-rows.ensures.wide c.requires.wide c.requires.row_sizes c.requires.size c.requires.finite)

pub kept_rows-requires : goal.kept_rows-requires
kept_rows-requires g c = able g c

pub dropped_rows-requires : goal.dropped_rows-requires
dropped_rows-requires g c =
    subst (All (CanStep g.S.Scalar.ring c.args.ineq.now)) (sym c.as_slice-rows.ensures.rows)
    (can_step g.met.S.Scalar.ring_laws c.args.ineq.now c.args.gens.now.n c.args.gens.now.rows
    c.as_slice-rows.ensures.wide c.requires.wide c.requires.row_sizes c.requires.size c.requires.finite)

pub fresh_rows-requires-clause-step : goal.fresh_rows-requires-clause-step
fresh_rows-requires-clause-step g c =
    subst (All (CanStep g.S.Scalar.ring c.args.ineq.now)) (sym c.as_slice.ensures.value)
    (kept_can_step g.met.S.Scalar.ring_laws c.args.ineq.now c.args.gens.now.n c.args.gens.now.rows c.in_ok-out.out.items
    c.in_ok-dropped.dropped.items c.as_slice-rows.ensures.wide
    (can_step g.met.S.Scalar.ring_laws c.args.ineq.now c.args.gens.now.n c.args.gens.now.rows
    c.as_slice-rows.ensures.wide c.requires.wide c.requires.row_sizes c.requires.size c.requires.finite)
    (subst (λ v. AreChosen (IsTrueAt g.S.Scalar.ring c.args.ineq.now) v c.in_ok-out.out.items)
    c.as_slice-rows.ensures.rows c.in_ok-out.ensures)
    (subst (λ v. AreChosen (λ w. IsTrueAt g.S.Scalar.ring c.args.ineq.now w → ⊥) v c.in_ok-dropped.dropped.items)
    c.as_slice-rows.ensures.rows c.in_ok-dropped.ensures))

pub fresh_rows-requires-clause-mix : goal.fresh_rows-requires-clause-mix
fresh_rows-requires-clause-mix g c =
    let R = g.S.Scalar.ring in
    let p = c.args.ineq.now in
    subst (λ kept. All (λ v. All (CanMix R p v) c.as_slice-2.result.now) kept) (sym c.as_slice.ensures.value)
    (subst (λ dropped. All (λ v. All (CanMix R p v) dropped) c.in_ok-out.out.items) (sym c.as_slice-2.ensures.value)
    (can_mix g.met.S.Scalar.ring_laws p c.args.gens.now.n c.args.gens.now.rows c.in_ok-out.out.items
    c.in_ok-dropped.dropped.items c.as_slice-rows.ensures.wide
    (can_step g.met.S.Scalar.ring_laws c.args.ineq.now c.args.gens.now.n c.args.gens.now.rows
    c.as_slice-rows.ensures.wide c.requires.wide c.requires.row_sizes c.requires.size c.requires.finite)
    (subst (λ v. AreChosen (IsTrueAt g.S.Scalar.ring c.args.ineq.now) v c.in_ok-out.out.items)
    c.as_slice-rows.ensures.rows c.in_ok-out.ensures)
    (subst (λ v. AreChosen (λ w. IsTrueAt g.S.Scalar.ring c.args.ineq.now w → ⊥) v c.in_ok-dropped.dropped.items)
    c.as_slice-rows.ensures.rows c.in_ok-dropped.ensures)))

before : (g : given.Over) (c : goal.After-n g) → StepOutcome g.S.Scalar.ring c.args.gens.now.n c.args.ineq.now
    c.args.gens.now.rows c.append.new.self.items
before g c =
    step_outcome g.met.S.Scalar.ring_laws c.args.ineq.now c.args.gens.now.n c.args.gens.now.rows
    c.as_slice-rows.result.now c.in_ok-out.out.items c.in_ok-dropped.dropped.items c.as_slice.result.now
    c.as_slice-2.result.now c.in_ok-fresh.fresh.items c.append.new.self.items
    c.as_slice-rows.ensures.rows c.as_slice.ensures.value c.as_slice-2.ensures.value c.in_ok-append.ensures.items
    c.as_slice-rows.ensures.wide c.requires.wide c.requires.row_sizes c.requires.size c.requires.finite c.requires.few
    c.in_ok-out.ensures c.in_ok-dropped.ensures c.in_ok-fresh.ensures

pub from_rows-requires-clause-room : goal.from_rows-requires-clause-room
from_rows-requires-clause-room g c = (before g c).room

pub from_rows-requires-clause-wide : goal.from_rows-requires-clause-wide
from_rows-requires-clause-wide g c = subst (λ n. AreWide n c.append.new.self.items) (sym c.n.ensures.value)
    (before g c).wide

outcome : (g : given.Over) (c : goal.After-drop-dropped-2 g) →
    StepOutcome g.S.Scalar.ring c.args.gens.now.n c.args.ineq.now c.args.gens.now.rows c.from_rows.result.rows
outcome g c = subst (StepOutcome g.S.Scalar.ring c.args.gens.now.n c.args.ineq.now c.args.gens.now.rows)
    (sym c.from_rows.ensures.rows)
    (step_outcome g.met.S.Scalar.ring_laws c.args.ineq.now c.args.gens.now.n c.args.gens.now.rows
    c.as_slice-rows.result.now c.in_ok-out.out.items c.in_ok-dropped.dropped.items c.as_slice.result.now
    c.as_slice-2.result.now c.in_ok-fresh.fresh.items c.append.new.self.items
    c.as_slice-rows.ensures.rows c.as_slice.ensures.value c.as_slice-2.ensures.value c.in_ok-append.ensures.items
    c.as_slice-rows.ensures.wide c.requires.wide c.requires.row_sizes c.requires.size c.requires.finite c.requires.few
    c.in_ok-out.ensures c.in_ok-dropped.ensures c.in_ok-fresh.ensures)

pub returns-clause-guard : goal.returns-clause-guard
returns-clause-guard g c = (outcome g c).guard

pub returns-clause-sizes : goal.returns-clause-sizes
returns-clause-sizes g c = (outcome g c).sizes
