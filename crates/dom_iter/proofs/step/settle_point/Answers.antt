use Rattle.std.proofs.Common.{get_or, refl}
use Rattle.std.proofs.lemmas.List.{set-get_or}
use Rattle.std.proofs.lemmas.Result.{err_from_is_err_and}
use Rattle.dom_theory.specs.Outcomes.{goes}
use Rattle.dom_iter.specs.Steps.{stage}
use Rattle.dom_iter.proofs.Stepping.{Settles-sum_stops}
use Rattle.dom_iter.proofs.step.settle_point.Goals as goal

pub returns-in_err-sum : goal.returns-in_err-sum
returns-in_err-sum g c = λ counts.
    let p = err_from_is_err_and c.from_residual.result c.from_residual.ensures.1 in
    rw (p.1, p.2) (Settles-sum_stops g.D.Domain.relations c.args.graph.now c.args.spot.pass
    (stage c.args.values.now.items counts) c.args.spot.point c.in_err-sum.field-0.0
    (rw c.as_slice.ensures.value at c.in_err-sum.ensures.comes))

pub returns : goal.returns
returns g c = λ counts. record {
  held = record { value = c.in_ok-sum.sum; changes = get_or counts c.args.spot.point 0 };
  gives = goes c.in_ok-sum.sum (rw c.as_slice.ensures.value at c.in_ok-sum.ensures.comes) refl;
  is = rw (c.take.ensures, set-get_or counts c.args.spot.point 0) refl;
  counts = refl;
}
