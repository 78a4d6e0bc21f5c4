use Rattle.std.proofs.Common.{◌≡◌, ◌≤◌, ◌<◌, ◌+◌, length, take, get_or, refl, sym, ap, ◌∙◌, subst, arith}
use Rattle.std.specs.Prelude.{All}
use Rattle.trop_theory.specs.Inequalities.{IsIn, InGuard, inequality_size, system_size}
use Rattle.trop_theory.specs.Combinations.{IsCombination}
use Rattle.trop_theory.proofs.Combinations.{IsCombination-length}
use Rattle.trop_theory.specs.Sizes.{most_coefficient}
use Rattle.trop_criterion.proofs.Criterion.{All-system_size}
use Rattle.trop_cones.specs.Represents.{Represents}
use Rattle.trop_poly.specs.Refusals.{IsConeRefusal}
use Rattle.trop_poly.proofs.Kept.{represents_itself_as}
use Rattle.trop_poly.proofs.Small.{front_small}
use Rattle.trop_poly.proofs.Parts.{Part, none_over_first, none_over_more, part_first, part_more, part_refused, part_whole, part_unstopped}
use Rattle.trop_poly.proofs.narrowing.part_of.Goals as goal

pub from_canonical-part-requires : goal.from_canonical-part-requires
from_canonical-part-requires g c =
    let R = g.S.Scalar.ring in
    let n = c.args.gens.now.n in
    let rows = c.args.gens.now.rows in
    represents_itself_as R n c.in_ok-copied.field-0.n (IsCombination R n rows) rows c.in_ok-copied.field-0.rows
    c.in_ok-copied.ensures.width c.in_ok-copied.ensures.rows c.requires.kept

pub loop-k-init : goal.loop-k-init
loop-k-init g c =
    let R = g.S.Scalar.ring in
    let n = c.args.gens.now.n in
    let C = IsCombination R n c.args.gens.now.rows in
    let system = c.args.system.now.inequalities in
    record {
      width = c.from_canonical-part.ensures.width ∙ c.in_ok-copied.ensures.width;
      holds = subst (Represents R n (Part R n C system 0))
          (sym (c.from_canonical-part.ensures.rows ∙ c.in_ok-copied.ensures.rows))
          (part_first R n C system (λ x h. IsCombination-length g.met.S.Scalar.ring_laws n c.args.gens.now.rows
          x c.requires.wide h) c.args.gens.now.rows c.requires.kept);
      none = none_over_first R n (Part R n C system);
    }

pub narrowed-requires-clause-inside : goal.narrowed-requires-clause-inside
narrowed-requires-clause-inside g c =
    let S = c.as_slice-inequalities.result.now in
    let each : All (IsIn c.loop-k.part.n) S = subst (All (IsIn c.loop-k.part.n))
    (sym c.as_slice-inequalities.ensures.inequalities)
    (subst (λ m. All (IsIn m) c.args.system.now.inequalities) (c.requires.width ∙ sym c.loop-k.invariant.width)
    c.as_slice-inequalities.ensures.wide) in
    subst (IsIn c.loop-k.part.n) (sym c.index-inequalities-k.is)
    (each c.loop-k.k c.index-inequalities-k.result (omega arith))

pub narrowed-requires-clause-size : goal.narrowed-requires-clause-size
narrowed-requires-clause-size g c =
    let R = g.S.Scalar.ring in
    front_small g.met.S.Scalar.ring_laws c.args.gens.now.n c.args.gens.now.rows c.requires.wide c.requires.size
    c.requires.at_most c.args.system.now.inequalities c.loop-k.k c.loop-k.part.rows
    (subst (λ m. All (IsIn m) c.args.system.now.inequalities) c.requires.width c.as_slice-inequalities.ensures.wide)
    c.requires.coefficients c.loop-k.invariant.holds.canonical

pub narrowed-requires-clause-coefficients : goal.narrowed-requires-clause-coefficients
narrowed-requires-clause-coefficients g c =
    let R = g.S.Scalar.ring in
    let S = c.as_slice-inequalities.result.now in
    let small : system_size R S ≤ most_coefficient =
    omega (arith, c.requires.coefficients, ap (system_size R) c.as_slice-inequalities.ensures.inequalities) in
    omega (
      arith,
      ap (inequality_size R) c.index-inequalities-k.is,
      All-system_size R S most_coefficient small c.loop-k.k c.index-inequalities-k.result (omega arith),
    )

pub returns-in-Err-clause-refused : goal.returns-in-Err-clause-refused
returns-in-Err-clause-refused g c =
    let R = g.S.Scalar.ring in
    let n = c.args.gens.now.n in
    let C = IsCombination R n c.args.gens.now.rows in
    let system = c.args.system.now.inequalities in
    let read = sym (c.index-inequalities-k.is ∙ ap (λ s. get_or s c.loop-k.k c.index-inequalities-k.result)
    c.as_slice-inequalities.ensures.inequalities) in
    part_refused R n C system c.loop-k.k c.loop-k.part.n c.index-inequalities-k.result c.loop-k.part.rows
    c.loop-k.invariant.width (omega (arith, ap length c.as_slice-inequalities.ensures.inequalities)) read
    c.loop-k.invariant.holds g.met.S.Scalar.ring_laws c.in-Err.err c.loop-k.invariant.none c.in-Err.ensures.refused

pub loop-k-preserved : goal.loop-k-preserved
loop-k-preserved g c =
    let R = g.S.Scalar.ring in
    let n = c.args.gens.now.n in
    let C = IsCombination R n c.args.gens.now.rows in
    let system = c.args.system.now.inequalities in
    let read = sym (c.index-inequalities-k.is ∙ ap (λ s. get_or s c.loop-k.k c.index-inequalities-k.result)
    c.as_slice-inequalities.ensures.inequalities) in
    record {
      width = c.in-Ok.ensures.width ∙ c.loop-k.invariant.width;
      holds = part_more R n C system c.loop-k.k c.loop-k.part.n c.index-inequalities-k.result c.loop-k.part.rows
          c.loop-k.invariant.width (omega (arith, ap length c.as_slice-inequalities.ensures.inequalities)) read
          c.loop-k.invariant.holds c.in-Ok.next.rows c.in-Ok.ensures.holds;
      none = none_over_more R n (Part R n C system) c.loop-k.k c.loop-k.part.rows c.loop-k.invariant.none
          c.loop-k.invariant.holds;
    }

pub returns-clause-holds : goal.returns-clause-holds
returns-clause-holds g c =
    let R = g.S.Scalar.ring in
    let n = c.args.gens.now.n in
    part_whole R n (IsCombination R n c.args.gens.now.rows) c.args.system.now.inequalities c.loop-k.k c.loop-k.part.rows
    (omega (arith, ap length c.as_slice-inequalities.ensures.inequalities)) c.loop-k.invariant.holds

pub returns-clause-unstopped : goal.returns-clause-unstopped
returns-clause-unstopped g c =
    let R = g.S.Scalar.ring in
    let n = c.args.gens.now.n in
    part_unstopped R n (IsCombination R n c.args.gens.now.rows) c.args.system.now.inequalities c.loop-k.k
    c.loop-k.part.rows (omega (arith, ap length c.as_slice-inequalities.ensures.inequalities))
    c.loop-k.invariant.none c.loop-k.invariant.holds
