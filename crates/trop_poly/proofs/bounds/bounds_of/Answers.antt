use Rattle.std.proofs.Common.{arith, length, ap, ◌∙◌, sym, subst, ◌≡◌}
use Rattle.trop_duality.specs.PolarStops.{IsPolarStop}
use Rattle.trop_duality.proofs.PolarStops.{NoneBefore, no_stop_from_none}
use Rattle.trop_poly.specs.Bounds.{AreAppended}
use Rattle.trop_poly.proofs.Appended.{refusal_stops, up_to_next, none_next, list_stops}
use Rattle.trop_theory.specs.Vectors.{rows_size}
use Rattle.trop_theory.specs.Inequalities.{Solves}
use Rattle.trop_theory.specs.Combinations.{IsCombination}
use Rattle.trop_cones.proofs.Represented.{Represents-same}
use Rattle.trop_duality.specs.External.{IsExternal, IsExternalUpTo}
use Rattle.trop_duality.proofs.Bipolar.{bipolar}
use Rattle.trop_duality.proofs.Sizes.{external_size}
use Rattle.trop_poly.proofs.bounds.bounds_of.Goals as goal

pub returns-clause-unstopped : goal.returns-clause-unstopped
returns-clause-unstopped g c =
    let R = g.S.Scalar.ring in
    let e : c.loop-i.i ≡ c.args.gens.now.n = omega arith in
    no_stop_from_none R c.args.gens.now.n c.args.gens.now.rows 1
    (subst (λ i. NoneBefore R c.args.gens.now.n c.args.gens.now.rows i 1) e c.loop-i.invariant.none)

pub returns-in-Err-clause-stopped : goal.returns-in-Err-clause-stopped
returns-in-Err-clause-stopped g c =
    refusal_stops g.met.S.Scalar.ring_laws c.args.gens.now.n c.args.gens.now.rows c.loop-i.i c.in-Err.err
    c.loop-i.invariant.none (omega arith) c.in-Err.ensures.stopped

pub returns-then-len-gt-INEQUALITY_LIMIT-clause-stopped : goal.returns-then-len-gt-INEQUALITY_LIMIT-clause-stopped
returns-then-len-gt-INEQUALITY_LIMIT-clause-stopped g c =
    let R = g.S.Scalar.ring in
    subst (IsPolarStop R c.args.gens.now.n c.args.gens.now.rows c.loop-i.i)
    (sym (ap length c.as_slice-rows.ensures.rows))
    (list_stops g.met.S.Scalar.ring_laws c.args.gens.now.n c.args.gens.now.rows c.loop-i.i c.in-Ok.polar.rows
    c.loop-i.system.inequalities c.append_bounds.new.system.inequalities c.loop-i.invariant.up_to
    c.in-Ok.ensures.canonical
    (subst (λ rows. AreAppended R c.loop-i.i rows c.loop-i.system.inequalities c.append_bounds.new.system.inequalities)
    c.as_slice.ensures.rows c.in_ok-append_bounds.ensures.bounded)
    c.loop-i.invariant.none c.in-Ok.ensures.unstopped (omega arith) (omega arith) (omega arith))

pub loop-i-preserved : goal.loop-i-preserved
loop-i-preserved g c =
    let R = g.S.Scalar.ring in
    let laws = g.met.S.Scalar.ring_laws in
    let bounded : AreAppended R c.loop-i.i c.in-Ok.polar.rows c.loop-i.system.inequalities
    c.append_bounds.new.system.inequalities =
    subst (λ rows. AreAppended R c.loop-i.i rows c.loop-i.system.inequalities c.append_bounds.new.system.inequalities)
    c.as_slice.ensures.rows c.in_ok-append_bounds.ensures.bounded in
    record {
      width = c.in_ok-append_bounds.ensures.width ∙ c.loop-i.invariant.width;
      up_to = up_to_next laws c.args.gens.now.n c.args.gens.now.rows c.loop-i.i c.in-Ok.polar.rows
          c.loop-i.system.inequalities c.append_bounds.new.system.inequalities c.loop-i.invariant.up_to
          c.in-Ok.ensures.canonical bounded;
      few = omega arith;
      none = none_next laws c.args.gens.now.n c.args.gens.now.rows c.loop-i.i c.in-Ok.polar.rows
          c.loop-i.system.inequalities c.append_bounds.new.system.inequalities c.loop-i.invariant.up_to
          c.in-Ok.ensures.canonical bounded c.loop-i.invariant.none c.in-Ok.ensures.unstopped (omega arith);
    }

pub returns-clause-solutions : goal.returns-clause-solutions
returns-clause-solutions g c =
    let R = g.S.Scalar.ring in
    let n = c.args.gens.now.n in
    let rows = c.args.gens.now.rows in
    let e : c.loop-i.i ≡ n = omega arith in
    let external : IsExternal R n (IsCombination R n rows) c.loop-i.system.inequalities =
    subst (λ i. IsExternalUpTo R n (IsCombination R n rows) i c.loop-i.system.inequalities) e
    c.loop-i.invariant.up_to in
    Represents-same n (IsCombination R n rows) (Solves R n c.loop-i.system.inequalities)
    (λ x. let b = bipolar g.met.S.Scalar.ring_laws n rows c.as_slice-rows.ensures.wide c.loop-i.system.inequalities
    external x in (b.1, b.0)) rows c.requires.kept

pub returns-clause-small : goal.returns-clause-small
returns-clause-small g c =
    let R = g.S.Scalar.ring in
    let n = c.args.gens.now.n in
    let rows = c.args.gens.now.rows in
    let e : c.loop-i.i ≡ n = omega arith in
    external_size g.met.S.Scalar.ring_laws n rows c.as_slice-rows.ensures.wide
    (rows_size R rows) c.loop-i.system.inequalities (omega arith)
    (subst (λ i. IsExternalUpTo R n (IsCombination R n rows) i c.loop-i.system.inequalities) e c.loop-i.invariant.up_to)
