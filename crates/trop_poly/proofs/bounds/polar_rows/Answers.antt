use Rattle.std.proofs.Common.{arith, refl, subst, ◌^◌}
use Rattle.trop_dd.specs.Description.{IsStoppedBy}
use Rattle.trop_poly.proofs.Polars.{canonical_there, size_there, within_there, stopped_there, small_there}
use Rattle.trop_poly.proofs.bounds.polar_rows.Goals as goal

pub extreme_rows-requires : goal.extreme_rows-requires
extreme_rows-requires g c =
    let s = size_there g.met.S.Scalar.ring_laws c.args.gens.now.n c.in_ok-system.system.n c.args.i c.args.gens.now.rows
    c.requires.wide c.in_ok-system.system.inequalities c.in_ok-system.ensures.width
    c.in_ok-system.ensures.inequalities (2 ^ 48) c.requires.size in
    record { size = omega arith }

pub returns-in-Ok-clause-canonical : goal.returns-in-Ok-clause-canonical
returns-in-Ok-clause-canonical g c =
    canonical_there g.met.S.Scalar.ring_laws c.args.gens.now.n c.in_ok-system.system.n c.args.i c.args.gens.now.rows
    c.requires.wide c.in_ok-system.system.inequalities c.in_ok-system.ensures.width
    c.in_ok-system.ensures.inequalities c.in-Ok.polar.rows c.in-Ok.ensures.described.canonical

pub returns-in-Ok-clause-small : goal.returns-in-Ok-clause-small
returns-in-Ok-clause-small g c =
    small_there g.met.S.Scalar.ring_laws c.args.gens.now.n c.in_ok-system.system.n c.args.i c.args.gens.now.rows
    c.requires.wide c.in_ok-system.system.inequalities c.in_ok-system.ensures.width
    c.in_ok-system.ensures.inequalities c.requires.at_most c.in-Ok.polar.rows c.requires.size c.in-Ok.ensures.small

pub returns-in-Ok-clause-unstopped : goal.returns-in-Ok-clause-unstopped
returns-in-Ok-clause-unstopped g c =
    within_there g.met.S.Scalar.ring_laws c.args.gens.now.n c.in_ok-system.system.n c.args.i c.args.gens.now.rows
    c.requires.wide c.in_ok-system.system.inequalities c.in_ok-system.ensures.width
    c.in_ok-system.ensures.inequalities c.in-Ok.ensures.within

pub returns-in-Err-Limit-clause-stopped : goal.returns-in-Err-Limit-clause-stopped
returns-in-Err-Limit-clause-stopped g c =
    let at = subst (IsStoppedBy g.S.Scalar.ring c.in_ok-system.system.n c.in_ok-system.system.inequalities)
    c.in-Err-Limit.field-0-is c.in-Err-Limit.ensures.stopped in
    let s = stopped_there g.met.S.Scalar.ring_laws c.args.gens.now.n c.in_ok-system.system.n c.args.i
    c.args.gens.now.rows c.requires.wide c.in_ok-system.system.inequalities c.in_ok-system.ensures.width
    c.in_ok-system.ensures.inequalities (omega (arith, c.requires.at_most)) c.in-Err-Limit.k at in
    (refl, s.0, s.1, s.2, s.3)
