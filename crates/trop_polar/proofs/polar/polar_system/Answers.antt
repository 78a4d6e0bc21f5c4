use Rattle.std.proofs.Common.{◌∙◌, ap, map, arith}
use Rattle.std.proofs.lemmas.List.{take_all}
use Rattle.trop_duality.specs.Polars.{polar_inequality}
use Rattle.trop_polar.proofs.Systems.{solutions_are_polar}
use Rattle.trop_polar.proofs.polar.polar_system.Goals as goal

pub returns-clause-polar : goal.returns-clause-polar
returns-clause-polar g c =
    let R = g.S.Scalar.ring in
    solutions_are_polar g.met.S.Scalar.ring_laws c.args.gens.now.n c.args.i c.args.gens.now.rows
    c.loop-row.system.inequalities c.as_slice-row-items.ensures.wide
    (c.loop-row.invariant.so_far
    ∙ ap (map (polar_inequality R c.args.i))
    (take_all c.loop-row.row-index c.as_slice-row-items.result.now (omega arith)
    ∙ c.as_slice-row-items.ensures.rows))
