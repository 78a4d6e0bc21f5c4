use Rattle.std.proofs.Common.{◌∙◌, arith}
use Rattle.tplib_poly.proofs.Bounded.{bounds_are, bounds_refused, bounds_small}
use Rattle.tplib_poly.proofs.bounds.bounds_of.Goals as goal

pub external-requires : goal.external-requires
external-requires g c = let small = c.in_ok-cone.ensures.small in omega arith

pub returns-in-Ok-clause-width : goal.returns-in-Ok-clause-width
returns-in-Ok-clause-width g c = c.in-Ok.ensures.width ∙ c.in_ok-cone.ensures.width

pub returns-in-Ok-clause-bounds : goal.returns-in-Ok-clause-bounds
returns-in-Ok-clause-bounds g c =
    bounds_are g.met.S.Scalar.ring_laws c.args.gens.now.n _ c.in_ok-cone.cone.rows c.in_ok-cone.ensures.holds
    c.in_ok-cone.cone.n c.in_ok-cone.ensures.width c.in-Ok.bounds.inequalities
    (record {
      external = c.in-Ok.ensures.external;
      solutions = c.in-Ok.ensures.solutions;
      unstopped = c.in-Ok.ensures.unstopped;
    })

pub returns-in-Ok-clause-small : goal.returns-in-Ok-clause-small
returns-in-Ok-clause-small g c =
    let width = c.in_ok-cone.ensures.width in
    bounds_small _ _ c.in_ok-cone.cone.n c.in_ok-cone.ensures.small (omega arith) c.in-Ok.ensures.small

pub returns-clause-refused : goal.returns-clause-refused
returns-clause-refused g c =
    bounds_refused g.met.S.Scalar.ring_laws c.args.gens.now.n _ c.in_ok-cone.cone.rows c.in_ok-cone.ensures.holds
    c.in_ok-cone.cone.n c.in_ok-cone.ensures.width c.in-Err.e c.refusal.result c.refusal.ensures
    c.in-Err.ensures.refused
