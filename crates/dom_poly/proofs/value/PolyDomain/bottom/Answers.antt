use Rattle.std.proofs.Common.{◌≡◌, suc, ap, ◌∙◌, arith}
use Rattle.trop_theory.specs.Vectors.{rows_size}
use Rattle.dom_poly.proofs.Sound.{empty_is_nothing}
use Rattle.dom_poly.proofs.value.PolyDomain.bottom.Goals as goal

pub fresh-requires : goal.fresh-requires
fresh-requires g c = record { small = omega (arith, ap (rows_size g.S.Scalar.ring) c.empty.ensures.rows) }

pub returns : goal.returns
returns g c =
    let width : c.empty.result.n ≡ suc c.args.vars = omega (arith, c.empty.ensures.width) in
    c.fresh.ensures ∙ empty_is_nothing c.args.vars c.empty.result width c.empty.ensures.rows
