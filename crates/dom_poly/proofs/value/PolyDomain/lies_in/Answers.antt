use Rattle.std.proofs.Common.{suc, sym, ap, ◌∙◌, arith}
use Rattle.trop_theory.specs.Vectors.{rows_size}
use Rattle.dom_poly.proofs.Named.{included_as}
use Rattle.dom_poly.proofs.value.PolyDomain.lies_in.Goals as goal

pub included-requires-clause-width : goal.included-requires-clause-width
included-requires-clause-width g c = c.poly.ensures.width ∙ ap suc c.requires ∙ sym c.poly-2.ensures.width

pub included-requires-clause-size : goal.included-requires-clause-size
included-requires-clause-size g c =
    omega (arith, ap (rows_size g.S.Scalar.ring) c.poly.ensures.rows, c.poly.ensures.small)

pub included-requires-clause-other_size : goal.included-requires-clause-other_size
included-requires-clause-other_size g c =
    omega (arith, ap (rows_size g.S.Scalar.ring) c.poly-2.ensures.rows, c.poly-2.ensures.small)

pub returns : goal.returns
returns g c = included_as g.S.Scalar.ring c.included.result c.args.self.now c.args.other.now c.poly.result.now
    c.poly-2.result.now c.poly.ensures.width c.poly.ensures.rows c.poly-2.ensures.width c.poly-2.ensures.rows
    c.included.ensures
