use Rattle.std.proofs.Common.{ap, arith}
use Rattle.trop_theory.specs.Vectors.{rows_size}
use Rattle.prog_graph.specs.Views.{op_of}
use Rattle.dom_poly.proofs.Named.{op_in}
use Rattle.dom_poly.proofs.Fitted.{image_answered}
use Rattle.dom_poly.proofs.value.PolyDomain.image_by.Goals as goal

pub image-requires-clause-op : goal.image-requires-clause-op
image-requires-clause-op g c = record {
  fits = op_in c.args.self.now c.poly.result.now c.poly.ensures.width c.poly.ensures.rows (op_of c.args.op.now)
      c.requires.fits;
  numbers = c.requires.numbers;
}

pub image-requires-clause-small : goal.image-requires-clause-small
image-requires-clause-small g c =
    omega (arith, ap (rows_size g.S.Scalar.ring) c.poly.ensures.rows, c.poly.ensures.small)

pub returns : goal.returns
returns g c = image_answered g.met.S.Scalar.ring_laws g.S.Scalar.numbering g.S.Scalar.REVERSED (op_of c.args.op.now)
    c.args.self.now c.poly.result.now c.image.result c.fitted_from.result c.poly.ensures.width c.poly.ensures.rows
    c.poly.ensures.value c.requires.fits c.image.ensures c.fitted_from.ensures
