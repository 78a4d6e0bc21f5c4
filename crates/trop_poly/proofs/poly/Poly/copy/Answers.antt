use Rattle.std.proofs.Common.{◌∙◌}
use Rattle.trop_theory.specs.Combinations.{IsCombination}
use Rattle.trop_poly.proofs.Kept.{represents_itself_as, same_cone}
use Rattle.trop_poly.proofs.poly.Poly.copy.Goals as goal

pub from_canonical-requires : goal.from_canonical-requires
from_canonical-requires g c =
    let R = g.S.Scalar.ring in
    let n = c.self.inside.rows.n in
    let rows = c.self.inside.rows.rows in
    represents_itself_as R n c.in_ok-rows.rows.n (IsCombination R n rows) rows c.in_ok-rows.rows.rows
    c.in_ok-rows.ensures.width c.in_ok-rows.ensures.rows c.self.invariant

pub returns : goal.returns
returns g c = record {
  same = same_cone c.self.inside.rows.n c.from_canonical.result.n c.self.inside.rows.rows c.from_canonical.result.rows
      (c.from_canonical.ensures.width ∙ c.in_ok-rows.ensures.width)
      (c.from_canonical.ensures.rows ∙ c.in_ok-rows.ensures.rows) c.args.self.now c.self.view_is;
}
