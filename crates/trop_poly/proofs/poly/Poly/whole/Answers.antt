use Rattle.std.proofs.Common.{[], refl, ◌∙◌}
use Rattle.trop_theory.specs.Inequalities.{Solves}
use Rattle.trop_cones.specs.Sets.{IsVector}
use Rattle.trop_poly.proofs.Kept.{represents_as, represents_itself_as, represents_description, everything_solves}
use Rattle.trop_poly.proofs.poly.Poly.whole.Goals as goal

pub from_canonical-requires : goal.from_canonical-requires
from_canonical-requires g c =
    let R = g.S.Scalar.ring in
    let dd = c.in_ok-dd.dd in
    represents_itself_as R dd.n c.into_rows.result.n (Solves R dd.n dd.system) dd.rows c.into_rows.result.rows
    c.into_rows.ensures.width c.into_rows.ensures.rows
    (represents_description R dd.n dd.system dd.rows c.into_rows.ensures.described)

pub returns-clause-holds : goal.returns-clause-holds
returns-clause-holds g c =
    let R = g.S.Scalar.ring in
    represents_as R c.args.n c.args.n (Solves R c.args.n [])
    (IsVector c.args.n) c.in_ok-dd.dd.rows c.from_canonical.result.rows refl
    (c.from_canonical.ensures.rows ∙ c.into_rows.ensures.rows) (everything_solves R c.args.n)
    (represents_description R c.args.n [] c.in_ok-dd.dd.rows c.in_ok-dd.ensures.described)
