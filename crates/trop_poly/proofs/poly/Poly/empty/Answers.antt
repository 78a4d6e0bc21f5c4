use Rattle.std.proofs.Common.{[], refl, ◌∙◌}
use Rattle.trop_cones.specs.Sets.{IsBottom}
use Rattle.trop_poly.proofs.Kept.{represents_as, represents_itself_as, nothing_represents}
use Rattle.trop_poly.proofs.poly.Poly.empty.Goals as goal

pub from_canonical-requires : goal.from_canonical-requires
from_canonical-requires g c =
    let R = g.S.Scalar.ring in
    represents_itself_as R c.args.n c.new.result.n (IsBottom R c.args.n) [] c.new.result.rows c.new.ensures.width
    c.new.ensures.rows (nothing_represents R c.args.n)

pub returns-clause-holds : goal.returns-clause-holds
returns-clause-holds g c =
    let R = g.S.Scalar.ring in
    represents_as R c.args.n c.args.n (IsBottom R c.args.n) (IsBottom R c.args.n) [] c.from_canonical.result.rows refl
    (c.from_canonical.ensures.rows ∙ c.new.ensures.rows) (λ x. (λ h. h, λ h. h)) (nothing_represents R c.args.n)
