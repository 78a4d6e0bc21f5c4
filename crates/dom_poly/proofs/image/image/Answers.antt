use Rattle.std.proofs.Common.{sym, ◌∙◌, subst, true≢false}
use Rattle.prog_graph.specs.Views.{op_of}
use Rattle.trop_cones.specs.Sets.{IsBottom}
use Rattle.trop_cones.specs.Represents.{Represents}
use Rattle.trop_poly.specs.Cones.{InCone}
use Rattle.cone_reports.specs.Images.{InMoved}
use Rattle.dom_poly.proofs.Moves.{pointed, unpointed}
use Rattle.dom_poly.proofs.image.image.Goals as goal

pub returns-then-branch : goal.returns-then-branch
returns-then-branch g c =
    let R = g.S.Scalar.ring in
    let n = c.args.cone.now.n in
    pointed g.met.S.Scalar.ring_laws n
    (InMoved R g.S.Scalar.numbering g.S.Scalar.REVERSED n (op_of c.args.op.now) (InCone R c.args.cone.now))
    (c.in_ok-leaves_point.ensures.0 c.if-branch.true) c.moved.result c.moved.ensures

pub returns-else-branch : goal.returns-else-branch
returns-else-branch g c =
    let R = g.S.Scalar.ring in
    let n = c.args.cone.now.n in
    let width = c.n.ensures.value ∙ c.rows.ensures.width in
    unpointed g.met.S.Scalar.ring_laws n
    (InMoved R g.S.Scalar.numbering g.S.Scalar.REVERSED n (op_of c.args.op.now) (InCone R c.args.cone.now))
    (λ p. true≢false (sym (c.in_ok-leaves_point.ensures.1 p) ∙ c.if-branch.false)) c.empty.result
    (c.empty.ensures.width ∙ width)
    (subst (λ m. Represents R m (IsBottom R m) c.empty.result.rows) width c.empty.ensures.holds)
