use Rattle.std.proofs.Common.{arith, ap, ◌∙◌}
use Rattle.trop_theory.specs.Vectors.{dot, joined, scaled, row_size}
use Rattle.std.proofs.Common.{ap₂}
use Rattle.trop_theory.proofs.Mixed.{mixed_not_bottom}
use Rattle.trop_row.proofs.StepMoves.{size_left, size_right, size_mixed, normal_of}
use Rattle.trop_row.proofs.step.mixed_row.Goals as goal

pub scale-requires : goal.scale-requires
scale-requires g c =
    let R = g.S.Scalar.ring in
    omega (
      arith,
      ap R.size (c.dot.ensures ∙ ap (λ a. dot R a c.args.dropped.now) c.left.ensures.value),
      size_left g.met.S.Scalar.ring_laws c.args.ineq.now c.args.kept.now c.args.dropped.now c.requires,
      ap (row_size R) c.in_ok-row.ensures.same,
      c.requires.kept.row_small,
    )

pub join_into-requires-clause-sizes : goal.join_into-requires-clause-sizes
join_into-requires-clause-sizes g c =
    let R = g.S.Scalar.ring in
    omega (
      arith,
      ap R.size (c.dot-2.ensures ∙ ap (λ a. dot R a c.args.kept.now) c.right.ensures.value),
      size_right g.met.S.Scalar.ring_laws c.args.ineq.now c.args.kept.now c.args.dropped.now c.requires,
      c.requires.dropped.row_small,
    )

pub normalise-is_normal-requires : goal.normalise-is_normal-requires
normalise-is_normal-requires g c =
    let R = g.S.Scalar.ring in
    let left = c.dot.ensures ∙ ap (λ a. dot R a c.args.dropped.now) c.left.ensures.value in
    let right = c.dot-2.ensures ∙ ap (λ a. dot R a c.args.kept.now) c.right.ensures.value in
    let is = c.join_into.ensures ∙ ap₂ (joined R) (c.scale.ensures ∙ ap₂ (scaled R) left c.in_ok-row.ensures.same)
    (ap (λ t. scaled R t c.args.dropped.now) right) in
    omega (
      arith,
      ap (row_size R) is,
      size_mixed g.met.S.Scalar.ring_laws c.args.ineq.now c.args.kept.now
          c.args.dropped.now c.requires,
    )

pub returns : goal.returns
returns g c =
    let R = g.S.Scalar.ring in
    let left = c.dot.ensures ∙ ap (λ a. dot R a c.args.dropped.now) c.left.ensures.value in
    let right = c.dot-2.ensures ∙ ap (λ a. dot R a c.args.kept.now) c.right.ensures.value in
    let is = c.join_into.ensures ∙ ap₂ (joined R) (c.scale.ensures ∙ ap₂ (scaled R) left c.in_ok-row.ensures.same)
    (ap (λ t. scaled R t c.args.dropped.now) right) in
    normal_of g.met.S.Scalar.ring_laws c.args.ineq.now c.normalise-is_normal.result _ _ _
    c.normalise-is_normal.ensures.yes c.normalise-is_normal.ensures.no is
    (mixed_not_bottom g.met.S.Scalar.ring_laws c.args.ineq.now c.args.kept.now c.args.dropped.now c.requires.kept.sides
    c.requires.lengths c.requires.false_at c.requires.kept.finite)
