use Rattle.std.proofs.Common.{arith, ap, ap₂, sym, ◌∙◌}
use Rattle.trop_cones.proofs.Sizes.{size_entry}
use Rattle.trop_guard.proofs.Products.{mixed_at, mixed_small}
use Rattle.trop_guard.proofs.lower.mixed_entry.Goals as goal

pub times-requires : goal.times-requires
times-requires g c = omega (
  arith,
  ap g.S.Scalar.ring.size c.get.ensures,
  size_entry g.met.S.Scalar.ring_laws c.args.v.now c.args.j,
  c.requires.pair.v_small,
  c.requires.pair.left_small,
)

pub times-requires-2 : goal.times-requires-2
times-requires-2 g c = omega (
  arith,
  ap g.S.Scalar.ring.size c.get-2.ensures,
  size_entry g.met.S.Scalar.ring_laws c.args.w.now c.args.j,
  c.requires.pair.w_small,
  c.requires.pair.right_small,
)

pub returns-clause-value : goal.returns-clause-value
returns-clause-value g c =
    let R = g.S.Scalar.ring in
    c.plus.ensures ∙ ap₂ R.plus (c.times.ensures ∙ ap (R.times c.args.left) c.get.ensures)
    (c.times-2.ensures ∙ ap (R.times c.args.right) c.get-2.ensures)
    ∙ sym (mixed_at g.met.S.Scalar.ring_laws c.args.left c.args.right c.args.v.now c.args.w.now c.requires.pair.lengths
    c.args.j)

pub returns-clause-small : goal.returns-clause-small
returns-clause-small g c =
    let R = g.S.Scalar.ring in
    omega (
      arith,
      ap R.size (c.plus.ensures ∙ ap₂ R.plus (c.times.ensures ∙ ap (R.times c.args.left) c.get.ensures)
          (c.times-2.ensures ∙ ap (R.times c.args.right) c.get-2.ensures)),
      mixed_small g.met.S.Scalar.ring_laws c.args.v.now c.args.w.now c.args.left c.args.right c.args.j c.requires.pair,
    )
