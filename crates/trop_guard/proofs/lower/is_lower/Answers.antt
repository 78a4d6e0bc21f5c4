use Rattle.std.proofs.Common.{◌≡◌, ◌≢◌, length, refl, sym, ◌∙◌, true≢false}
use Rattle.trop_theory.specs.Vectors.{joined, scaled}
use Rattle.trop_guard.proofs.Products.{mixed_length, lower_from_parts, under_from_lower, not_over_from_lower}
use Rattle.trop_guard.proofs.lower.is_lower.Goals as goal

pub returns-then-not-is_under : goal.returns-then-not-is_under
returns-then-not-is_under g c =
    let R = g.S.Scalar.ring in
    let laws = g.met.S.Scalar.ring_laws in
    let mixed = joined R (scaled R c.args.left c.args.v.now) (scaled R c.args.right c.args.w.now) in
    let same : length mixed ≡ length c.args.x.now =
    mixed_length laws c.args.left c.args.right c.args.v.now c.args.w.now c.requires.pair.lengths
    ∙ sym c.requires.long in (
      λ e. absurd (true≢false (sym e)),
      λ h. absurd (true≢false (sym (c.is_under.ensures.1
          (under_from_lower laws mixed c.args.x.now c.args.t c.mixed_entry-top.result c.mixed_entry-top.ensures.value
          same c.requires.finite h)) ∙ c.if-not-is_under.true)),
    )

pub returns-then-is_over : goal.returns-then-is_over
returns-then-is_over g c =
    let R = g.S.Scalar.ring in
    let laws = g.met.S.Scalar.ring_laws in
    let mixed = joined R (scaled R c.args.left c.args.v.now) (scaled R c.args.right c.args.w.now) in
    let same : length mixed ≡ length c.args.x.now =
    mixed_length laws c.args.left c.args.right c.args.v.now c.args.w.now c.requires.pair.lengths
    ∙ sym c.requires.long in (
      λ e. absurd (true≢false (sym e)),
      λ h. absurd (not_over_from_lower laws mixed c.args.x.now c.args.t c.mixed_entry-top.result
          c.mixed_entry-top.ensures.value same c.requires.finite h (c.is_over.ensures.0 c.if-is_over.true)),
    )

pub returns : goal.returns
returns g c =
    let R = g.S.Scalar.ring in
    let laws = g.met.S.Scalar.ring_laws in
    let mixed = joined R (scaled R c.args.left c.args.v.now) (scaled R c.args.right c.args.w.now) in
    let same : length mixed ≡ length c.args.x.now =
    mixed_length laws c.args.left c.args.right c.args.v.now c.args.w.now c.requires.pair.lengths
    ∙ sym c.requires.long in
    let finite : c.mixed_entry-top.result ≢ R.zero =
    λ z. true≢false (sym (c.is_zero.ensures.1 z) ∙ c.if-is_zero.false) in (
      λ e. lower_from_parts laws mixed c.args.x.now c.args.t c.mixed_entry-top.result c.mixed_entry-top.ensures.value
          same c.requires.finite finite (c.is_under.ensures.0 c.if-not-is_under.false)
          (λ o. true≢false (sym (c.is_over.ensures.1 o) ∙ c.if-is_over.false)),
      λ h. refl,
    )
