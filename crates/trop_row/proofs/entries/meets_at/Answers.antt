use Rattle.std.proofs.Common.{arith, sym, ap, ◌∙◌, true≢false}
use Rattle.trop_row.proofs.Steps.{zero_read, meets_read, size_of_quotient}
use Rattle.trop_row.proofs.entries.meets_at.Goals as goal

pub returns-then-is_zero : goal.returns-then-is_zero
returns-then-is_zero g c = (
  λ f. absurd (true≢false (sym f)),
  λ m. absurd (zero_read g.met.S.Scalar.ring_laws c.args.target.now c.args.row.now c.args.t _ c.index-row-t.is
      (omega arith) (c.is_zero.ensures.0 c.if-is_zero.true) c.requires.finite m),
)

pub times-requires : goal.times-requires
times-requires g c =
    omega (
      arith,
      size_of_quotient g.met.S.Scalar.ring_laws c.args.target.now c.args.row.now c.args.t _ _ _ _ _ c.index-row-t.is
          c.index-target-t.is (omega arith) (omega arith) c.inverse.ensures
          (λ z. true≢false (sym (c.is_zero.ensures.1 z) ∙ c.if-is_zero.false)) c.requires.target_size
          c.requires.row_size,
    )

pub lies_below-requires-clause-sizes : goal.lies_below-requires-clause-sizes
lies_below-requires-clause-sizes g c =
    omega (
      arith,
      ap g.S.Scalar.ring.size c.times.ensures,
      g.met.S.Scalar.ring_laws.size_times c.index-target-t.result c.inverse.result,
      size_of_quotient g.met.S.Scalar.ring_laws c.args.target.now c.args.row.now c.args.t _ _ _ _ _ c.index-row-t.is
          c.index-target-t.is (omega arith) (omega arith) c.inverse.ensures
          (λ z. true≢false (sym (c.is_zero.ensures.1 z) ∙ c.if-is_zero.false)) c.requires.target_size
          c.requires.row_size,
    )

pub returns : goal.returns
returns g c =
    let both = meets_read g.met.S.Scalar.ring_laws c.args.target.now c.args.row.now c.args.t _ _ _ _ c.index-row-t.is
    c.index-target-t.is (omega arith) (omega arith) c.inverse.ensures c.times.ensures
    (λ z. true≢false (sym (c.is_zero.ensures.1 z) ∙ c.if-is_zero.false)) in
    (λ b. both.0 (c.lies_below.ensures.0 b), λ m. c.lies_below.ensures.1 (both.1 m))
