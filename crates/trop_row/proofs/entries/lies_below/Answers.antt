use Rattle.std.proofs.Common.{arith, sym, ◌∙◌, true≢false}
use Rattle.trop_theory.proofs.Sizes.{size_read}
use Rattle.trop_row.proofs.Steps.{below_at}
use Rattle.trop_row.proofs.entries.lies_below.Goals as goal

pub times-requires : goal.times-requires
times-requires g c = size_read g.S.Scalar.ring _ _ _ _ _ c.index-row-i.is (omega arith) c.requires.sizes

pub returns-then-not-le : goal.returns-then-not-le
returns-then-not-le g c = (
  λ f. absurd (true≢false (sym f)),
  λ below. sym c.if-not-le.true ∙ c.le.ensures.1 (below_at g.met.S.Scalar.ring_laws c.args.c c.args.row.now
      c.args.above.now c.loop-i.i _ _ _ c.index-row-i.is c.times.ensures c.index-above-i.is (omega arith) (omega arith)
      below),
)
