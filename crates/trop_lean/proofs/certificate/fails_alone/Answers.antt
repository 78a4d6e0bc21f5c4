use Rattle.std.proofs.Common.{arith, sym, ◌∙◌, refl, true≢false}
use Rattle.trop_lean.proofs.Standing.{size_at}
use Rattle.trop_lean.proofs.Shown.{alone_more, alone_all, not_alone}
use Rattle.trop_lean.proofs.certificate.fails_alone.Goals as goal

pub is_as_wanted-requires-clause-sizes : goal.is_as_wanted-requires-clause-sizes
is_as_wanted-requires-clause-sizes g c = omega (
  arith,
  c.requires.sizes,
  size_at g.S.Scalar.ring c.args.kept.now c.loop-j.j c.index-kept-j.result (omega arith) c.index-kept-j.is,
)

pub returns-then-not-is_as_wanted : goal.returns-then-not-is_as_wanted
returns-then-not-is_as_wanted g c = (
  λ f. absurd (true≢false (sym f)),
  λ h. absurd (not_alone g.S.Scalar.ring c.args.kept.now c.loop-j.j c.args.k c.index-kept-j.result c.args.row.now
      (omega arith) c.index-kept-j.is
      (λ w. true≢false (sym (c.is_as_wanted.ensures.1 w) ∙ c.if-not-is_as_wanted.true)) h),
)

pub loop-j-preserved : goal.loop-j-preserved
loop-j-preserved g c = alone_more g.S.Scalar.ring c.args.kept.now c.loop-j.j c.args.k c.index-kept-j.result
    c.args.row.now (omega arith) c.index-kept-j.is c.loop-j.invariant
    (c.is_as_wanted.ensures.0 c.if-not-is_as_wanted.false)

pub returns : goal.returns
returns g c = (
  λ _. alone_all g.S.Scalar.ring c.args.kept.now c.loop-j.j c.args.k c.args.row.now
      (omega arith) c.loop-j.invariant,
  λ _. refl,
)
