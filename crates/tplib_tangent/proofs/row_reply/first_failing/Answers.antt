use Rattle.std.proofs.Common.{◌≡◌, ◌≤◌, ◌^◌, arith, true≢false, sym, ◌∙◌, subst, length}
use Rattle.trop_theory.specs.Inequalities.{IsTrueAt, inequality_size, system_size}
use Rattle.trop_criterion.proofs.Criterion.{All-system_size}
use Rattle.tplib_tangent.proofs.Places.{All-at, All-take_more, All-take_all, same_item}
use Rattle.tplib_tangent.proofs.row_reply.first_failing.Goals as goal

pub holds-requires-clause-sizes : goal.holds-requires-clause-sizes
holds-requires-clause-sizes g c =
    let R = g.S.Scalar.ring in
    omega (
      arith,
      All-at (λ p. inequality_size R p ≤ 2 ^ 49) c.args.system.now.inequalities c.loop-k.k c.get.result.now
          (All-system_size R c.args.system.now.inequalities (2 ^ 49) c.requires.size) c.get.ensures.value,
    )

pub returns-then-not-holds-clause-first : goal.returns-then-not-holds-clause-first
returns-then-not-holds-clause-first g c = record {
  within = omega arith;
  before = c.loop-k.invariant;
  fails = λ p e t. true≢false (sym (c.holds.ensures.1
      (subst (λ q. IsTrueAt g.S.Scalar.ring q c.args.row.now)
      (same_item c.args.system.now.inequalities c.loop-k.k p c.get.result.now e c.get.ensures.value) t))
      ∙ c.if-not-holds.true);
}

pub loop-k-preserved : goal.loop-k-preserved
loop-k-preserved g c = All-take_more (λ p. IsTrueAt g.S.Scalar.ring p c.args.row.now) c.args.system.now.inequalities
    c.loop-k.k c.get.result.now c.loop-k.invariant c.get.ensures.value (c.holds.ensures.0 c.if-not-holds.false)

pub returns-clause-first : goal.returns-clause-first
returns-clause-first g c = record {
  wide = c.requires.wide;
  holds = All-take_all (λ p. IsTrueAt g.S.Scalar.ring p c.args.row.now) c.args.system.now.inequalities c.loop-k.k
      (omega arith) c.loop-k.invariant;
}
