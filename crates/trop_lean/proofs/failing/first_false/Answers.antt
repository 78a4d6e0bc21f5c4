use Rattle.std.proofs.Common.{arith, subst, sym, ◌∙◌, true≢false}
use Rattle.std.specs.Prelude.{All}
use Rattle.std.proofs.lemmas.List.{take_all}
use Rattle.trop_theory.specs.Inequalities.{IsTrueAt}
use Rattle.trop_row.proofs.Sizes.{rows_size-read}
use Rattle.trop_lean.proofs.Taken.{true_more, first_false_at}
use Rattle.trop_lean.proofs.failing.first_false.Goals as goal

pub holds-requires-clause-sizes : goal.holds-requires-clause-sizes
holds-requires-clause-sizes g c =
    let R = g.S.Scalar.ring in
    omega (
      arith,
      c.requires.sizes,
      rows_size-read R c.args.rows.now c.loop-k.k c.index-rows-k.result c.index-rows-k.is (omega arith),
    )

pub returns-then-not-holds-clause-some : goal.returns-then-not-holds-clause-some
returns-then-not-holds-clause-some g c =
    first_false_at g.S.Scalar.ring c.args.ineq.now c.args.rows.now c.loop-k.k c.index-rows-k.result
    (omega arith) c.index-rows-k.is c.loop-k.invariant
    (λ t. true≢false (sym (c.holds.ensures.1 t) ∙ c.if-not-holds.true))

pub loop-k-preserved : goal.loop-k-preserved
loop-k-preserved g c = true_more g.S.Scalar.ring c.args.ineq.now c.args.rows.now c.loop-k.k c.index-rows-k.result
    (omega arith) c.index-rows-k.is c.loop-k.invariant (c.holds.ensures.0 c.if-not-holds.false)

pub returns-clause-none : goal.returns-clause-none
returns-clause-none g c = subst (All (IsTrueAt g.S.Scalar.ring c.args.ineq.now))
    (take_all c.loop-k.k c.args.rows.now (omega arith)) c.loop-k.invariant
