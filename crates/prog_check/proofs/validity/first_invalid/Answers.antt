use Rattle.std.proofs.Common.{sym, ◌∙◌, arith, true≢false}
use Rattle.trop_theory.specs.Inequalities.{IsValidOn}
use Rattle.trop_theory.specs.Combinations.{IsCombination}
use Rattle.prog_check.proofs.Lists.{size_read}
use Rattle.prog_check.proofs.Loops.{first_read, read_more, all_have}
use Rattle.prog_check.proofs.validity.first_invalid.Goals as goal

pub is_valid-requires-clause-sizes : goal.is_valid-requires-clause-sizes
is_valid-requires-clause-sizes g c =
    omega (
      arith,
      size_read g.S.Scalar.ring c.args.list.now.inequalities c.loop-k.k c.get.result.now c.get.ensures.value,
      c.requires.numbers,
      c.requires.size,
    )

pub returns-then-not-is_valid-clause-first : goal.returns-then-not-is_valid-clause-first
returns-then-not-is_valid-clause-first g c = (
  c.get.result.now,
  first_read (IsValidOn g.S.Scalar.ring (IsCombination g.S.Scalar.ring c.args.rows.now.n c.args.rows.now.rows))
      c.args.list.now.inequalities c.loop-k.k c.get.result.now c.get.ensures.value c.loop-k.invariant
      (λ v. true≢false (sym (c.is_valid.ensures.1 v) ∙ c.if-not-is_valid.true)),
)

pub loop-k-preserved : goal.loop-k-preserved
loop-k-preserved g c =
    read_more (IsValidOn g.S.Scalar.ring (IsCombination g.S.Scalar.ring c.args.rows.now.n c.args.rows.now.rows))
    c.args.list.now.inequalities c.loop-k.k c.get.result.now c.get.ensures.value c.loop-k.invariant
    (c.is_valid.ensures.0 c.if-not-is_valid.false)

pub returns-clause-first : goal.returns-clause-first
returns-clause-first g c =
    all_have (IsValidOn g.S.Scalar.ring (IsCombination g.S.Scalar.ring c.args.rows.now.n c.args.rows.now.rows))
    c.args.list.now.inequalities c.loop-k.k (omega (arith, c.len-k-end.ensures.len)) c.loop-k.invariant
