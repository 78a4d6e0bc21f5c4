use Rattle.std.proofs.Common.{◌≡◌, ◌+◌, drop}
use Rattle.prog_theory.specs.Each.{EachClaims}
use Rattle.prog_theory.specs.Places.{widths}
use Rattle.prog_tree.specs.Stmts.{block_of}
use Rattle.dom_verdicts.specs.Claims.{IsJudgeable, IsVerdictOn, value_at}
use Rattle.dom_verdicts.proofs.Claims.{IsLeft}
use Rattle.dom_verdicts.proofs.asserts.+verdicts.Given as goal

abbrev pub invariant-block_verdicts-loop-st : goal.invariant-block_verdicts-loop-st
invariant-block_verdicts-loop-st g l = record {
  left : IsLeft (IsVerdictOn g.D.Domain.proven (value_at g.D.Domain.relations l.vars l.values))
      l.at (block_of (drop l.st-index l.st-items)) l.out.items l.point l.block l.fn.out.items;
  fits : l.at + widths (block_of (drop l.st-index l.st-items)) ≡ l.point + widths l.block;
  judgeable : EachClaims (IsJudgeable g.D.Domain.suits l.vars) (block_of (drop l.st-index l.st-items));
}
