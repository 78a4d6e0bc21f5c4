use Rattle.std.proofs.Common.{◌∙◌, subst, sym, arith, true≢false}
use Rattle.trop_theory.specs.Combinations.{IsCombination}
use Rattle.cone_reports.specs.Verdicts.{IsFirstWithout}
use Rattle.cone_claims.proofs.Loops.{read_within}
use Rattle.prog_check.proofs.Loops.{first_at}
use Rattle.prog_check.proofs.escapes.first_outside.Goals as goal

pub member-requires-clause-target_size : goal.member-requires-clause-target_size
member-requires-clause-target_size g c =
    read_within g.S.Scalar.ring c.args.rows.now c.loop-row.row-index _ _ c.row-item.is (omega arith) c.requires.size

pub returns-then-not-member : goal.returns-then-not-member
returns-then-not-member g c =
    let P = IsCombination g.S.Scalar.ring c.args.target.now.n c.args.target.now.rows in (
      c.loop-row.row-index,
      subst (IsFirstWithout P c.args.rows.now c.loop-row.row-index) (sym c.in_ok-copy.ensures.same)
          (first_at P c.args.rows.now c.loop-row.row-index c.row-item.result c.row-item.is (omega arith)
          c.loop-row.invariant (λ m. true≢false (sym (c.member.ensures.1 m) ∙ c.if-not-member.true))),
    )
