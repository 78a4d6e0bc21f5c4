use Rattle.std.proofs.Common.{◌+◌, drop, ap, refl, arith}
use Rattle.prog_tree.specs.Stmts.{stmt_of}
use Rattle.dom_verdicts.specs.Claims.{IsJudgeable, IsVerdictOn, value_at}
use Rattle.dom_verdicts.proofs.Added.{if_added, while_added, none_added}
use Rattle.dom_verdicts.proofs.Claims.{drop_next, fits_more, judgeable_more, IsLeft-more, IsLeft-all}
use Rattle.dom_verdicts.proofs.asserts.+verdicts.Goals as goal

pub stmt_verdicts-returns-in_ok-behind-in-If-clause-added : goal.stmt_verdicts-returns-in_ok-behind-in-If-clause-added
stmt_verdicts-returns-in_ok-behind-in-If-clause-added g t c =
    if_added (IsVerdictOn g.D.Domain.proven (value_at g.D.Domain.relations c.args.vars c.args.values.now))
    c.block_verdicts-in-If.result _ _ _ _ c.args.point
    c.inner_points.result c.in_ok-behind-in-If.behind _ _ _ (ap stmt_of c.in-If.is) c.inner_points.ensures
    c.in_ok-behind-in-If.ensures.next c.in_ok-behind-in-If.ensures.added c.block_verdicts-in-If.ensures.added

pub stmt_verdicts-returns-in-While-clause-added : goal.stmt_verdicts-returns-in-While-clause-added
stmt_verdicts-returns-in-While-clause-added g t c =
    while_added (IsVerdictOn g.D.Domain.proven (value_at g.D.Domain.relations c.args.vars c.args.values.now))
    c.block_verdicts-in-While.result _ _ _ c.args.point
    c.inner_points-in-While.result _ _ (ap stmt_of c.in-While.is) c.inner_points-in-While.ensures
    c.block_verdicts-in-While.ensures.added

pub stmt_verdicts-returns-in-Assume-clause-added : goal.stmt_verdicts-returns-in-Assume-clause-added
stmt_verdicts-returns-in-Assume-clause-added g t c =
    none_added (IsVerdictOn g.D.Domain.proven (value_at g.D.Domain.relations c.args.vars c.args.values.now)) _ _
    c.args.point _ (ap stmt_of c.in-Assume.is) refl

pub stmt_verdicts-returns-in-Set-clause-added : goal.stmt_verdicts-returns-in-Set-clause-added
stmt_verdicts-returns-in-Set-clause-added g t c =
    none_added (IsVerdictOn g.D.Domain.proven (value_at g.D.Domain.relations c.args.vars c.args.values.now)) _ _
    c.args.point _ (ap stmt_of c.in-Set.is) refl

pub block_verdicts-loop-st-preserved : goal.block_verdicts-loop-st-preserved
block_verdicts-loop-st-preserved g t c =
    let xs = c.deref-st-items.result.now in
    let i = c.loop-st.st-index in
    let step = drop_next xs i c.st-item.result (omega arith) c.st-item.is in
    record {
      left = IsLeft-more (IsVerdictOn g.D.Domain.proven (value_at g.D.Domain.relations c.args.vars c.args.values.now))
          c.loop-st.at c.in_ok-at.at c.args.point (drop i xs)
          (drop (i + 1) xs) c.st-item.result _ _ _ c.args.block.now step c.in_ok-at.ensures.next
          c.loop-st.invariant.left
          c.in_ok-at.ensures.added;
      fits = fits_more (drop i xs) (drop (i + 1) xs) c.st-item.result c.loop-st.at c.in_ok-at.at _ step
          c.in_ok-at.ensures.next c.loop-st.invariant.fits;
      judgeable =
          (judgeable_more (IsJudgeable g.D.Domain.suits c.args.vars) (drop i xs) (drop (i + 1) xs) c.st-item.result step
          c.loop-st.invariant.judgeable).1;
    }

pub block_verdicts-returns-clause-added : goal.block_verdicts-returns-clause-added
block_verdicts-returns-clause-added g t c =
    IsLeft-all (IsVerdictOn g.D.Domain.proven (value_at g.D.Domain.relations c.args.vars c.args.values.now))
    c.loop-st.at c.args.point c.loop-st.st-index
    c.deref-st-items.result.now _ _ c.args.block.now (omega arith) c.loop-st.invariant.left
