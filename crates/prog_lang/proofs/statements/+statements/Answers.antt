use Rattle.std.proofs.Common.{◌<◌, ◌≤◌, length, arith, refl, sym, ◌∙◌}
use Rattle.std.proofs.lemmas.Result.{err_from_is_err_and}
use Rattle.prog_reading.specs.Left.{left}
use Rattle.prog_reading.specs.Rules.{rule_of}
use Rattle.prog_reading.proofs.Follow.{fails_from}
use Rattle.prog_reading.proofs.ConditionSteps.{roomy}
use Rattle.prog_lang.proofs.StatementSteps.{block_fails, block_goes, second_goes, second_none, ahead_first, ahead_done, ahead_wrong, ahead_next, ahead_fails, rest_asks, rest_loops, rest_sets}
use Rattle.prog_lang.proofs.statements.+statements.Goals as goal

pub block-returns-in_err-rest-clause-gives : goal.block-returns-in_err-rest-clause-gives
block-returns-in_err-rest-clause-gives t c =
    let p = err_from_is_err_and c.from_residual.result c.from_residual.ensures.1 in
    rw (p.1, p.2)
    (fails_from _ _ _ c.in_err-rest.ensures.gives
    (block_fails (rule_of c.args.rule) c.args.names.now c.args.depth _))

pub block-overflow_sub-depth : goal.block-overflow_sub-depth
block-overflow_sub-depth t c =
    let room : 0 < c.args.depth = roomy c.args.depth c.in_ok-rest.ensures.room in
    omega arith

pub block-closed-requires : goal.block-closed-requires
block-closed-requires t c =
    let room : 0 < c.args.depth = roomy c.args.depth c.in_ok-rest.ensures.room in
    (omega arith, c.requires)

pub block-returns-clause-gives : goal.block-returns-clause-gives
block-returns-clause-gives t c =
    let room : 0 < c.args.depth = roomy c.args.depth c.in_ok-rest.ensures.room in
    rw (block_goes (rule_of c.args.rule) c.args.names.now c.args.depth _ _ room c.in_ok-rest.ensures.gives)
    c.closed.ensures.gives

pub second-returns-in-Some-clause-gives : goal.second-returns-in-Some-clause-gives
second-returns-in-Some-clause-gives t c =
    rw (second_goes (rule_of c.args.rule) c.args.names.now c.args.depth _ _ c.in-Some.ensures.passed)
    c.block.ensures.gives

pub second-returns-in-None-clause-gives : goal.second-returns-in-None-clause-gives
second-returns-in-None-clause-gives t c =
    rw c.new.ensures (second_none (rule_of c.args.rule) c.args.names.now c.args.depth _ c.in-None.ensures.passed)

pub statement-returns-in-Asks-clause-gives : goal.statement-returns-in-Asks-clause-gives
statement-returns-in-Asks-clause-gives t c =
    rw c.in-Asks.is (rw (rest_asks (rule_of c.args.rule) c.args.names.now c.args.depth (left c.args.at))
    c.branch-alloc.ensures.gives)

pub statement-returns-in-Loops-clause-gives : goal.statement-returns-in-Loops-clause-gives
statement-returns-in-Loops-clause-gives t c =
    rw c.in-Loops.is (rw (rest_loops (rule_of c.args.rule) c.args.names.now c.args.depth (left c.args.at))
    c.repeated.ensures.gives)

pub statement-returns-in-Sets-clause-gives : goal.statement-returns-in-Sets-clause-gives
statement-returns-in-Sets-clause-gives t c =
    rw c.in-Sets.is (rw (rest_sets (rule_of c.args.rule) c.args.names.now c.args.depth c.in-Sets.var (left c.args.at))
    c.set.ensures.gives)

pub statements-statements-init : goal.statements-statements-init
statements-statements-init t c =
    (ahead_first (rule_of c.args.rule) c.args.names.now c.args.depth _ _ c.new-block.ensures, refl, omega arith)

pub statements-returns-in_err-verb-clause-gives : goal.statements-returns-in_err-verb-clause-gives
statements-returns-in_err-verb-clause-gives t c =
    let p = err_from_is_err_and c.from_residual.result c.from_residual.ensures.1 in
    rw (p.1, p.2) (ahead_wrong (rule_of c.args.rule) c.args.names.now c.args.depth _ _ _ _ c.statements.invariant.0
    c.in_err-verb.ensures.begins)

pub statements-returns-in_err-stmt-clause-gives : goal.statements-returns-in_err-stmt-clause-gives
statements-returns-in_err-stmt-clause-gives t c =
    let p = err_from_is_err_and c.from_residual-in_err-stmt.result c.from_residual-in_err-stmt.ensures.1 in
    let b = rw c.in-Some.is at c.in_ok-verb.ensures.begins in
    rw (p.1, p.2)
    (fails_from _ _ _ c.in_err-stmt.ensures.gives
    (λ miss e. ahead_fails (rule_of c.args.rule) c.args.names.now c.args.depth _ _ _ _ _ miss
    c.statements.invariant.0 b e))

pub statements-statements-preserved : goal.statements-statements-preserved
statements-statements-preserved t c =
    let b = rw c.in-Some.is at c.in_ok-verb.ensures.begins in
    let src = rw c.in-Some.is at c.in_ok-verb.ensures.source in
    let less = rw c.in-Some.is at c.in_ok-verb.ensures.shorter in (
      ahead_next (rule_of c.args.rule) c.args.names.now c.args.depth _ _ _ _ _ _ _ _ c.statements.invariant.0 b
          c.in_ok-stmt.ensures.gives c.in_ok-stmt.ensures.shorter c.in_ok-push.ensures.added,
      c.in_ok-stmt.ensures.source
          ∙ src ∙ c.statements.invariant.1,
      omega (arith, less, c.in_ok-stmt.ensures.shorter, c.statements.invariant.2),
    )

pub statements-returns-clause-gives : goal.statements-returns-clause-gives
statements-returns-clause-gives t c =
    let b = rw c.in_default.is at c.in_ok-verb.ensures.begins in
    ahead_done (rule_of c.args.rule) c.args.names.now c.args.depth _ _ _ c.statements.invariant.0 b
