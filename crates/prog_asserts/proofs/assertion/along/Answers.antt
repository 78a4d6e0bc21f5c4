use Rattle.std.proofs.Common.{arith}
use Rattle.prog_asserts.specs.Listed.{shown}
use Rattle.prog_asserts.specs.Views.{assertions}
use Rattle.prog_asserts.proofs.Turns.{along_more}
use Rattle.prog_asserts.proofs.assertion.along.Goals as goal

pub loop-p-preserved : goal.loop-p-preserved
loop-p-preserved c =
    along_more c.args.points.now c.loop-p.p _ (shown c.args.stmts.now)
    (assertions c.loop-p.out.items) (assertions c.push_at.new.out.items) _ (omega arith)
    c.loop-p.invariant c.in_ok-push_at.ensures
