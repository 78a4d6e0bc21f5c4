use Rattle.std.proofs.Common.{arith}
use Rattle.trop_row.proofs.Sizes.{system_size-taken}
use Rattle.trop_row.proofs.largest.system_size.Goals as goal

pub loop-ineq-preserved : goal.loop-ineq-preserved
loop-ineq-preserved g c =
    omega (
      arith,
      c.greater-largest.ensures,
      c.largest_coefficient.ensures,
      c.loop-ineq.invariant,
      system_size-taken g.S.Scalar.ring c.args.system.now c.loop-ineq.ineq-index c.ineq-item.result (omega arith)
          c.ineq-item.is,
    )
