use Rattle.std.proofs.Common.{ap, arith}
use Rattle.trop_theory.specs.Sizes.{most_scaled}
use Rattle.prog_check.proofs.NormalLists.{changed_small}
use Rattle.prog_check.proofs.moved.cleared_row.Goals as goal

pub returns-clause-size : goal.returns-clause-size
returns-clause-size g c =
    changed_small g.met.S.Scalar.ring_laws c.args.row.now c.in_ok-next.next _ c.args.i c.zero.result most_scaled
    c.in_ok-next.ensures.same c.set.ensures c.requires.size
    (omega (arith, ap g.S.Scalar.ring.size c.zero.ensures, g.met.S.Scalar.ring_laws.size_zero))
