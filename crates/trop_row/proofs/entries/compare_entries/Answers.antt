use Rattle.std.proofs.Common.{arith, sym, ◌∙◌, Equal}
use Rattle.trop_theory.specs.Compare.{compare}
use Rattle.trop_row.proofs.Lexicographic.{past_first, past_second, step}
use Rattle.trop_row.proofs.entries.compare_entries.Goals as goal

pub returns-then-i-b : goal.returns-then-i-b
returns-then-i-b g c = past_second (compare g.S.PartialEq.eq g.S.Scalar.ring) c.args.a.now c.args.b.now c.loop-i.i
    (omega arith) (omega arith) c.loop-i.invariant.1 g.S.Scalar.ring.zero

pub loop-i-preserved : goal.loop-i-preserved
loop-i-preserved g c = (
  omega arith,
  step (compare g.S.PartialEq.eq g.S.Scalar.ring) c.args.a.now c.args.b.now c.loop-i.i Equal _ _ c.index-a-i.is
      c.index-b-i.is (omega arith) (omega arith) (sym c.in-Equal.is ∙ c.compare_elements.ensures) c.loop-i.invariant.1,
)

pub returns-else-a-b : goal.returns-else-a-b
returns-else-a-b g c = past_first (compare g.S.PartialEq.eq g.S.Scalar.ring) c.args.a.now c.args.b.now c.loop-i.i
    (omega arith) (omega arith) c.loop-i.invariant.1 g.S.Scalar.ring.zero
