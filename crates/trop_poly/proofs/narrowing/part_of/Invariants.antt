use Rattle.std.proofs.Common.{◌≡◌}
use Rattle.trop_theory.specs.Combinations.{IsCombination}
use Rattle.trop_cones.specs.Represents.{Represents}
use Rattle.trop_poly.proofs.Parts.{NoneOver, Part}
use Rattle.trop_poly.proofs.narrowing.part_of.Given as goal

abbrev pub invariant-loop-k : goal.invariant-loop-k
invariant-loop-k g l = let R = g.S.Scalar.ring in record {
  width : l.part.n ≡ l.gens.n;
  holds : Represents R l.gens.n (Part R l.gens.n (IsCombination R l.gens.n l.gens.rows) l.system.inequalities l.k)
      l.part.rows;
  none : NoneOver R l.gens.n (Part R l.gens.n (IsCombination R l.gens.n l.gens.rows) l.system.inequalities) l.k;
}
