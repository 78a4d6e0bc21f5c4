use Rattle.std.proofs.Common.{◌≡◌, ◌≤◌, length}
use Rattle.trop_theory.specs.Combinations.{IsCombination}
use Rattle.trop_theory.specs.Canonical.{row_limit}
use Rattle.trop_duality.specs.External.{IsExternalUpTo}
use Rattle.trop_duality.proofs.PolarStops.{NoneBefore}
use Rattle.trop_poly.proofs.bounds.bounds_of.Given as goal

abbrev pub invariant-loop-i : goal.invariant-loop-i
invariant-loop-i g l = record {
  width : l.system.n ≡ l.gens.n;
  up_to : IsExternalUpTo g.S.Scalar.ring l.gens.n (IsCombination g.S.Scalar.ring l.gens.n l.gens.rows)
      l.i l.system.inequalities;
  few : length l.system.inequalities ≤ row_limit;
  none : NoneBefore g.S.Scalar.ring l.gens.n l.gens.rows l.i 1;
}
