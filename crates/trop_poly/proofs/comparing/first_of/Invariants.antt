use Rattle.std.proofs.Common.{take}
use Rattle.std.specs.Prelude.{All}
use Rattle.trop_theory.specs.Combinations.{IsCombination}
use Rattle.trop_poly.proofs.comparing.first_of.Given as goal

abbrev pub invariant-loop-k : goal.invariant-loop-k
invariant-loop-k g l = All (IsCombination g.S.Scalar.ring l.gens.n l.gens.rows) (take l.k l.rows)
