use Rattle.std.proofs.Common.{take}
use Rattle.std.specs.Prelude.{All}
use Rattle.trop_theory.specs.Inequalities.{IsTrueAt}
use Rattle.tplib_tangent.proofs.row_reply.first_failing.Given as goal

abbrev pub invariant-loop-k : goal.invariant-loop-k
invariant-loop-k g l = All (λ p. IsTrueAt g.S.Scalar.ring p l.row) (take l.k l.system.inequalities)
