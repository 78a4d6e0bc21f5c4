use Rattle.std.proofs.Common.{take}
use Rattle.trop_lean.specs.Certificates.{EachFailsAlone}
use Rattle.trop_lean.proofs.certificate.certify.Given as goal

abbrev pub invariant-loop-k : goal.invariant-loop-k
invariant-loop-k g l = EachFailsAlone g.S.Scalar.ring l.kept.inequalities (take l.k l.rows)
