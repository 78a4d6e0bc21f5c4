use Rattle.std.proofs.Common.{take}
use Rattle.trop_lean.specs.Certificates.{FailsAlone}
use Rattle.trop_lean.proofs.certificate.fails_alone.Given as goal

abbrev pub invariant-loop-j : goal.invariant-loop-j
invariant-loop-j g l = FailsAlone g.S.Scalar.ring (take l.j l.kept) l.k l.row
