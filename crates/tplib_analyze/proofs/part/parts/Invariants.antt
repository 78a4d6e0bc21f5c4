use Rattle.std.proofs.Common.{take}
use Rattle.std.specs.List.{AllZip}
use Rattle.tplib_analyze.specs.Parts.{IsPointMade}
use Rattle.tplib_analyze.proofs.part.parts.Given as goal

abbrev pub invariant-loop-q : goal.invariant-loop-q
invariant-loop-q g l = AllZip (IsPointMade g.S.Scalar.ring) (take l.q l.values) l.parts.items
