use Rattle.std.proofs.Common.{◌≡◌, ◌++◌, take, drop, map}
use Rattle.trop_row.proofs.entries.scale_all.Given as goal

abbrev pub invariant-loop-x : goal.invariant-loop-x
invariant-loop-x g l = let R = g.S.Scalar.ring in l.entries ≡ map (R.times l.c) (take l.x-index l.initial.entries) ++
    drop l.x-index l.initial.entries
