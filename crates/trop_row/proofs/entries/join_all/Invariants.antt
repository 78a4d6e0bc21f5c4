use Rattle.std.proofs.Common.{◌≡◌, ◌++◌, take, drop}
use Rattle.trop_theory.specs.Vectors.{scaled, joined}
use Rattle.trop_row.proofs.entries.join_all.Given as goal

abbrev pub invariant-loop-i : goal.invariant-loop-i
invariant-loop-i g l = let R = g.S.Scalar.ring in l.entries ≡ joined R (take l.i l.initial.entries)
    (take l.i (scaled R l.c l.others)) ++ drop l.i l.initial.entries
