use Rattle.std.proofs.Common.{◌≡◌, ◌++◌, map, suc}
use Rattle.trop_theory.specs.MaxPlus.{max_ring, max_numbering}
use Rattle.zone_theory.specs.Limits.{row}
use Rattle.zone_theory.specs.Embedding.{inequality}
use Rattle.zone_lists.specs.Zones.{matrix_in}
use Rattle.dom_zone.proofs.embedding.push_row.Given as goal

abbrev pub invariant-loop-j : goal.invariant-loop-j
invariant-loop-j l = (l.out.n ≡ l.initial.out.n)
    × (l.out.inequalities ≡ l.initial.out.inequalities ++ map (inequality max_ring max_numbering (suc l.vars))
    (row (matrix_in l.vars l.bounds) l.i l.j))
