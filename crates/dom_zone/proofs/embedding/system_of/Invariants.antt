use Rattle.std.proofs.Common.{◌≡◌, map, suc}
use Rattle.trop_theory.specs.MaxPlus.{max_ring, max_numbering}
use Rattle.zone_theory.specs.Limits.{rows}
use Rattle.zone_theory.specs.Embedding.{inequality}
use Rattle.zone_lists.specs.Zones.{matrix_in}
use Rattle.dom_zone.proofs.embedding.system_of.Given as goal

abbrev pub invariant-loop-i : goal.invariant-loop-i
invariant-loop-i l = (l.out.n ≡ suc l.vars)
    × (l.out.inequalities ≡ map (inequality max_ring max_numbering (suc l.vars))
    (rows (matrix_in l.vars l.bounds) (suc l.vars) l.i))
