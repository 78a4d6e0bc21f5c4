use Rattle.std.specs.Prelude.{Any}
use Rattle.zone_lists.specs.Zones.{matrix_in}
use Rattle.dom_zone.specs.Claims.{AtEach}
use Rattle.dom_zone.proofs.Searches.{EachTo}
use Rattle.dom_zone.proofs.claims.each_below_one.Given as goal

abbrev pub invariant-loop-k : goal.invariant-loop-k
invariant-loop-k l = EachTo (λ x. Any (λ r1. AtEach l.vars (matrix_in l.vars l.bounds) x r1) l.rights) l.lefts l.k
