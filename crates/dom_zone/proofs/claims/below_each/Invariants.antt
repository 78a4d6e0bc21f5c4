use Rattle.prog_tree.specs.Terms.{term_of}
use Rattle.zone_lists.specs.Zones.{matrix_in}
use Rattle.dom_zone.specs.Claims.{AtEach}
use Rattle.dom_zone.proofs.Searches.{EachTo}
use Rattle.dom_zone.proofs.claims.below_each.Given as goal

abbrev pub invariant-loop-k : goal.invariant-loop-k
invariant-loop-k l = EachTo (λ x. AtEach l.vars (matrix_in l.vars l.bounds) (term_of l.left) x) l.rights l.k
