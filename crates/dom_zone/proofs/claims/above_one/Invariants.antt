use Rattle.prog_tree.specs.Terms.{term_of}
use Rattle.zone_lists.specs.Zones.{matrix_in}
use Rattle.dom_zone.specs.Claims.{AtEach}
use Rattle.dom_zone.proofs.Searches.{NoneTo}
use Rattle.dom_zone.proofs.claims.above_one.Given as goal

abbrev pub invariant-loop-k : goal.invariant-loop-k
invariant-loop-k l = NoneTo (λ x. AtEach l.vars (matrix_in l.vars l.bounds) x (term_of l.right)) l.lefts l.k
