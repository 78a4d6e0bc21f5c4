use Rattle.std.proofs.Common.{arith}
use Rattle.std.proofs.lemmas.Int.{ints}
use Rattle.prog_tree.specs.Terms.{term_of}
use Rattle.dom_zone.proofs.Moves.{read-in}
use Rattle.dom_zone.proofs.Calls.{pair-judged}
use Rattle.dom_zone.proofs.claims.holds.Goals as goal

pub returns : goal.returns
returns c = pair-judged c.args.vars c.args.bounds.now (term_of c.args.left.now) (term_of c.args.right.now)
    c.bound_at-bound.result _ c.is_at_most.result c.requires.sound c.requires.left c.requires.right
    (read-in c.args.vars c.args.bounds.now c.args.left.now.coord c.args.right.now.coord c.bound_at-bound.result
    (rw c.as_slice.ensures at c.bound_at-bound.ensures))
    (omega (arith, ints, c.requires.left_number, c.requires.right_number)) c.is_at_most.ensures
