use Rattle.std.proofs.Common.{◌+◌, add-one, arith}
use Rattle.std.proofs.lemmas.Int.{ints}
use Rattle.prog_tree.specs.Terms.{term_of}
use Rattle.dom_zone.proofs.Moves.{guard-refused, guard-made}
use Rattle.dom_zone.proofs.image.guarded.Goals as goal

pub returns-then-not-is_admitted : goal.returns-then-not-is_admitted
returns-then-not-is_admitted c = guard-refused c.args.vars (c.args.vars + 1) c.args.bounds.now c.requires.sound
    (add-one c.args.vars) (term_of c.args.left.now) (term_of c.args.right.now) _
    (omega (arith, ints, c.requires.left, c.requires.right)) c.requires.fits c.is_admitted.result c.is_admitted.ensures
    c.if-not-is_admitted.true

pub returns : goal.returns
returns c = guard-made c.args.vars (c.args.vars + 1) c.args.bounds.now c.requires.sound (add-one c.args.vars)
    (term_of c.args.left.now) (term_of c.args.right.now) _ (omega (arith, ints, c.requires.left, c.requires.right))
    c.requires.fits c.is_admitted.result c.is_admitted.ensures c.if-not-is_admitted.false c.in_ok-table.table
    c.in_ok-table.ensures
