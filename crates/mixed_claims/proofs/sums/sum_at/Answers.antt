use Rattle.std.proofs.Common.{arith, ◌*◌, suc}
use Rattle.prog_tree.specs.Terms.{term_of}
use Rattle.cone_claims.proofs.TermSums.{holds_at, sum_more_at, sum_end}
use Rattle.mixed_claims.specs.Terms.{IsTermOf, read_term}
use Rattle.mixed_claims.proofs.Readings.{read_coord}
use Rattle.mixed_claims.proofs.sums.sum_at.Goals as goal

pub product_at-requires-clause-fits : goal.product_at-requires-clause-fits
product_at-requires-clause-fits g c = holds_at (IsTermOf c.args.vars) term_of c.args.terms.now
    c.loop-term.term-index _ (omega arith) c.requires.fits

pub loop-term-preserved : goal.loop-term-preserved
loop-term-preserved g c =
    rw (c.plus-sum.ensures, c.product_at.ensures)
    (sum_more_at g.met.S.Scalar.ring_laws g.met.S.Numeric.numeric_laws (suc (2 * c.args.vars)) c.args.row.now
    c.requires.wide (read_term c.args.reading c.args.vars) c.args.terms.now c.loop-term.term-index _ c.loop-term.sum _
    (omega arith)
    (read_coord c.args.reading c.args.vars _
    (holds_at (IsTermOf c.args.vars) term_of c.args.terms.now c.loop-term.term-index _ (omega arith) c.requires.fits))
    c.loop-term.invariant)

pub returns : goal.returns
returns g c = sum_end g.met.S.Scalar.ring_laws g.met.S.Numeric.numeric_laws (suc (2 * c.args.vars)) c.args.row.now
    (read_term c.args.reading c.args.vars) c.args.terms.now c.loop-term.term-index c.loop-term.sum _ (omega arith)
    c.loop-term.invariant
