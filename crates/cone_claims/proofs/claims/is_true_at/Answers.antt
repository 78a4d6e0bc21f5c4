use Rattle.cone_claims.proofs.Proven.{at_most_judged, at_least_judged, same_judged}
use Rattle.cone_claims.proofs.claims.is_true_at.Goals as goal

pub returns-in-Le : goal.returns-in-Le
returns-in-Le g c =
    rw c.in-Le.is (at_most_judged g.met.S.Scalar.ring_laws g.met.S.Numeric.numeric_laws c.args.row.now c.requires.long
    c.args.claim.now.left.terms c.args.claim.now.right.terms c.side_at-left.result c.side_at-right.result
    c.at_most.result c.side_at-left.ensures c.side_at-right.ensures c.at_most.ensures)

pub returns-in-Ge : goal.returns-in-Ge
returns-in-Ge g c =
    rw c.in-Ge.is (at_least_judged g.met.S.Scalar.ring_laws g.met.S.Numeric.numeric_laws c.args.row.now c.requires.long
    c.args.claim.now.left.terms c.args.claim.now.right.terms c.side_at-left.result c.side_at-right.result
    c.at_most-in-Ge.result c.side_at-left.ensures c.side_at-right.ensures c.at_most-in-Ge.ensures)

pub returns-in-Same : goal.returns-in-Same
returns-in-Same g c =
    rw c.in-Same.is (same_judged g.met.S.Scalar.ring_laws g.met.S.Numeric.numeric_laws c.args.row.now c.requires.long
    c.args.claim.now.left.terms c.args.claim.now.right.terms c.side_at-left.result c.side_at-right.result
    c.both_ways.result c.side_at-left.ensures c.side_at-right.ensures c.both_ways.ensures)
