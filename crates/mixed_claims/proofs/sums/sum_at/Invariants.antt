use Rattle.std.proofs.Common.{◌≡◌, drop}
use Rattle.trop_theory.specs.Vectors.{dot}
use Rattle.mixed_claims.specs.Terms.{read_side}
use Rattle.mixed_claims.proofs.sums.sum_at.Given as goal

abbrev pub invariant-loop-term : goal.invariant-loop-term
invariant-loop-term g l =
    let R = g.S.Scalar.ring in
    R.plus l.sum (dot R (read_side R g.S.Scalar.numbering l.reading l.vars (drop l.term-index l.terms)) l.row)
    ≡ dot R (read_side R g.S.Scalar.numbering l.reading l.vars l.terms) l.row
