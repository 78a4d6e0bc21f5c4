use Rattle.std.proofs.Common.{◌≡◌, drop, map, length}
use Rattle.trop_theory.specs.Vectors.{dot}
use Rattle.prog_tree.specs.Terms.{term_of}
use Rattle.cone_reports.specs.Sides.{side}
use Rattle.cone_claims.proofs.sums.sum_at.Given as goal

abbrev pub invariant-loop-term : goal.invariant-loop-term
invariant-loop-term g l =
    let R = g.S.Scalar.ring in
    R.plus l.sum (dot R (side R g.S.Scalar.numbering (length l.row) (map term_of (drop l.term-index l.terms))) l.row) ≡
    dot R (side R g.S.Scalar.numbering (length l.row) (map term_of l.terms)) l.row
