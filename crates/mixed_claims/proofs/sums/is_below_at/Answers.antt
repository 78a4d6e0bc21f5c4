use Rattle.std.proofs.Common.{◌*◌}
use Rattle.mixed_claims.specs.Terms.{read_terms}
use Rattle.mixed_claims.proofs.Readings.{below_by_sums}
use Rattle.mixed_claims.proofs.sums.is_below_at.Goals as goal

pub returns : goal.returns
returns g c = below_by_sums g.met.S.Scalar.ring_laws g.met.S.Numeric.numeric_laws (2 * c.args.vars) c.args.row.now
    c.requires.wide (read_terms c.args.reading c.args.vars c.args.left.now)
    (read_terms c.args.reading c.args.vars c.args.right.now) c.sum_at.result c.sum_at-2.result c.le.result
    c.sum_at.ensures c.sum_at-2.ensures c.le.ensures
