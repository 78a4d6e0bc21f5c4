use Rattle.std.proofs.Common.{◌*◌}
use Rattle.mixed_claims.specs.Terms.{read_terms}
use Rattle.mixed_claims.proofs.Readings.{valid_by_rows}
use Rattle.mixed_claims.proofs.sums.is_sum_below.Goals as goal

pub returns : goal.returns
returns g c = valid_by_rows g.met.S.Scalar.ring_laws g.met.S.Numeric.numeric_laws (2 * c.args.vars) c.args.rows.now.n
    c.requires.wide (read_terms c.args.reading c.args.vars c.args.left.now)
    (read_terms c.args.reading c.args.vars c.args.right.now) c.args.rows.now.rows c.as_slice.result.now
    c.is_below_at_each.result c.as_slice.ensures.wide c.as_slice.ensures.rows c.is_below_at_each.ensures
