use Rattle.trop_row.proofs.RowOrder.{less_is_below, equal_is_same}
use Rattle.trop_row.proofs.laws.comparison_of_rows.Goals as goal

pub returns-clause-below : goal.returns-clause-below
returns-clause-below g c = less_is_below g.met.S.Scalar.ring_laws g.S.PartialEq.eq g.met.S.Scalar.decides

pub returns-clause-same : goal.returns-clause-same
returns-clause-same g c = equal_is_same g.met.S.Scalar.ring_laws g.S.PartialEq.eq g.met.S.Scalar.decides
