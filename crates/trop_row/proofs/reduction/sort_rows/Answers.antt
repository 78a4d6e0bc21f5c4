use Rattle.std.proofs.lemmas.List.Filters.{dedup_is}
use Rattle.trop_row.proofs.Sorted.{sorts, Sorts}
use Rattle.trop_row.proofs.reduction.sort_rows.Goals as goal
use Rattle.trop_row.proofs.reduction.sort_rows.Given as given

outcome : (g : given.Over) (c : goal.After-dedup g) → Sorts g.met.S.Scalar.ring_laws g.S.PartialEq.eq
    g.met.S.Scalar.decides c.args.n c.args.rows.now.items c.dedup.new.self.items
outcome g c = sorts g.met.S.Scalar.ring_laws g.S.PartialEq.eq g.met.S.Scalar.decides c.args.n c.args.rows.now.items
    c.sort.new.self.items c.dedup.new.self.items c.requires.wide c.requires.normal c.requires.sizes
    c.in_ok-sort.ensures.permutation c.in_ok-sort.ensures.sorted (dedup_is _ _ _ c.dedup.ensures.filtered)

pub returns-clause-wide : goal.returns-clause-wide
returns-clause-wide g c = (outcome g c).wide

pub returns-clause-sizes : goal.returns-clause-sizes
returns-clause-sizes g c = (outcome g c).sizes

pub returns-clause-normal : goal.returns-clause-normal
returns-clause-normal g c = (outcome g c).normal

pub returns-clause-ascending : goal.returns-clause-ascending
returns-clause-ascending g c = (outcome g c).ascending

pub returns-clause-same : goal.returns-clause-same
returns-clause-same g c = (outcome g c).cones
