use Rattle.trop_row.proofs.Reduced.{Reduced, reduced}
use Rattle.trop_row.proofs.reduction.reduce.Goals as goal
use Rattle.trop_row.proofs.reduction.reduce.Given as given

outcome : (g : given.Over) (c : goal.After-from_rows g) → Reduced g.S.Scalar.ring c.args.gens.now.n c.args.gens.now.rows
    c.from_rows.result.rows
outcome g c =
    reduced g.met.S.Scalar.ring_laws c.n-n.result c.args.gens.now.n c.args.gens.now.rows c.as_slice.result.now
    c.in_ok-rows.rows.items c.sort_rows.new.rows.items c.drop_combinations.new.rows.items c.from_rows.result.rows
    c.n-n.ensures.value c.as_slice.ensures.rows c.from_rows.ensures.rows c.as_slice.ensures.wide
    c.in_ok-rows.ensures.wide c.in_ok-rows.ensures.same c.in_ok-sort_rows.ensures.wide
    c.in_ok-sort_rows.ensures.same
    c.drop_combinations.ensures.same c.drop_combinations.ensures.wide c.drop_combinations.ensures.normal
    c.drop_combinations.ensures.ascending c.drop_combinations.ensures.independent

pub returns-clause-canonical : goal.returns-clause-canonical
returns-clause-canonical g c = (outcome g c).canonical

pub returns-clause-same : goal.returns-clause-same
returns-clause-same g c = (outcome g c).same

pub returns-clause-independent : goal.returns-clause-independent
returns-clause-independent g c = (outcome g c).independent
