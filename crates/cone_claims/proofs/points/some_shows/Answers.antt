use Rattle.std.proofs.Common.{arith, sym, ◌∙◌, true≢false}
use Rattle.cone_claims.specs.Points.{Shows}
use Rattle.cone_claims.proofs.Loops.{each_more, none_found, read_small}
use Rattle.cone_claims.proofs.points.some_shows.Goals as goal

pub shows-requires-clause-sizes : goal.shows-requires-clause-sizes
shows-requires-clause-sizes g c =
    read_small g.S.Scalar.ring c.args.rows.now c.loop-row.row-index c.row-item.result _ _ c.row-item.is (omega arith)
    c.requires.sizes

pub loop-row-preserved : goal.loop-row-preserved
loop-row-preserved g c =
    each_more (λ x. Shows g.S.Scalar.ring c.args.ineq.now c.args.what x → ⊥) c.args.rows.now c.loop-row.row-index
    c.row-item.result c.row-item.is (omega arith) c.loop-row.invariant
    (λ p. true≢false (sym (c.shows.ensures.1 p) ∙ c.if-shows.false))

pub returns : goal.returns
returns g c = none_found (Shows g.S.Scalar.ring c.args.ineq.now c.args.what) c.args.rows.now c.loop-row.row-index
    (omega arith) c.loop-row.invariant
