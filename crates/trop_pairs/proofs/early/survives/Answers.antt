use Rattle.std.proofs.Common.{rules, ◌≡◌}
use Rattle.trop_pairs.proofs.Sparing.{spared_equal}
use Rattle.trop_pairs.proofs.early.survives.Goals as goal

pub returns-then-eq : goal.returns-then-eq
returns-then-eq g c =
    let e : g.S.Scalar.ring.times c.args.left c.args.first.sum ≡ g.S.Scalar.ring.times c.args.right c.args.second.sum
    = search rules in
    spared_equal g.S.Scalar.ring c.args.left c.args.right c.args.first c.args.second _ c.args.node c.without.result
    c.is_empty.result c.second.view_is e c.without.ensures c.is_empty.ensures.none
