use Rattle.std.proofs.Common.{subst}
use Rattle.std.specs.Prelude.{◌↔◌, IsTrue}
use Rattle.mixed_claims.specs.Terms.{ArePairsBelow}
use Rattle.mixed_claims.proofs.Sides.{and_then, and_else}
use Rattle.mixed_claims.proofs.claims.by_pairs.Goals as goal

pub returns-then-are_read_as : goal.returns-then-are_read_as
returns-then-are_read_as g c =
    let asked = subst (λ pairs. IsTrue c.pairs_below.result ↔ ArePairsBelow g.S.Scalar.ring g.S.Scalar.numbering
    c.args.vars c.args.rows.now pairs c.args.left.now.terms c.args.right.now.terms) c.pairs_asked.ensures
    c.pairs_below.ensures in
    and_then c.are_read_as.result c.pairs_below.result c.are_read_as.ensures asked c.if-are_read_as.true

pub returns-else-are_read_as : goal.returns-else-are_read_as
returns-else-are_read_as g c = and_else c.are_read_as.result c.are_read_as.ensures c.if-are_read_as.false
