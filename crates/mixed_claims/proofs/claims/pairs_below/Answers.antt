use Rattle.std.proofs.Common.{sym, subst}
use Rattle.std.specs.Prelude.{◌↔◌, IsTrue}
use Rattle.mixed_claims.specs.Terms.{ArePairsBelow}
use Rattle.mixed_claims.proofs.claims.pairs_below.Goals as goal

pub returns-in-Every : goal.returns-in-Every
returns-in-Every g c =
    subst (λ pairs. IsTrue c.each_below.result ↔ ArePairsBelow g.S.Scalar.ring g.S.Scalar.numbering c.args.vars
    c.args.rows.now pairs c.args.left.now.terms c.args.right.now.terms) (sym c.in-Every.is) c.each_below.ensures

pub returns-in-One : goal.returns-in-One
returns-in-One g c =
    subst (λ pairs. IsTrue c.some_below.result ↔ ArePairsBelow g.S.Scalar.ring g.S.Scalar.numbering c.args.vars
    c.args.rows.now pairs c.args.left.now.terms c.args.right.now.terms) (sym c.in-One.is) c.some_below.ensures
