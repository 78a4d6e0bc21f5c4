use Rattle.trop_lean.proofs.Shown.{wanted_own, wanted_other}
use Rattle.trop_lean.proofs.certificate.is_as_wanted.Goals as goal

pub returns-then-j-k : goal.returns-then-j-k
returns-then-j-k g c = wanted_own g.S.Scalar.ring c.args.j c.args.k c.args.ineq.now c.args.row.now c.holds.result
    c.if-j-k.true c.holds.ensures

pub returns-else-j-k : goal.returns-else-j-k
returns-else-j-k g c = wanted_other g.S.Scalar.ring c.args.j c.args.k c.args.ineq.now c.args.row.now
    c.holds-else-j-k.result c.if-j-k.false c.holds-else-j-k.ensures
