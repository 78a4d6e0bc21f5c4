use Rattle.std.proofs.Common.{arith}
use Rattle.dom_mixed.proofs.value.MixedDomain.variables.Goals as goal

pub returns : goal.returns
returns c = omega (arith, c.n.ensures.value, c.rows.ensures.width, c.poly.ensures.width)
