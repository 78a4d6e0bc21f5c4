use Rattle.std.proofs.Common.{arith}
use Rattle.dom_poly.proofs.answers.fitted_with.Goals as goal

pub returns-then-size-gt-MOST_VALUE : goal.returns-then-size-gt-MOST_VALUE
returns-then-size-gt-MOST_VALUE g c = (c.len.ensures.len, omega arith)

pub listed-requires-clause-small : goal.listed-requires-clause-small
listed-requires-clause-small g c = omega arith

pub returns : goal.returns
returns g c = (c.listed.ensures, omega arith)
