use Rattle.std.proofs.Common.{arith}
use Rattle.dom_poly.proofs.answers.fitted.Goals as goal

pub returns-then-size-gt-MOST_VALUE : goal.returns-then-size-gt-MOST_VALUE
returns-then-size-gt-MOST_VALUE g c = omega arith

pub fresh-requires : goal.fresh-requires
fresh-requires g c = record { small = omega arith }

pub returns : goal.returns
returns g c = (c.fresh.ensures, omega arith)
