use Rattle.std.proofs.Common.{sym, ap}
use Rattle.dom_poly.specs.Answers.{at_part}
use Rattle.dom_poly.proofs.answers.refused_part.Goals as goal

pub returns-in-Rows : goal.returns-in-Rows
returns-in-Rows c = sym (ap at_part c.in-Rows.is)

pub returns-in-Polar : goal.returns-in-Polar
returns-in-Polar c = sym (ap at_part c.in-Polar.is)

pub returns-in-NoMemory : goal.returns-in-NoMemory
returns-in-NoMemory c = sym (ap at_part c.in-NoMemory.is)
