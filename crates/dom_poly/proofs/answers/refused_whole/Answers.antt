use Rattle.std.proofs.Common.{sym, ap}
use Rattle.dom_poly.specs.Answers.{at_whole}
use Rattle.dom_poly.proofs.answers.refused_whole.Goals as goal

pub returns-in-Rows : goal.returns-in-Rows
returns-in-Rows c = sym (ap at_whole c.in-Rows.is)

pub returns-in-Polar : goal.returns-in-Polar
returns-in-Polar c = sym (ap at_whole c.in-Polar.is)

pub returns-in-NoMemory : goal.returns-in-NoMemory
returns-in-NoMemory c = sym (ap at_whole c.in-NoMemory.is)
