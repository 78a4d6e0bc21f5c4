use Rattle.std.proofs.Common.{Some, refl, ap, subst}
use Rattle.trop_io.proofs.std_ends.StdSourceSource.read.Goals as goal

pub returns-in-Ok-clause-handed_on : goal.returns-in-Ok-clause-handed_on
returns-in-Ok-clause-handed_on g c = record {
  answer = Some c.in-Ok.count;
  given = subst (λ s. g.R.StdRead.answers s.end (Some c.in-Ok.count) c.read_once.new.self) c.self.view_is
      c.in-Ok.ensures.given;
  handed_on = (refl, ap (λ s. s.faults) c.self.view_is);
}
