use Rattle.trop_dd.proofs.Pushes.{first_sound}
use Rattle.trop_dd.proofs.dd.Dd.new.Goals as goal

pub invariant_of-result : goal.invariant_of-result
invariant_of-result g c = (
  c.in_ok-rows.ensures.width,
  c.in_ok-rows.ensures.rows,
  first_sound g.S.Scalar.ring c.args.n c.in_ok-conversion.conversion.n c.in_ok-conversion.conversion.system
      c.in_ok-conversion.conversion.rows c.requires.at_least c.requires.at_most c.in_ok-conversion.ensures.width
      c.in_ok-conversion.ensures.system c.in_ok-conversion.ensures.described,
)
