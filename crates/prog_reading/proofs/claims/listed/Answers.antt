use Rattle.prog_reading.proofs.TermSteps.{sum_side}
use Rattle.prog_reading.proofs.claims.listed.Goals as goal

pub new-requires : goal.new-requires
new-requires c = sum_side _ _ c.requires.sums c.in_ok-terms.ensures.some
