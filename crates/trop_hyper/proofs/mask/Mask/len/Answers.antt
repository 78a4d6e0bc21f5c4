use Rattle.std.proofs.Common.{arith}
use Rattle.trop_hyper.proofs.Words.{has_within}
use Rattle.trop_hyper.proofs.mask.Mask.len.Goals as goal

pub returns-clause-below : goal.returns-clause-below
returns-clause-below c i = rw (← c.self.view_is) (has_within 64 _ i (omega arith))
