use Rattle.trop_scalar.proofs.Raised.{raised_values, length-raised}
use Rattle.trop_scalar.proofs.lanes.raised.Goals as goal

pub returns-clause-length : goal.returns-clause-length
returns-clause-length c =
    length-raised 8 c.args.best c.args.x c.args.y c.requires.lengths.0 c.requires.lengths.1 c.requires.lengths.2

pub returns-clause-lanes : goal.returns-clause-lanes
returns-clause-lanes c =
    raised_values 8 c.args.best c.args.x c.args.y c.requires.lengths.0 c.requires.lengths.1 c.requires.lengths.2
    c.requires.best_size c.requires.sizes
