use Rattle.trop_pairs.proofs.Adding.{gives_edge}
use Rattle.trop_pairs.proofs.slot.RowSlot.gives_edge.Goals as goal

pub returns : goal.returns
returns g c = gives_edge _ c.args.self.now c.is_empty.result c.self.view_is c.is_empty.ensures.none
