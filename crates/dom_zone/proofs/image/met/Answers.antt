use Rattle.dom_zone.proofs.Moves.{met-read}
use Rattle.dom_zone.proofs.image.met.Goals as goal

pub returns-in_ok-joined_table-in-Some-right-2 : goal.returns-in_ok-joined_table-in-Some-right-2
returns-in_ok-joined_table-in-Some-right-2 c = met-read c.args.vars c.args.left.now c.args.right.now c.in-Some.bounds
    c.in-Some-right-2.others c.as_slice-in-Some-right-2.result.now c.as_slice-in-Some-right-2-2.result.now
    c.in_ok-joined_table-in-Some-right-2.field-0 c.requires.left c.requires.right c.in-Some.is c.in-Some-right-2.is
    c.as_slice-in-Some-right-2.ensures c.as_slice-in-Some-right-2-2.ensures c.in_ok-joined_table-in-Some-right-2.ensures
