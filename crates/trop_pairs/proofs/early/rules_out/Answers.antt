use Rattle.trop_pairs.proofs.Sparing.{ruled_two, ruled_one}
use Rattle.trop_pairs.proofs.early.rules_out.Goals as goal

pub returns-then-not-is_empty : goal.returns-then-not-is_empty
returns-then-not-is_empty c ruled t typed all =
    ruled_two c.args.left c.args.types t c.in-Some.u c.in-Some.ensures.1 typed
    all c.without.result c.is_empty.result c.without.ensures c.is_empty.ensures.none ruled

pub returns-else-not-is_empty : goal.returns-else-not-is_empty
returns-else-not-is_empty c ruled t typed all =
    ruled_one c.args.left c.args.types t c.in-Some.u c.in-Some.ensures.1 typed
    all c.has.result c.has.ensures ruled
