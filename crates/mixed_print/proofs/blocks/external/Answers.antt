use Rattle.mixed_print.proofs.Listed.{listed_external, listed_unstopped}
use Rattle.mixed_print.proofs.blocks.external.Goals as goal

pub returns-in-Ok-clause-external : goal.returns-in-Ok-clause-external
returns-in-Ok-clause-external c =
    listed_external c.args.value.now c.poly.result.now.n c.poly.result.now.rows c.poly.ensures.width c.poly.ensures.rows
    c.in-Ok.invs.inequalities c.in-Ok.ensures.external

pub returns-in-Ok-clause-unstopped : goal.returns-in-Ok-clause-unstopped
returns-in-Ok-clause-unstopped c =
    listed_unstopped c.args.value.now c.poly.result.now.n c.poly.result.now.rows c.poly.ensures.width
    c.poly.ensures.rows c.in-Ok.ensures.unstopped
