use Rattle.std.proofs.Common.{rules, ◌∙◌}
use Rattle.trop_dd.proofs.Settled.{cut_off}
use Rattle.trop_dd.proofs.settling.settle_with.Goals as goal

pub returns-in-Err-clause-err : goal.returns-in-Err-clause-err
returns-in-Err-clause-err g c = c.truncate.ensures.items ∙ cut_off c.args.sides.now.items c.args.fresh.now.items
    c.settle.new.sides.items c.len-many.result (search rules) (c.in-Err.ensures.err ∙ c.in_ok-append.ensures.items)
