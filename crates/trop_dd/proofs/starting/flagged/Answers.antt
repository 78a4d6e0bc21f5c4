use Rattle.std.proofs.Common.{refl, arith, get_or}
use Rattle.trop_dd.proofs.Starts.{flagged_more, flagged_all}
use Rattle.trop_dd.proofs.starting.flagged.Goals as goal

pub loop-i-preserved : goal.loop-i-preserved
loop-i-preserved c = flagged_more c.args.many c.loop-i.i (get_or c.args.numbers.now c.loop-i.i 0) c.args.numbers.now
    c.loop-i.flags.items _ (omega arith) refl (c.requires.within c.loop-i.i 0 (omega arith)) c.loop-i.invariant refl

pub returns : goal.returns
returns c =
    let all = flagged_all c.args.many c.loop-i.i c.args.numbers.now c.loop-i.flags.items (omega arith)
    c.loop-i.invariant in
    record { long = all.long; each = all.each }
