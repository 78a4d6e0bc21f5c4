use Rattle.std.proofs.Common.{take}
use Rattle.trop_dd.proofs.Starts.{AreFlagged}
use Rattle.trop_dd.proofs.starting.flagged.Given as goal

abbrev pub invariant-loop-i : goal.invariant-loop-i
invariant-loop-i l = AreFlagged l.many (take l.i l.numbers) l.flags.items
