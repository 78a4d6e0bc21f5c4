use Rattle.std.proofs.Common.{take}
use Rattle.std.specs.List.{AllZip}
use Rattle.short_print.specs.Blocks.{texts_of}
use Rattle.mixed_print.specs.Made.{IsBlockOf}
use Rattle.mixed_print.proofs.blocks.blocks.Given as goal

abbrev pub invariant-loop-q : goal.invariant-loop-q
invariant-loop-q l = AllZip (IsBlockOf l.program.names) (take l.q l.values) (texts_of l.blocks.items)
