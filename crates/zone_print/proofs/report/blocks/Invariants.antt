use Rattle.std.proofs.Common.{◌≡◌, map, take}
use Rattle.zone_lists.specs.Zones.{zone_of}
use Rattle.short_print.specs.Blocks.{texts_of}
use Rattle.zone_print.specs.Reports.{zone_block}
use Rattle.zone_print.proofs.report.blocks.Given as goal

abbrev pub invariant-loop-part : goal.invariant-loop-part
invariant-loop-part l = texts_of l.out.items ≡ map (λ x. zone_block l.names (zone_of x)) (take l.part-index l.parts)
