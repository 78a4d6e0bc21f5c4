use Rattle.std.proofs.Common.{ℕ, Vec, arith}
use Rattle.std.specs.declared.alloc.Global.{Global}
use Rattle.zone_lists.specs.Zones.{zone_of}
use Rattle.zone_print.specs.Reports.{zone_block}
use Rattle.zone_print.proofs.Blocks.{all_made}
use Rattle.zone_print.proofs.report.blocks.Goals as goal

pub returns : goal.returns
returns c = all_made (λ (b : Vec ℕ Global). b.items) (zone_block c.args.names.now) zone_of c.args.parts.now
    c.loop-part.part-index c.loop-part.out.items (omega arith) c.loop-part.invariant
