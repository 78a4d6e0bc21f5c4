use Rattle.std.proofs.Common.{◌≡◌, All, map}
use Rattle.report_texts.specs.Lines as lines
use Rattle.report_value.specs.Views.{parts_of}
use Rattle.report_value.specs.Kept.{IsPointKept}
use Rattle.report_reading.specs.Progress.{blocks_of}
use Rattle.report_reading.proofs.parts.parts.Given as goal

abbrev pub invariant-loop-block : goal.invariant-loop-block
invariant-loop-block g l = record {
  kept : All (IsPointKept g.S.Scalar.ring g.S.Scalar.numbering l.n) l.out.items;
  value : parts_of l.out.items ≡ map lines.Block.part (blocks_of l.yielded);
}
