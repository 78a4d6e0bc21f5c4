use Rattle.std.proofs.lemmas.List.Elements.{All-push}
use Rattle.report_value.specs.Kept.{IsPointKept}
use Rattle.report_reading.proofs.PointParts.{parts_pushed}
use Rattle.report_reading.proofs.parts.parts.Goals as goal

pub loop-block-preserved : goal.loop-block-preserved
loop-block-preserved g c = record {
  kept = rw c.in_ok-push.ensures.items (All-push (IsPointKept g.S.Scalar.ring g.S.Scalar.numbering c.args.n) _ _
      c.loop-block.invariant.kept c.in_ok-part.ensures.kept);
  value = parts_pushed _ _ c.in_ok-part.field-0 _ _ c.in_ok-push.ensures.items c.loop-block.invariant.value
      c.in_ok-part.ensures.value;
}
