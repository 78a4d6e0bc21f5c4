use Rattle.std.proofs.Common.{length, ap, arith}
use Rattle.std.proofs.lemmas.List.{length-map}
use Rattle.report_value.specs.Views.{part_of}
use Rattle.prog_check.proofs.Parts.{points_few}
use Rattle.prog_check.proofs.points.point_count.Goals as goal

pub overflow_cast-result : goal.overflow_cast-result
overflow_cast-result g c =
    omega (
      arith,
      points_few c.args.report.now c.parts.ensures.keeps,
      ap length c.parts.ensures.value,
      length-map c.parts.result.now part_of,
    )
