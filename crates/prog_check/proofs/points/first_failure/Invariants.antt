use Rattle.std.proofs.Common.{◌<◌, ℕ}
use Rattle.cone_reports.specs.Inductive.{IsValidAt}
use Rattle.report_value.specs.Views.{said}
use Rattle.prog_check.proofs.points.first_failure.Given as goal

abbrev pub invariant-loop-point : goal.invariant-loop-point
invariant-loop-point g l = (q : ℕ) → q < l.point → IsValidAt g.S.Scalar.ring (said l.report) q
