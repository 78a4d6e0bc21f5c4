use Rattle.std.proofs.Common.{take}
use Rattle.std.specs.List.{AllZip}
use Rattle.prog_theory.specs.Named.{nameless}
use Rattle.cone_reports.specs.Asserts as theory
use Rattle.cone_reports.specs.Inductive.{IsRight}
use Rattle.report_value.specs.Views.{said}
use Rattle.prog_check.proofs.verdicts.first_wrong.Given as goal

abbrev pub invariant-loop-k : goal.invariant-loop-k
invariant-loop-k g l =
    AllZip (IsRight g.S.Scalar.ring g.S.Scalar.numbering g.S.Scalar.REVERSED (said l.report))
    (take l.k (theory.asserts (nameless l.report.program))) (take l.k l.report.verdicts)
