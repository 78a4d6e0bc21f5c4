use Rattle.std.proofs.Common.{sym, ap, ◌∙◌}
use Rattle.std.specs.List.{AllZip}
use Rattle.prog_theory.specs.Named.{Named, nameless}
use Rattle.prog_theory.specs.ControlGraphs.{graph_of}
use Rattle.cone_reports.specs.Asserts as theory
use Rattle.cone_reports.specs.Inductive.{IsRight}
use Rattle.prog_asserts.specs.Views.{assertions}
use Rattle.report_value.specs.Views.{said}
use Rattle.prog_check.specs.Found.{WrongAt}
use Rattle.prog_check.proofs.Loops.{some_of, none_of}
use Rattle.prog_check.proofs.Conditions.{wrong_is, inductive_is}
use Rattle.prog_check.proofs.checking.verdict_on_asserts.Goals as goal

pub asserts-requires : goal.asserts-requires
asserts-requires g c = record {
  graph = c.graph.ensures.value ∙ ap (λ (p : Named). graph_of (nameless p)) (sym c.program.ensures.value);
}

pub first_wrong-requires : goal.first_wrong-requires
first_wrong-requires g c =
    ap assertions c.as_slice.ensures.value ∙ c.in_ok-list.ensures.all
    ∙ ap (λ (p : Named). theory.asserts (nameless p)) c.program.ensures.value

pub returns-in-Some : goal.returns-in-Some
returns-in-Some g c =
    let R = g.S.Scalar.ring in
    let N = g.S.Scalar.numbering in
    let r = c.args.report.now in
    wrong_is R N g.S.Scalar.REVERSED (said r) c.requires.whole c.requires.stays c.requires.valid c.in-Some.statement
    (some_of (AllZip (IsRight R N g.S.Scalar.REVERSED (said r)) (theory.asserts (nameless r.program)) r.verdicts)
    (WrongAt R N g.S.Scalar.REVERSED (said r)) c.first_wrong.result c.in-Some.statement c.in-Some.is
    c.first_wrong.ensures)

pub returns : goal.returns
returns g c =
    let r = c.args.report.now in
    let IsRightThere = IsRight g.S.Scalar.ring g.S.Scalar.numbering g.S.Scalar.REVERSED (said r) in
    inductive_is g.S.Scalar.ring g.S.Scalar.numbering g.S.Scalar.REVERSED (said r) c.requires.whole c.requires.stays
    c.requires.valid (none_of (AllZip IsRightThere (theory.asserts (nameless r.program)) r.verdicts)
    (WrongAt g.S.Scalar.ring g.S.Scalar.numbering g.S.Scalar.REVERSED (said r)) c.first_wrong.result c.in-None.is
    c.first_wrong.ensures)
