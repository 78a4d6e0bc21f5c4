use Rattle.std.proofs.Common.{ap}
use Rattle.std.proofs.lemmas.Result.{err_from_is_err_and}
use Rattle.trop_reading.proofs.Outcomes.{start_is}
use Rattle.report_texts.specs.Modes.{InMax, InMin}
use Rattle.report_reading.specs.Heads.{mode_of, head_of}
use Rattle.report_reading.proofs.Wholes.{opening_fails, lines_fail, lines_asked, report_read, IsAsked}
use Rattle.report_reading.proofs.read.any_report.Goals as goal

pub returns-in_err-head : goal.returns-in_err-head
returns-in_err-head c =
    let p = err_from_is_err_and c.from_residual.result c.from_residual.ensures.1 in
    rw (p.1, p.2) (opening_fails c.args.bytes.now _ (start_is c.args.bytes.now c.new.result c.new-2.result
    c.new.ensures.tokens c.new-2.ensures.pieces) _ c.in_err-head.ensures.gives)

pub returns-in_err-body-in-Max : goal.returns-in_err-body-in-Max
returns-in_err-body-in-Max c =
    let p =
    err_from_is_err_and c.from_residual-in_err-body-in-Max.result c.from_residual-in_err-body-in-Max.ensures.1 in
    rw (p.1, p.2) (lines_fail c.args.bytes.now _ (start_is c.args.bytes.now c.new.result
    c.new-2.result c.new.ensures.tokens c.new-2.ensures.pieces) InMax _ (head_of c.in_ok-head.head)
    c.in_ok-head.program c.in_ok-head.ensures.gives (ap mode_of c.in-Max.is) _ c.in_err-body-in-Max.ensures)

pub report-requires-clause-passes : goal.report-requires-clause-passes
report-requires-clause-passes c = IsAsked.passes (lines_asked c.args.bytes.now _ (start_is c.args.bytes.now c.new.result
    c.new-2.result c.new.ensures.tokens c.new-2.ensures.pieces) InMax _ (head_of c.in_ok-head.head)
    c.in_ok-head.program c.in_ok-head.ensures.gives (ap mode_of c.in-Max.is)
    c.in_ok-body-in-Max.body _ c.in_ok-body-in-Max.ensures)

pub report-requires-clause-parts : goal.report-requires-clause-parts
report-requires-clause-parts c = IsAsked.parts (lines_asked c.args.bytes.now _ (start_is c.args.bytes.now c.new.result
    c.new-2.result c.new.ensures.tokens c.new-2.ensures.pieces) InMax _ (head_of c.in_ok-head.head)
    c.in_ok-head.program c.in_ok-head.ensures.gives (ap mode_of c.in-Max.is)
    c.in_ok-body-in-Max.body _ c.in_ok-body-in-Max.ensures)

pub report-requires-clause-points : goal.report-requires-clause-points
report-requires-clause-points c =
    IsAsked.points_are (lines_asked c.args.bytes.now _ (start_is c.args.bytes.now c.new.result
    c.new-2.result c.new.ensures.tokens c.new-2.ensures.pieces) InMax _ (head_of c.in_ok-head.head)
    c.in_ok-head.program c.in_ok-head.ensures.gives (ap mode_of c.in-Max.is)
    c.in_ok-body-in-Max.body _ c.in_ok-body-in-Max.ensures)

pub report-requires-clause-asserts : goal.report-requires-clause-asserts
report-requires-clause-asserts c =
    IsAsked.asserts_are (lines_asked c.args.bytes.now _ (start_is c.args.bytes.now c.new.result
    c.new-2.result c.new.ensures.tokens c.new-2.ensures.pieces) InMax _ (head_of c.in_ok-head.head)
    c.in_ok-head.program c.in_ok-head.ensures.gives (ap mode_of c.in-Max.is)
    c.in_ok-body-in-Max.body _ c.in_ok-body-in-Max.ensures)

pub returns-in_ok-report-in-Max : goal.returns-in_ok-report-in-Max
returns-in_ok-report-in-Max c = report_read c.args.bytes.now _ (start_is c.args.bytes.now c.new.result
    c.new-2.result c.new.ensures.tokens c.new-2.ensures.pieces) InMax _ (head_of c.in_ok-head.head)
    c.in_ok-head.program c.in_ok-head.ensures.gives (ap mode_of c.in-Max.is) _ _ _
    c.in_ok-body-in-Max.ensures c.in_ok-report-in-Max.ensures

pub returns-in_err-body-in-Min : goal.returns-in_err-body-in-Min
returns-in_err-body-in-Min c =
    let p =
    err_from_is_err_and c.from_residual-in_err-body-in-Min.result c.from_residual-in_err-body-in-Min.ensures.1 in
    rw (p.1, p.2) (lines_fail c.args.bytes.now _ (start_is c.args.bytes.now c.new.result
    c.new-2.result c.new.ensures.tokens c.new-2.ensures.pieces) InMin _ (head_of c.in_ok-head.head)
    c.in_ok-head.program c.in_ok-head.ensures.gives (ap mode_of c.in-Min.is) _ c.in_err-body-in-Min.ensures)

pub report-requires-in-Min-clause-passes : goal.report-requires-in-Min-clause-passes
report-requires-in-Min-clause-passes c =
    IsAsked.passes (lines_asked c.args.bytes.now _ (start_is c.args.bytes.now c.new.result
    c.new-2.result c.new.ensures.tokens c.new-2.ensures.pieces) InMin _ (head_of c.in_ok-head.head)
    c.in_ok-head.program c.in_ok-head.ensures.gives (ap mode_of c.in-Min.is)
    c.in_ok-body-in-Min.body _ c.in_ok-body-in-Min.ensures)

pub report-requires-in-Min-clause-parts : goal.report-requires-in-Min-clause-parts
report-requires-in-Min-clause-parts c =
    IsAsked.parts (lines_asked c.args.bytes.now _ (start_is c.args.bytes.now c.new.result
    c.new-2.result c.new.ensures.tokens c.new-2.ensures.pieces) InMin _ (head_of c.in_ok-head.head)
    c.in_ok-head.program c.in_ok-head.ensures.gives (ap mode_of c.in-Min.is)
    c.in_ok-body-in-Min.body _ c.in_ok-body-in-Min.ensures)

pub report-requires-in-Min-clause-points : goal.report-requires-in-Min-clause-points
report-requires-in-Min-clause-points c =
    IsAsked.points_are (lines_asked c.args.bytes.now _ (start_is c.args.bytes.now c.new.result
    c.new-2.result c.new.ensures.tokens c.new-2.ensures.pieces) InMin _ (head_of c.in_ok-head.head)
    c.in_ok-head.program c.in_ok-head.ensures.gives (ap mode_of c.in-Min.is)
    c.in_ok-body-in-Min.body _ c.in_ok-body-in-Min.ensures)

pub report-requires-in-Min-clause-asserts : goal.report-requires-in-Min-clause-asserts
report-requires-in-Min-clause-asserts c =
    IsAsked.asserts_are (lines_asked c.args.bytes.now _ (start_is c.args.bytes.now c.new.result
    c.new-2.result c.new.ensures.tokens c.new-2.ensures.pieces) InMin _ (head_of c.in_ok-head.head)
    c.in_ok-head.program c.in_ok-head.ensures.gives (ap mode_of c.in-Min.is)
    c.in_ok-body-in-Min.body _ c.in_ok-body-in-Min.ensures)

pub returns-in_ok-report-in-Min : goal.returns-in_ok-report-in-Min
returns-in_ok-report-in-Min c = report_read c.args.bytes.now _ (start_is c.args.bytes.now c.new.result
    c.new-2.result c.new.ensures.tokens c.new-2.ensures.pieces) InMin _ (head_of c.in_ok-head.head)
    c.in_ok-head.program c.in_ok-head.ensures.gives (ap mode_of c.in-Min.is) _ _ _
    c.in_ok-body-in-Min.ensures c.in_ok-report-in-Min.ensures
