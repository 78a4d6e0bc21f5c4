use Rattle.std.proofs.Common.{sym, subst}
use Rattle.std.proofs.lemmas.Result.{err_from_is_err_and}
use Rattle.prog_theory.specs.Limits.{program_limits}
use Rattle.prog_theory.specs.Named.{Named}
use Rattle.prog_texts.specs.Suits.{SuitsBlock}
use Rattle.prog_texts.specs.Words.{program_pieces}
use Rattle.report_texts.specs.Modes.{InMax, rule_of}
use Rattle.tplib_analyze.proofs.Suits.{program_sides, program_suits}
use Rattle.tplib_analyze.proofs.Texts.{report_within, analyze_answered, refused}
use Rattle.tplib_analyze.proofs.analyze.max_reply.Goals as goal

pub report-requires-clause-suits : goal.report-requires-clause-suits
report-requires-clause-suits c =
    program_suits program_limits InMax (program_pieces c.args.bytes.now) c.in_ok-program.program
    c.in_ok-program.ensures.found

pub returns-in_err-report-clause-refused : goal.returns-in_err-report-clause-refused
returns-in_err-report-clause-refused c =
    let p = err_from_is_err_and c.from_residual-in_err-report.result c.from_residual-in_err-report.ensures.1 in
    rw (p.1, p.2) (refused InMax c.args.delay c.args.narrow c.in_ok-program.program c.args.bytes.now
    c.in_ok-program.ensures.found _ c.in_err-report.ensures.refused)

pub returns-clause-reply : goal.returns-clause-reply
returns-clause-reply c =
    let program = c.in_ok-program.program in
    let found = c.in_ok-program.ensures.found in
    let report = c.in_ok-report.report in
    let made = c.in_ok-report.ensures.made in
    analyze_answered InMax c.args.delay c.args.narrow program c.args.bytes.now found report c.in_ok-text.text.items made
    c.in_ok-text.ensures.text
    (c.in_ok-text.ensures.read_back (report_within InMax c.args.delay c.args.narrow program report made)
    (subst (λ (z : Named). SuitsBlock (rule_of InMax) z.body) (sym made.program_is)
    (program_sides program_limits InMax (program_pieces c.args.bytes.now) program found)))
