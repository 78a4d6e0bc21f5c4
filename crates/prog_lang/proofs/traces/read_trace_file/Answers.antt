use Rattle.std.proofs.Common.{◌≡◌, ℕ, List, sym, ap, subst, ◌∙◌}
use Rattle.trop_text.specs.Lexer.{source}
use Rattle.prog_theory.specs.Limits.{program_limits}
use Rattle.prog_texts.specs.AssertRule.{Either}
use Rattle.prog_texts.specs.Words.{program_pieces}
use Rattle.prog_texts.specs.Shapes as shapes
use Rattle.prog_texts.specs.Traces.{IsTraceFile, IsTraceCause, trace_file_at}
use Rattle.trop_text.specs.Pieces.{pieces_of}
use Rattle.prog_texts.proofs.TraceLaws.{trace_only, trace_fault}
use Rattle.prog_texts.proofs.TraceKept.{trace_within}
use Rattle.prog_texts.proofs.Ends.{trace_spelled}
use Rattle.prog_lang.specs.TraceOutcomes.{trace_file_of}
use Rattle.prog_lang.specs.Outcomes.{IsPlaced}
use Rattle.prog_lang.proofs.Outcomes.{start_is, refused, yielded, not_refused}
use Rattle.prog_lang.proofs.traces.read_trace_file.Goals as goal

pub returns-in-Ok-clause-found : goal.returns-in-Ok-clause-found
returns-in-Ok-clause-found c =
    let s = start_is c.args.bytes.now _ _ c.new-lexer.ensures.tokens c.begin.ensures.left in
    trace_spelled program_limits Either c.args.bytes.now _ _ (ap (trace_file_at program_limits Either) (sym s)
    ∙ c.in-Ok.ensures)

pub returns-in-Ok-clause-only : goal.returns-in-Ok-clause-only
returns-in-Ok-clause-only c x h =
    let s = start_is c.args.bytes.now _ _ c.new-lexer.ensures.tokens c.begin.ensures.left in
    yielded (IsTraceFile program_limits Either) shapes.trace_file (IsTraceCause program_limits Either)
    (trace_file_at program_limits Either) _ _ _ _ _ x s c.in-Ok.ensures
    (trace_only program_limits Either (program_pieces c.args.bytes.now) x h)

pub returns-in-Ok-clause-within : goal.returns-in-Ok-clause-within
returns-in-Ok-clause-within c =
    let s = start_is c.args.bytes.now _ _ c.new-lexer.ensures.tokens c.begin.ensures.left in
    trace_within program_limits Either (pieces_of c.args.bytes.now) _ _
    (ap (trace_file_at program_limits Either) (sym s) ∙ c.in-Ok.ensures)

pub returns-in-Err-clause-only : goal.returns-in-Err-clause-only
returns-in-Err-clause-only c x h =
    let s = start_is c.args.bytes.now _ _ c.new-lexer.ensures.tokens c.begin.ensures.left in
    not_refused (IsTraceFile program_limits Either) shapes.trace_file (IsTraceCause program_limits Either)
    (trace_file_at program_limits Either) trace_file_of (source c.new-lexer.result) _ _ _ x c.in-Err.e
    c.placed.result s c.in-Err.ensures (trace_only program_limits Either (program_pieces c.args.bytes.now) x h)
    c.placed.ensures

pub returns-in-Err-clause-fault : goal.returns-in-Err-clause-fault
returns-in-Err-clause-fault c =
    let s = start_is c.args.bytes.now _ _ c.new-lexer.ensures.tokens c.begin.ensures.left in
    refused (IsTraceFile program_limits Either) shapes.trace_file (IsTraceCause program_limits Either)
    (trace_file_at program_limits Either) (trace_fault program_limits Either) c.args.bytes.now _ _ c.in-Err.e
    c.placed.result s c.in-Err.ensures
    (subst (λ (b : List ℕ). IsPlaced b c.in-Err.e c.placed.result) c.new-lexer.ensures.source c.placed.ensures)
