-- What a reader of trace files answers.
use Rattle.std.specs.Prelude.{ℕ, List}
use Rattle.trop_text.specs.declared.fault.TextErr.{TextErr}
use Rattle.prog_theory.specs.Limits.{program_limits}
use Rattle.prog_texts.specs.AssertRule.{Either}
use Rattle.prog_texts.specs.Words.{program_pieces}
use Rattle.prog_texts.specs.Shapes as shapes
use Rattle.prog_texts.specs.Traces as traces
use Rattle.prog_lang.specs.Outcomes.{IsRefusalIn}
use Rattle.prog_lang.specs.declared.traces.TraceFile.{TraceFile}

-- the trace file that the program holds
abbrev pub trace_file_of : TraceFile → traces.TraceFile
trace_file_of t = record { program = t.program; start = t.start; choices = t.choices }

-- why a trace file is refused
abbrev pub IsTraceRefusal : List ℕ → TextErr → Type 0
IsTraceRefusal bytes e =
    IsRefusalIn (traces.IsTraceFile program_limits Either) shapes.trace_file (traces.IsTraceCause program_limits Either)
    (traces.trace_file_at program_limits Either) bytes (program_pieces bytes) e
