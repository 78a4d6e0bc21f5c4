-- What the texts of programs and of trace files come to: the value, or the first fault with its place.
use Rattle.std.specs.Prelude.{ℕ, List, map, Result, Ok, Err}
use Rattle.trop_text.specs.Places.{fault_before}
use Rattle.trop_text.specs.declared.fault.Fault.{Fault}
use Rattle.trop_text.specs.declared.fault.FaultKind.{FaultKind}
use Rattle.trop_grammar.specs.Reading.{Reading}
use Rattle.prog_theory.specs.Limits.{program_limits}
use Rattle.prog_texts.specs.AssertRule.{AssertRule, Either}
use Rattle.prog_theory.specs.Limits.{Limits}
use Rattle.prog_texts.specs.Words.{Counted, program_pieces}
use Rattle.prog_theory.specs.Named.{Named}
use Rattle.prog_texts.specs.Programs.{whole_program_at}
use Rattle.prog_texts.specs.Traces.{TraceFile, trace_file_at}

abbrev pub answer : {A : Type 0} → List ℕ → Reading Counted FaultKind A → Result A Fault
answer bytes (Ok x) = Ok x.0
answer bytes (Err miss) = Err (fault_before bytes miss.what (map (λ (t : Counted). t.piece) miss.rest))

abbrev pub program_within : Limits → AssertRule → List ℕ → Result Named Fault
program_within L rule bytes = answer bytes (whole_program_at L rule (program_pieces bytes))

abbrev pub program_answer : AssertRule → List ℕ → Result Named Fault
program_answer rule bytes = program_within program_limits rule bytes

abbrev pub trace_answer : List ℕ → Result TraceFile Fault
trace_answer bytes = answer bytes (trace_file_at program_limits Either (program_pieces bytes))
