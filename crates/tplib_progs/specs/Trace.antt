-- What the command `trace` means: the chosen run of the program of a trace file.
use Rattle.std.specs.Prelude.{◌≡◌, ℕ, List, map}
use Rattle.trop_text.specs.declared.fault.TextErr.TheVariants as errors
use Rattle.prog_theory.specs.Limits.{program_limits}
use Rattle.prog_theory.specs.Named.{nameless}
use Rattle.prog_theory.specs.Chosen.{End, Run}
use Rattle.prog_texts.specs.AssertRule.{Either}
use Rattle.prog_texts.specs.Words.{program_pieces}
use Rattle.prog_texts.specs.Traces.{TraceFile, IsTraceFile}
use Rattle.prog_lang.specs.TraceOutcomes.{IsTraceRefusal}
use Rattle.prog_run.specs.Shown.{Shown, shown}
use Rattle.prog_run.specs.Traces.{run_of, IsTrace, AreVisits}
use Rattle.tplib_reply.specs.Meaning.{Meaning, never, always_yes}
use Rattle.tplib_progs.specs.Lines.{run_text}

-- the chosen run of the file's program, from its start and by its choices, with at most so many steps
abbrev pub chosen_of : ℕ → TraceFile → Run
chosen_of turns file = run_of file.program file.start file.choices turns

-- The text has a line for each configuration of the chosen run, and one for its end.
pub record IsTraceText (turns : ℕ) (file : TraceFile) (text : List ℕ) : Type 0 where
  -- the configurations, each by the number of the statement that is next and its state
  pub configs : List Shown
  pub ended : End
  -- they and the end are those of the chosen run
  pub chosen : configs ≡ map shown (chosen_of turns file).configs
  pub chosen_end : ended ≡ (chosen_of turns file).ended
  -- each follows the last by a step, from the whole program and the start on, and the end has its cause at the last one
  pub run : IsTrace (nameless file.program) file.start file.choices turns configs ended
  -- a run of the program comes to each
  pub visits : AreVisits (nameless file.program) configs
  pub printed : text ≡ run_text configs ended

-- The bytes spell a trace file; or they have a first fault as one. Nothing stops the run.
abbrev pub trace_meaning : ℕ → Meaning TraceFile
trace_meaning turns = record {
  spells = λ bytes file. IsTraceFile program_limits Either (program_pieces bytes) file;
  faulty = λ bytes fault. IsTraceRefusal bytes (errors.Fault fault);
  stops = never;
  answers = always_yes (IsTraceText turns);
}
