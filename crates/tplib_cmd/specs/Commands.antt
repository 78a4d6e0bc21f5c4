-- The commands, by their words: whether they read, and what they mean.
use Rattle.std.specs.Prelude.{◌≤◌, ℕ, Bool, true, false, List}
use Rattle.trop_words.specs.Words.{IsSpelled}
use Rattle.trop_words.specs.declared.command.Command.{Command}
use Rattle.trop_words.specs.declared.command.Command.TheVariants.{Reduce, Ext, Int, Tangent, Include, Equal, Join, Meet, Forget, Trace, Analyze, Check, Sample}
use Rattle.trop_files.specs.Generators.{GeneratorFile}
use Rattle.trop_files.specs.InequalityFiles.{InequalityFile}
use Rattle.trop_files.specs.PairFiles.{TwoFile}
use Rattle.trop_files.specs.AtFiles.{AtText}
use Rattle.prog_theory.specs.Named.{Named}
use Rattle.prog_texts.specs.Traces.{TraceFile}
use Rattle.report_texts.specs.Reports.{ReportText}
use Rattle.tplib_reply.specs.Meaning.{Meaning}
use Rattle.tplib_cones.specs.Reduce.{reduce_meaning}
use Rattle.tplib_cones.specs.Ext.{ext_meaning}
use Rattle.tplib_poly.specs.declared.pair.PairCommand.TheVariants as pair
use Rattle.tplib_poly.specs.Int.{int_meaning}
use Rattle.tplib_poly.specs.Pairs.{pair_meaning}
use Rattle.tplib_poly.specs.Forget.{forget_meaning}
use Rattle.tplib_poly.specs.Sample.{Numbers, sample_meaning}
use Rattle.tplib_lean.specs.Lean.{lean_meaning}
use Rattle.tplib_tangent.specs.Tangent.{tangent_meaning}
use Rattle.tplib_progs.specs.Trace.{trace_meaning}
use Rattle.tplib_check.specs.Check.{check_meaning}
use Rattle.tplib_cmd.specs.Analyses.{analysis_meaning}

-- the words spell this command
pub record IsCommand (words : List (List ℕ)) (command : Command) : Type 0 where
  pub spelled : IsSpelled words command

-- the numbers of a command are in their ranges; no words spell others
abbrev pub IsInRange : Command → Type 0
IsInRange Reduce = Unit {0}
IsInRange Ext = Unit {0}
IsInRange (Int lean) = Unit {0}
IsInRange Tangent = Unit {0}
IsInRange Include = Unit {0}
IsInRange Equal = Unit {0}
IsInRange Join = Unit {0}
IsInRange Meet = Unit {0}
IsInRange (Forget var) = Unit {0}
IsInRange (Trace turns) = turns ≤ 10000
IsInRange (Analyze mode delay narrow) = (delay ≤ 1000) × (narrow ≤ 100)
IsInRange Check = Unit {0}
IsInRange (Sample seed vars rows) = (seed ≤ 2147483647) × (1 ≤ vars) × (vars ≤ 31) × (rows ≤ 1024)

-- whether the command reads its input; one that does not leaves it untouched
abbrev pub reads : Command → Bool
reads Reduce = true
reads Ext = true
reads (Int lean) = true
reads Tangent = true
reads Include = true
reads Equal = true
reads Join = true
reads Meet = true
reads (Forget var) = true
reads (Trace turns) = true
reads (Analyze mode delay narrow) = true
reads Check = true
reads (Sample seed vars rows) = false

-- what the input of a command says
abbrev pub Said : Command → Type 0
Said Reduce = GeneratorFile
Said Ext = InequalityFile
Said Tangent = AtText
Said (Int lean) = GeneratorFile
Said Include = TwoFile
Said Equal = TwoFile
Said Join = TwoFile
Said Meet = TwoFile
Said (Forget var) = GeneratorFile
Said (Trace turns) = TraceFile
Said (Analyze mode delay narrow) = Named
Said Check = ReportText
Said (Sample seed vars rows) = Numbers

abbrev pub meaning_of : (command : Command) → Meaning (Said command)
meaning_of Reduce = reduce_meaning
meaning_of Ext = ext_meaning
meaning_of Tangent = tangent_meaning
meaning_of (Int false) = int_meaning
meaning_of (Int true) = lean_meaning
meaning_of Include = pair_meaning pair.Include
meaning_of Equal = pair_meaning pair.Equal
meaning_of Join = pair_meaning pair.Join
meaning_of Meet = pair_meaning pair.Meet
meaning_of (Forget var) = forget_meaning var.now
meaning_of (Trace turns) = trace_meaning turns
meaning_of (Analyze mode delay narrow) = analysis_meaning mode delay narrow
meaning_of Check = check_meaning
meaning_of (Sample seed vars rows) = sample_meaning seed vars rows
