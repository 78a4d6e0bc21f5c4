-- What `analyze` means in each of its modes.
use Rattle.std.specs.Prelude.{ℕ}
use Rattle.trop_words.specs.declared.command.Mode.{Mode}
use Rattle.trop_words.specs.declared.command.Mode.TheVariants.{Max, Min, Mixed, Zone}
use Rattle.prog_theory.specs.Named.{Named}
use Rattle.report_texts.specs.Modes as reports
use Rattle.tplib_reply.specs.Meaning.{Meaning}
use Rattle.tplib_analyze.specs.Analyze.{analyze_meaning}
use Rattle.tplib_mixed.specs.Mixed.{mixed_meaning}
use Rattle.tplib_zone.specs.Zone.{zone_meaning}

abbrev pub analysis_meaning : Mode → ℕ → ℕ → Meaning Named
analysis_meaning Max delay narrow = analyze_meaning reports.InMax delay narrow
analysis_meaning Min delay narrow = analyze_meaning reports.InMin delay narrow
analysis_meaning Mixed delay narrow = mixed_meaning delay narrow
analysis_meaning Zone delay narrow = zone_meaning delay narrow

-- the mode whose reports name this one
abbrev pub word_of : reports.Mode → Mode
word_of reports.InMax = Max
word_of reports.InMin = Min
