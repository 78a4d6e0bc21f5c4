-- What `analyse` answers.
use Rattle.std.specs.Prelude.{Result, Ok, Err}
use Rattle.dom_iter.specs.declared.error.IterErr.{IterErr}
use Rattle.dom_iter.specs.declared.family.Family.{Family}
use Rattle.dom_theory.specs.Outcomes.{Outcome, Gives}
use Rattle.dom_theory.specs.Analysis.{End}
use Rattle.dom_iter.specs.Comes.{StopsAt}

-- the family that the analysis gives, or where it stops
abbrev pub IsAnalysis : {V : Type 0} → (Outcome (End V) → Type 0) → Result (Family V) IterErr → Type 0
IsAnalysis c (Ok f) = c (Gives (record { values = f.values.items; passes = f.passes }))
IsAnalysis c (Err e) = StopsAt c e
