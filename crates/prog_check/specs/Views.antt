-- The verdict of the theory that a verdict stands for.
use Rattle.cone_reports.specs.Verdicts as theory
use Rattle.prog_check.specs.declared.verdict.Verdict.{Verdict}
use Rattle.prog_check.specs.declared.verdict.Verdict.TheVariants.{Inductive, NotWhole, Escapes, InvFails, AssertWrong}

abbrev pub verdict_of : {V Store : Type 0} → Verdict V Store → theory.Verdict V
verdict_of Inductive = theory.Inductive
verdict_of NotWhole = theory.NotWhole
verdict_of (Escapes edge row) = theory.Escapes edge row
verdict_of (InvFails point index) = theory.InvFails point index
verdict_of (AssertWrong statement) = theory.AssertWrong statement
