-- Refusals of the analysis and of external lists, as refusals of the command.
use Rattle.std.proofs.Common.{◌≡◌, ◌≤◌, ℕ, List, Option, length, sym, subst}
use Rattle.std.specs.Prelude.{ℤ}
use Rattle.trop_theory.specs.MaxPlus.{max_ring, max_numbering}
use Rattle.prog_theory.specs.ControlGraphs.{ControlGraph, graph_of}
use Rattle.prog_theory.specs.Limits.{program_limits}
use Rattle.prog_theory.specs.Named.{Named, nameless}
use Rattle.prog_texts.specs.AssertRule.{Either}
use Rattle.prog_texts.specs.Words.{program_pieces}
use Rattle.prog_texts.specs.Programs.{IsWholeProgram}
use Rattle.dom_theory.specs.Outcomes.{Gives}
use Rattle.dom_theory.specs.Analysis.{End, Analysis}
use Rattle.cone_domain.specs.Values.{Value}
use Rattle.mixed_theory.specs.Mixed.{mixed}
use Rattle.dom_family.specs.Family.{FamilyOf}
use Rattle.mixed_print.specs.declared.error.MixedErr.{MixedErr}
use Rattle.mixed_print.specs.declared.error.MixedErr.TheVariants as print
use Rattle.mixed_print.specs.Refusals.{IsPrintRefusal}
use Rattle.tplib_reply.specs.Meaning.{IsRefused}
use Rattle.tplib_reply.specs.declared.stop.Stop.TheVariants.{Rows, Polar, Lean, At, PointPolar}
use Rattle.tplib_reply.specs.declared.refusal.Refusal.{Refusal}
use Rattle.tplib_reply.specs.declared.refusal.Refusal.TheVariants.{Text, Limit, Range, NoMemory}
use Rattle.tplib_family.specs.Stops.{IsAnalysisRefusal}
use Rattle.tplib_mixed.specs.Fault.{most_variables}
use Rattle.tplib_mixed.specs.Mixed.{mixed_meaning}
use Rattle.tplib_mixed.specs.Refusals.{refusal_of, IsReportRefusal}

module _ (delay narrow : ℕ) (p : Named) where
  -- where the analysis stops
  pub analysis_refused : (refusal : Refusal) →
      IsAnalysisRefusal (FamilyOf (mixed max_ring max_numbering) delay narrow p) refusal →
      IsReportRefusal delay narrow p refusal
  analysis_refused (Text fault) h = h
  analysis_refused NoMemory h = tt
  analysis_refused (Limit (At place)) h = h
  analysis_refused (Limit (Rows k)) h = absurd h
  analysis_refused (Limit (Polar i k)) h = absurd h
  analysis_refused (Limit (Lean k j)) h = absurd h
  analysis_refused (Limit (PointPolar q i k)) h = absurd h
  analysis_refused (Range (At place)) h = h
  analysis_refused (Range (Rows k)) h = absurd h
  analysis_refused (Range (Polar i k)) h = absurd h
  analysis_refused (Range (Lean k j)) h = absurd h
  analysis_refused (Range (PointPolar q i k)) h = absurd h

  pub graph_refused : (G : ControlGraph) → G ≡ graph_of (nameless p) → (refusal : Refusal) →
      IsAnalysisRefusal (Analysis (mixed max_ring max_numbering) G delay narrow) refusal →
      IsReportRefusal delay narrow p refusal
  graph_refused G graph_is refusal h = analysis_refused refusal
      (subst (λ H. IsAnalysisRefusal (Analysis (mixed max_ring max_numbering) H delay narrow) refusal) graph_is h)

  -- where the external list of a point stops
  print_refused : (end : End (Value (Option ℤ))) →
      FamilyOf (mixed max_ring max_numbering) delay narrow p (Gives end) → (e : MixedErr) →
      IsPrintRefusal p end.values e → IsReportRefusal delay narrow p (refusal_of e)
  print_refused end gives (print.Polar point i k) h =
      record { end = end; gives = gives; inside = h.inside; here = h.here; before = h.before }
  print_refused end gives print.NoMemory h = tt

  pub refused_as : (end : End (Value (Option ℤ))) →
      FamilyOf (mixed max_ring max_numbering) delay narrow p (Gives end) → (values : List (Value (Option ℤ))) →
      values ≡ end.values → (e : MixedErr) (refusal : Refusal) → refusal ≡ refusal_of e →
      IsPrintRefusal p values e → IsReportRefusal delay narrow p refusal
  refused_as end gives values same e refusal is h =
      subst (IsReportRefusal delay narrow p) (sym is)
      (print_refused end gives e (subst (λ vs. IsPrintRefusal p vs e) same h))

-- ---- as refusals of the bytes
pub refused : (delay narrow : ℕ) (bytes : List ℕ) (p : Named) →
    IsWholeProgram program_limits Either (program_pieces bytes) p → length p.names ≤ most_variables →
    (refusal : Refusal) → IsReportRefusal delay narrow p refusal → IsRefused (mixed_meaning delay narrow) bytes refusal
refused delay narrow bytes p spelled few (Text fault) h = absurd h
refused delay narrow bytes p spelled few (Limit stop) h = record { said = p; spelled = (spelled, few); stops = h }
refused delay narrow bytes p spelled few (Range stop) h = record { said = p; spelled = (spelled, few); stops = h }
refused delay narrow bytes p spelled few NoMemory h = tt
