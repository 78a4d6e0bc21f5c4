-- Refusals of the analysis by lists, as those of one by zones; and which there are.
use Rattle.std.proofs.Common.{◌≡◌, ℕ, subst}
use Rattle.prog_theory.specs.ControlGraphs.{ControlGraph, graph_of}
use Rattle.prog_theory.specs.Named.{Named, nameless}
use Rattle.dom_theory.specs.Relations.{OverLimit, OutOfRange}
use Rattle.dom_theory.specs.Analysis.{Analysis}
use Rattle.zone_theory.specs.Relations.{zones}
use Rattle.zone_lists.specs.Zones.{zone_lists}
use Rattle.dom_family.specs.Family.{FamilyOf}
use Rattle.tplib_reply.specs.Meaning.{IsRefused}
use Rattle.tplib_reply.specs.Meaning as reply
use Rattle.tplib_reply.specs.declared.stop.Part.{Part}
use Rattle.tplib_reply.specs.declared.stop.Part.TheVariants as parts
use Rattle.tplib_reply.specs.declared.stop.Stop.{Stop}
use Rattle.tplib_reply.specs.declared.stop.Stop.TheVariants.{Rows, Polar, Lean, At, PointPolar}
use Rattle.tplib_reply.specs.declared.refusal.Refusal.{Refusal}
use Rattle.tplib_reply.specs.declared.refusal.Refusal.TheVariants.{Text, Limit, Range, NoMemory}
use Rattle.tplib_family.specs.Views.{part_of, place_of}
use Rattle.tplib_family.specs.Stops.{IsAnalysisStop, IsAnalysisRefusal}
use Rattle.tplib_zone.specs.Refusals.{IsZonePart, IsZoneRefusal}
use Rattle.tplib_zone.proofs.Lists.{zones_come}
use Rattle.tplib_zone.proofs.Stops.{IsPlain, zones_stop}

module _ (delay narrow : ℕ) (p : Named) where
  stop_by_zones : (cause : reply.Cause) (stop : Stop) → IsAnalysisStop (FamilyOf zone_lists delay narrow p) cause stop →
      IsAnalysisStop (FamilyOf zones delay narrow p) cause stop
  stop_by_zones cause (At place) h = zones_come (graph_of (nameless p)) delay narrow _ h
  stop_by_zones cause (Rows k) h = absurd h
  stop_by_zones cause (Polar i k) h = absurd h
  stop_by_zones cause (Lean k j) h = absurd h
  stop_by_zones cause (PointPolar q i k) h = absurd h

  of_graph : (refusal : Refusal) → IsAnalysisRefusal (FamilyOf zone_lists delay narrow p) refusal →
      IsAnalysisRefusal (FamilyOf zones delay narrow p) refusal
  of_graph (Text fault) h = h
  of_graph (Limit stop) h = stop_by_zones reply.OverLimit stop h
  of_graph (Range stop) h = stop_by_zones reply.OutOfRange stop h
  of_graph NoMemory h = h

  -- where the code's analysis stops
  pub analysis_refused : (G : ControlGraph) → G ≡ graph_of (nameless p) → (refusal : Refusal) →
      IsAnalysisRefusal (Analysis zone_lists G delay narrow) refusal →
      IsAnalysisRefusal (FamilyOf zones delay narrow p) refusal
  analysis_refused G is refusal h = of_graph refusal
      (subst (λ (g : ControlGraph). IsAnalysisRefusal (Analysis zone_lists g delay narrow) refusal) is h)

  part_plain : (part : Part) → IsPlain (part_of part) → IsZonePart part
  part_plain (parts.Edge k) h = tt
  part_plain (parts.Sum k) h = tt
  part_plain parts.Head h = tt
  part_plain (parts.Polar i k) h = h
  part_plain (parts.Kept k) h = tt

  within_limit : OverLimit ≡ OutOfRange → ⊥
  within_limit e = cc

  pub analysis_kinds : (refusal : Refusal) → IsAnalysisRefusal (FamilyOf zones delay narrow p) refusal →
      IsZoneRefusal refusal
  analysis_kinds (Text fault) h = absurd h
  analysis_kinds NoMemory h = tt
  analysis_kinds (Limit (At place)) h =
      within_limit (zones_stop (graph_of (nameless p)) delay narrow (record {
        cause = OverLimit;
        place = place_of place;
      }) h).cause
  analysis_kinds (Limit (Rows k)) h = h
  analysis_kinds (Limit (Polar i k)) h = h
  analysis_kinds (Limit (Lean k j)) h = h
  analysis_kinds (Limit (PointPolar q i k)) h = h
  analysis_kinds (Range (At place)) h =
      part_plain place.part (zones_stop (graph_of (nameless p)) delay narrow (record {
        cause = OutOfRange;
        place = place_of place;
      }) h).part
  analysis_kinds (Range (Rows k)) h = h
  analysis_kinds (Range (Polar i k)) h = h
  analysis_kinds (Range (Lean k j)) h = h
  analysis_kinds (Range (PointPolar q i k)) h = h
