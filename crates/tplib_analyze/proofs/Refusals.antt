-- Refusals of the analysis, as refusals of the command.
use Rattle.std.proofs.Common.{◌≡◌, ℕ, Bool, List, length, refl, sym, subst}
use Rattle.trop_theory.specs.Semiring.{Semiring}
use Rattle.trop_theory.specs.Numbers.{Numbering}
use Rattle.trop_duality.specs.PolarStops.{IsPolarStop}
use Rattle.prog_theory.specs.Named.{Named}
use Rattle.dom_theory.specs.Outcomes.{Gives}
use Rattle.dom_theory.specs.Analysis.{End}
use Rattle.trop_poly.specs.declared.error.PolyErr.{PolyErr}
use Rattle.trop_poly.specs.declared.error.PolyErr.TheVariants as cones
use Rattle.trop_poly.specs.Refusals.{IsExternalRefusal}
use Rattle.cone_domain.specs.Values.{Value, coordinates}
use Rattle.cone_domain.specs.Polyhedra.{nothing}
use Rattle.tplib_reply.specs.declared.stop.Stop.TheVariants as stops
use Rattle.tplib_reply.specs.declared.refusal.Refusal.{Refusal}
use Rattle.tplib_reply.specs.declared.refusal.Refusal.TheVariants as refusals
use Rattle.tplib_family.specs.Stops.{IsAnalysisRefusal}
use Rattle.tplib_analyze.specs.Stopped.{list_refusal}
use Rattle.tplib_analyze.specs.Family.{FamilyOf}
use Rattle.tplib_analyze.specs.Parts.{IsPartRefusal, IsPartsRefusal}
use Rattle.tplib_analyze.specs.Made.{IsReportRefusal}

module _ {V : Type 0} (R : Semiring V) (N : Numbering V) (reversed : Bool) (delay narrow : ℕ) (p : Named) where
  -- where the analysis stops
  pub analysis_refused : (refusal : Refusal) → IsAnalysisRefusal (FamilyOf R N reversed delay narrow p) refusal →
      IsReportRefusal R N reversed delay narrow p refusal
  analysis_refused (refusals.Limit (stops.At place)) h = h
  analysis_refused (refusals.Limit (stops.PointPolar q i k)) h = absurd h
  analysis_refused (refusals.Limit (stops.Rows k)) h = absurd h
  analysis_refused (refusals.Limit (stops.Polar i k)) h = absurd h
  analysis_refused (refusals.Limit (stops.Lean k j)) h = absurd h
  analysis_refused (refusals.Range (stops.At place)) h = h
  analysis_refused (refusals.Range (stops.PointPolar q i k)) h = absurd h
  analysis_refused (refusals.Range (stops.Rows k)) h = absurd h
  analysis_refused (refusals.Range (stops.Polar i k)) h = absurd h
  analysis_refused (refusals.Range (stops.Lean k j)) h = absurd h
  analysis_refused (refusals.Text fault) h = absurd h
  analysis_refused refusals.NoMemory h = tt

  -- where the external list of a point stops
  pub parts_refused : (end : End (Value V)) → FamilyOf R N reversed delay narrow p (Gives end) → (refusal : Refusal) →
      IsPartsRefusal R end.values refusal → IsReportRefusal R N reversed delay narrow p refusal
  parts_refused end gives (refusals.Limit (stops.PointPolar q i k)) h =
      let stop = h (nothing (length p.names)) in
      record { end = end; gives = gives; inside = stop.inside; here = stop.here; before = stop.before }
  parts_refused end gives (refusals.Limit (stops.Rows k)) h = absurd h
  parts_refused end gives (refusals.Limit (stops.Polar i k)) h = absurd h
  parts_refused end gives (refusals.Limit (stops.Lean k j)) h = absurd h
  parts_refused end gives (refusals.Limit (stops.At place)) h = absurd h
  parts_refused end gives (refusals.Text fault) h = absurd h
  parts_refused end gives (refusals.Range stop) h = absurd h
  parts_refused end gives refusals.NoMemory h = tt

-- the external list of the value of a point stops
pub list_refused : {V : Type 0} (R : Semiring V) (v : Value V) (n : ℕ) (rows : List (List V)) → n ≡ coordinates v →
    rows ≡ v.rows → (e : PolyErr) (point : ℕ) → IsExternalRefusal R n rows e → IsPartRefusal R v point (list_refusal e
    point)
list_refused R v n rows width same (cones.Rows k) point h = absurd h
list_refused R v n rows width same (cones.Polar i k) point h = (
  refl,
  subst (λ m. IsPolarStop R m v.rows i k) width
      (subst (λ g. IsPolarStop R n g i k) same h),
)
list_refused R v n rows width same cones.NoMemory point h = tt

pub part_refused_as : {V : Type 0} (R : Semiring V) (v : Value V) (point : ℕ) (refusal other : Refusal) →
    refusal ≡ other → IsPartRefusal R v point other → IsPartRefusal R v point refusal
part_refused_as R v point refusal other is h = subst (IsPartRefusal R v point) (sym is) h
