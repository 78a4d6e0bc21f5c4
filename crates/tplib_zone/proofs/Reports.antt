-- The report of a family of zones.
use Rattle.std.proofs.Common.{◌≡◌, ◌≤◌, ◌+◌, ◌*◌, ℕ, true, List, Some, Contains, length, map, ap, subst, refl, arith}
use Rattle.std.specs.Prelude.{Bool, All, slice_get, MatchOption, IsSomeAnd}
use Rattle.std.specs.List.{AllZip}
use Rattle.std.proofs.lemmas.Slice.Zip.{AllZip-left}
use Rattle.std.proofs.lemmas.Option.{slice_get_within, get_or_from_slice_get}
use Rattle.prog_theory.specs.Limits.{program_limits}
use Rattle.prog_theory.specs.Heads.{heads}
use Rattle.prog_theory.specs.Named.{Named, nameless}
use Rattle.prog_theory.specs.Graph.{points}
use Rattle.prog_theory.specs.ControlGraphs.{ControlGraph, graph_of}
use Rattle.prog_theory.specs.Within.{IsWithin}
use Rattle.dom_theory.specs.Outcomes.{Gives}
use Rattle.dom_theory.specs.Analysis.{End, Analysis}
use Rattle.cone_reports.specs.Asserts.{Assertion, asserts}
use Rattle.zone_theory.specs.Width.{pairs}
use Rattle.zone_theory.specs.Domain.{Zone, max_width}
use Rattle.zone_theory.specs.Relations.{zones}
use Rattle.zone_theory.proofs.Laws.{zones_laws}
use Rattle.zone_theory.proofs.Inclusion.{zones_inclusion}
use Rattle.zone_lists.specs.Zones.{ZoneList, zone_of, zone_lists}
use Rattle.zone_lists.proofs.Laws.{zone_lists_laws}
use Rattle.zone_lists.proofs.Inclusion.{lists_inclusion}
use Rattle.dom_family.specs.Family.{FamilyOf, value_in, IsJudgedBy, IsTrueAtVisits, IsFamily}
use Rattle.dom_family.proofs.Lengths.{length-end}
use Rattle.dom_family.proofs.Family.{each_value, family_is}
use Rattle.zone_print.specs.Reports.{proves, IsZoneReport}
use Rattle.tplib_reply.specs.Meaning.{Cause}
use Rattle.tplib_reply.specs.declared.stop.Stop.{Stop}
use Rattle.tplib_reply.specs.declared.stop.Stop.TheVariants.{Rows, Polar, Lean, At, PointPolar}
use Rattle.tplib_family.proofs.Claims.{claims_true}
use Rattle.tplib_family.specs.Views.{cause_of, place_of}
use Rattle.tplib_family.specs.Stops.{IsAnalysisStop}
use Rattle.tplib_zone.specs.Zone.{IsClosedOn, IsZoneText}
use Rattle.tplib_zone.proofs.Standing.{end_by}
use Rattle.tplib_zone.proofs.Lists.{zones_come}
use Rattle.tplib_zone.proofs.Laws.{claim_laws}
use Rattle.tplib_zone.proofs.Bounds.{bounds_met, zone_closed}

-- the graph of the code is that of the program
pub family_gives : (p : Named) (G : ControlGraph) → G ≡ graph_of (nameless p) → (delay narrow : ℕ) (end : End ZoneList)
    →
    Analysis zone_lists G delay narrow (Gives end) → FamilyOf zone_lists delay narrow p (Gives end)
family_gives p G is delay narrow end h =
    subst (λ (g : ControlGraph). Analysis zone_lists g delay narrow (Gives end)) is h

pub passes_bound : (p : Named) (G : ControlGraph) → G ≡ graph_of (nameless p) → (delay passes : ℕ) →
    passes ≤ length G.heads * (delay + max_width G.vars + 1) + 1 →
    passes ≤ length (heads (nameless p)) * (delay + max_width (length p.names) + 1) + 1
passes_bound p G is delay passes h =
    subst (λ (g : ControlGraph). passes ≤ length g.heads * (delay + max_width g.vars + 1) + 1) is h

-- of the values in lists
module _ (p : Named) (kept : IsWithin program_limits p) (delay narrow : ℕ) (end : End ZoneList)
    (gives : FamilyOf zone_lists delay narrow p (Gives end)) where
  abbrev d : ℕ
  d = length p.names

  pub lists_on : All (λ (x : ZoneList). x.vars ≡ d) end.values
  lists_on = each_value p kept zone_lists_laws (lists_inclusion d) delay narrow end gives (λ (x : ZoneList). x.vars ≡ d)
      (λ x on. on.1)

  pub one_each : length end.values ≡ length (points (nameless p))
  one_each = length-end zone_lists (graph_of (nameless p)) delay narrow end gives

  -- the zones that they stand for
  abbrev of_zones : End Zone
  of_zones = end_by zone_of end

  of_zones_gives : FamilyOf zones delay narrow p (Gives of_zones)
  of_zones_gives = zones_come (graph_of (nameless p)) delay narrow (Gives end) gives

  family : end.passes ≤ length (heads (nameless p)) * (delay + max_width d + 1) + 1 →
      IsFamily zones proves delay narrow p of_zones
  family = family_is p kept zones_laws (zones_inclusion d) delay narrow of_zones of_zones_gives (claim_laws d)
      (λ a listed. tt)

  closed : All (IsClosedOn d) of_zones.values
  closed = each_value p kept zones_laws (zones_inclusion d) delay narrow of_zones of_zones_gives (IsClosedOn d)
      (zone_closed d)

  passes_within : end.passes ≤ length (heads (nameless p)) * (delay + max_width d + 1) + 1 →
      end.passes ≤ length (heads (nameless p)) * (delay + pairs d + 2) + 1
  passes_within bound =
      let same : delay + max_width d + 1 ≡ delay + pairs d + 2 = omega arith in
      let turned = ap (λ k. length (heads (nameless p)) * k) same in
      omega (arith, bound, turned)

  pub report : (text : List ℕ) → end.passes ≤ length (heads (nameless p)) * (delay + max_width d + 1) + 1 →
      IsZoneReport delay narrow end.passes p (map zone_of end.values) text → IsZoneText delay narrow p text
  report text bound h =
      let f = family bound in
      record {
        end = of_zones;
        family = f;
        closed = closed;
        report = h;
        passes = passes_within bound;
        bounds = λ q s visit. bounds_met (value_in zones p of_zones.values q) s (f.visits q s visit);
        claims = claims_true proves (value_in zones p of_zones.values) p h.verdicts h.verdicts_are f.claims;
      }

  pub unstopped : end.passes ≤ length (heads (nameless p)) * (delay + max_width d + 1) + 1 → (cause : Cause)
      (stop : Stop) → IsAnalysisStop (FamilyOf zones delay narrow p) cause stop → ⊥
  unstopped bound cause (At place) h =
      (family bound).unstopped (record { cause = cause_of cause; place = place_of place }) h
  unstopped bound cause (Rows k) h = h
  unstopped bound cause (Polar i k) h = h
  unstopped bound cause (Lean k j) h = h
  unstopped bound cause (PointPolar q i k) h = h
