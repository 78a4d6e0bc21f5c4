-- Zones in lists stand for zones, and an analysis by lists for one by zones.
use Rattle.std.proofs.Common.{◌≡◌, ◌∙◌, ℕ, List, Option, Some, None, refl, ap}
use Rattle.std.specs.Prelude.{◌↔◌}
use Rattle.prog_theory.specs.ControlGraphs.{ControlGraph}
use Rattle.dom_theory.specs.Refusals.{At}
use Rattle.dom_theory.specs.Relations.{Call, Apply, Join, Widen, Cause}
use Rattle.dom_theory.specs.Outcomes.{Outcome}
use Rattle.dom_theory.specs.Analysis.{End, Analysis}
use Rattle.zone_theory.specs.Bounds.{Bound}
use Rattle.zone_theory.specs.Matrices.{Matrix}
use Rattle.zone_theory.specs.Domain.{Zone, bottom}
use Rattle.zone_theory.specs.Relations.{zones}
use Rattle.zone_lists.specs.Zones.{ZoneList, matrix_in, matrix_if, zone_of, empty, zone_lists}
use Rattle.zone_lists.proofs.Laws.{whole-zone}
use Rattle.tplib_zone.proofs.Standing.{Stands, call_by, outcome_by, end_by, analysis_stands}

abbrev list : ℕ → Option (List Bound) → Option (List Bound) → ZoneList
list vars bounds kept = record { vars = vars; bounds = bounds; kept = kept }

none-list : (d : ℕ) (b : Option (List Bound)) → matrix_if d b ≡ None → b ≡ None
none-list d None e = refl
none-list d (Some bounds) e = absurd (let f : ◌≡◌ {A = Option Matrix} (Some (matrix_in d bounds)) None = e in cc)

nothing : (n : ℕ) (x : ZoneList) → zone_of x ≡ bottom n → x ≡ empty n
nothing n x e = ap (λ b. list x.vars b x.kept) (none-list x.vars x.bounds (ap (λ (z : Zone). z.bounds) e))
    ∙ ap (λ k. list x.vars None k) (none-list x.vars x.kept (ap (λ (z : Zone). z.kept) e))
    ∙ ap (λ v. list v None None) (ap (λ (z : Zone). z.vars) e)

refused : (call : Call ZoneList) (cause : Cause) (at : At)
    → zone_lists.refused call cause at ↔ zones.refused (call_by zone_of call) cause at
refused (Apply op x) cause at = (λ h. h, λ h. h)
refused (Join x other) cause at = (λ h. h, λ h. h)
refused (Widen x next) cause at = (λ h. h, λ h. h)

lists_stand : Stands zone_lists zones zone_of
lists_stand = record {
  bottom = λ n. refl;
  top = whole-zone;
  nothing = nothing;
  within = λ x y. (λ h. h, λ h. h);
  applied = λ op x y h. h.0;
  joined = λ x other y h. h.0;
  widened = λ x next y h. h.0;
  refused = refused;
}

-- what comes of the analysis by lists stands for what comes of it by zones
pub zones_come : (G : ControlGraph) (delay narrow : ℕ) (r : Outcome (End ZoneList))
    → Analysis zone_lists G delay narrow r
    → Analysis zones G delay narrow (outcome_by (end_by zone_of) r)
zones_come G delay narrow r h = (analysis_stands zone_lists zones zone_of lists_stand G delay narrow).over r h
