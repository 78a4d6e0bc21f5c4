-- Images and joins of zones in lists grow with the values.
use Rattle.std.proofs.Common.{ℕ, Option, Some, None, sym, subst}
use Rattle.prog_theory.specs.Edges.{Op}
use Rattle.prog_theory.specs.Fits.{FitsOp}
use Rattle.dom_theory.specs.Inclusion.{SoundLaws, GrowthLaws, InclusionLaws}
use Rattle.zone_theory.specs.Matrices.{Matrix}
use Rattle.zone_theory.specs.Domain.{Zone, IsNormalValue}
use Rattle.zone_theory.specs.Relations.{IsImageOf, zones}
use Rattle.zone_theory.proofs.Inclusion.{IsZoneOn, zones_inclusion}
use Rattle.zone_lists.specs.Zones.{ZoneList, IsListed, zone_of, empty, zone_lists}
use Rattle.zone_lists.proofs.Listed.{values-same, IsNormalIf, list_of, list-listed, list-zone}
use Rattle.zone_lists.proofs.Laws.{whole-zone}

-- a value on so many variables, as the domain makes it
abbrev pub IsListOn : ℕ → ZoneList → Type 0
IsListOn vars x = IsZoneOn vars (zone_of x)

normal-if : (vars : ℕ) (b : Option Matrix) → IsNormalValue vars b → IsNormalIf vars b
normal-if vars None n = tt
normal-if vars (Some m) n = n.1

empty-listed : (vars : ℕ) → IsListed (empty vars)
empty-listed vars = record { bounds = tt; kept = tt }

module _ (vars : ℕ) where
  laws : InclusionLaws zones vars (IsZoneOn vars)
  laws = zones_inclusion vars

  lists_sound : SoundLaws zone_lists vars (IsListOn vars)
  lists_sound = record {
    bottom = laws.sound.bottom;
    top = subst (IsZoneOn vars) (sym (whole-zone vars)) laws.sound.top;
    applied = λ op x y s h. laws.sound.applied op (zone_of x) (zone_of y) s h.0;
    joined = λ x other y s t h. laws.sound.joined (zone_of x) (zone_of other) (zone_of y) s t h.0;
    widened = λ x next y s t h. laws.sound.widened (zone_of x) (zone_of next) (zone_of y) s t h.0;
  }

  image_exists : (op : Op) (x : ZoneList) → FitsOp vars op → IsListOn vars x
      → (y : ZoneList) × (IsImageOf op (zone_of x) (zone_of y) × IsListed y)
  image_exists op x fits s = go (laws.growth.exists op (zone_of x) fits s)
    where
      go : (y : Zone) × IsImageOf op (zone_of x) y
          → (y : ZoneList) × (IsImageOf op (zone_of x) (zone_of y) × IsListed y)
      go r = (
        list_of r.0,
        (
          subst (IsImageOf op (zone_of x)) (sym (list-zone r.0
              (subst (λ d. IsNormalIf d r.0.bounds) (sym r.1.1.vars) (normal-if x.vars r.0.bounds r.1.1.value))
              (subst (IsNormalIf r.0.vars) (sym r.1.1.kept) tt))) r.1,
          list-listed r.0,
        ),
      )

  lists_growth : GrowthLaws zone_lists vars (IsListOn vars)
  lists_growth = record {
    self = λ x s h. h;
    trans = λ x y z a b s h. b s (a s h);
    nothing = λ x s. laws.growth.nothing (zone_of x) s;
    left = λ x other y h. laws.growth.left (zone_of x) (zone_of other) (zone_of y) h.0;
    right = λ x other y h. laws.growth.right (zone_of x) (zone_of other) (zone_of y) h.0;
    least = λ x other y z s h. laws.growth.least (zone_of x) (zone_of other) (zone_of y) (zone_of z) s h.0;
    grows = λ op x y a b sx sy inside h k. laws.growth.grows op (zone_of x) (zone_of y) (zone_of a) (zone_of b) sx sy
        inside h.0 k.0;
    exists = image_exists;
    image_of_bottom = λ op y h. values-same y (empty vars) h.1 (empty-listed vars)
        (laws.growth.image_of_bottom op (zone_of y) h.0);
    join_of_bottom = λ y h. values-same y (empty vars) h.1 (empty-listed vars)
        (laws.growth.join_of_bottom (zone_of y) h.0);
  }

  pub lists_inclusion : InclusionLaws zone_lists vars (IsListOn vars)
  lists_inclusion = record { sound = lists_sound; growth = lists_growth }
