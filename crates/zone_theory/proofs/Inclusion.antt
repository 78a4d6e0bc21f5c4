-- Images and joins of zones grow with the zones.
use Rattle.std.proofs.Common.{◌≡◌, ◌≢◌, ⊎_elim, ℕ, length, Option, Some, None, refl, sym, subst, ◌∙◌}
use Rattle.prog_theory.specs.States.{State}
use Rattle.prog_theory.specs.Edges.{Op}
use Rattle.prog_theory.specs.Fits.{FitsOp}
use Rattle.dom_theory.specs.Inclusion.{SoundLaws, GrowthLaws, InclusionLaws}
use Rattle.zone_theory.specs.Matrices.{Matrix, InZone, free}
use Rattle.zone_theory.specs.Zones.{Has}
use Rattle.zone_theory.specs.Domain.{Zone, HasState, bottom, Within, IsNormalValue, Applied, Joined, Widened}
use Rattle.zone_theory.specs.Relations.{IsImageOf, zones}
use Rattle.zone_theory.proofs.Limits.{free-shortest}
use Rattle.zone_theory.proofs.Closing.{shortest-closed, closed-shortest}
use Rattle.zone_theory.proofs.Entries.{same_or_apart}
use Rattle.zone_theory.proofs.Images.{empty-image}
use Rattle.zone_theory.proofs.DomainLaws.{applied-one, joined-one, joined-left_states, joined-right_states}
use Rattle.zone_theory.proofs.DomainCalls.{applied-exists}

-- a value on so many variables, as the domain makes it
abbrev pub IsZoneOn : ℕ → Zone → Type 0
IsZoneOn vars x = IsNormalValue vars x.bounds × (x.vars ≡ vars)

pub top-normal : (vars : ℕ) → IsNormalValue vars (Some free)
top-normal vars = (shortest-closed vars free (free-shortest vars), record { none = λ i j out. refl })

widened-normal : (x next y : Zone) → Widened x next y → IsNormalValue x.vars y.bounds
widened-normal x next y w = subst (IsNormalValue x.vars) (sym w.bounds_is) (
  shortest-closed x.vars w.bounds (closed-shortest x.vars (InZone x.vars w.keeps) w.bounds w.widened.closed),
  w.normal_bounds,
)

module _ (vars : ℕ) where
  moved : (x y : Zone) → IsNormalValue x.vars y.bounds → y.vars ≡ x.vars → x.vars ≡ vars → IsZoneOn vars y
  moved x y v e f = (subst (λ d. IsNormalValue d y.bounds) f v, e ∙ f)

  zones_sound : SoundLaws zones vars (IsZoneOn vars)
  zones_sound = record {
    bottom = (tt, refl);
    top = (top-normal vars, refl);
    applied = λ op x y s h. moved x y h.1.value h.1.vars s.1;
    joined = λ x other y s t h. moved x y h.value h.vars s.1;
    widened = λ x next y s t h. moved x y (widened-normal x next y h) h.vars s.1;
  }

  nothing_within : (x : Zone) → IsZoneOn vars x → Within (bottom vars) x
  nothing_within x s t h = absurd h

  -- states of the values, whose numbers of variables are equal
  at-same : (m n : ℕ) (b : Option Matrix) (s : State) → m ≡ n → Has m b s → Has n b s
  at-same m n b s e h = subst (λ d. Has d b s) e h

  size : (d : ℕ) (b : Option Matrix) (s : State) → Has d b s → length s ≡ d
  size d None s h = absurd h
  size d (Some m) s h = h.size

  -- where the numbers of variables differ, nothing is in the parts, and so nothing in the join
  least_within : (x other y z : Zone) → IsZoneOn vars z → Joined x other y → Within x z → Within other z → Within y z
  least_within x other y z sz h a b s hy = ⊎_elim same apart (same_or_apart x.vars z.vars)
    where
      in_join : Has x.vars y.bounds s
      in_join = at-same y.vars x.vars y.bounds s h.vars hy

      of_other : (t : State) → Has x.vars other.bounds t → HasState z t
      of_other t k = b t (at-same x.vars other.vars other.bounds t (sym h.other_vars) k)

      same : x.vars ≡ z.vars → HasState z s
      same e = at-same x.vars z.vars z.bounds s e (h.join.least z.bounds
          (λ t k. at-same z.vars x.vars z.bounds t (sym e) (a t k))
          (λ t k. at-same z.vars x.vars z.bounds t (sym e) (of_other t k)) s in_join)

      apart : x.vars ≢ z.vars → HasState z s
      apart n = absurd (h.join.least None
          (λ t k. n (sym (size x.vars x.bounds t k) ∙ size z.vars z.bounds t (a t k)))
          (λ t k. n (sym (size x.vars other.bounds t k) ∙ size z.vars z.bounds t (of_other t k))) s in_join)

  image_within : (op : Op) (x y a b : Zone) → IsZoneOn vars x → IsZoneOn vars y → Within x y → IsImageOf op x a
      → IsImageOf op y b → Within a b
  image_within op x y a b sx sy inside ha hb t h =
      let from = (ha.1.image.states t).0 (at-same a.vars x.vars a.bounds t ha.1.vars h) in
      at-same y.vars b.vars b.bounds t (sym hb.1.vars)
      ((hb.1.image.states t).1 (from.0, inside from.0 from.1, from.2))

  image_exists : (op : Op) (x : Zone) → FitsOp vars op → IsZoneOn vars x → (y : Zone) × IsImageOf op x y
  image_exists op x fits s =
      let on = subst (λ d. FitsOp d op) (sym s.1) fits in
      let r = applied-exists op x on (subst (λ d. IsNormalValue d x.bounds) (sym s.1) s.0) in
      (r.0, (on, r.1))

  image_of_nothing : (op : Op) → Applied op (bottom vars) (bottom vars)
  image_of_nothing op = record { vars = refl; value = tt; image = empty-image vars op; kept = refl }

  join_of_nothing : Joined (bottom vars) (bottom vars) (bottom vars)
  join_of_nothing = record {
    vars = refl;
    other_vars = refl;
    value = tt;
    join = record { left = λ s h. h; right = λ s h. h; least = λ w p q s h. absurd h };
    kept = refl;
  }

  zones_growth : GrowthLaws zones vars (IsZoneOn vars)
  zones_growth = record {
    self = λ x s h. h;
    trans = λ x y z a b s h. b s (a s h);
    nothing = nothing_within;
    left = λ x other y h s k. joined-left_states x other y s h k;
    right = λ x other y h s k. joined-right_states x other y s h k;
    least = least_within;
    grows = image_within;
    exists = image_exists;
    image_of_bottom = λ op y h. applied-one op (bottom vars) y (bottom vars) h.1 (image_of_nothing op);
    join_of_bottom = λ y h. joined-one (bottom vars) (bottom vars) y (bottom vars) h join_of_nothing;
  }

  pub zones_inclusion : InclusionLaws zones vars (IsZoneOn vars)
  zones_inclusion = record { sound = zones_sound; growth = zones_growth }
