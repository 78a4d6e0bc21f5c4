-- Zones in lists keep the laws of a domain.
use Rattle.std.proofs.Common.{◌≡◌, ℕ, Some, None, refl, sym, ap, subst}
use Rattle.dom_theory.specs.Laws.{DomainLaws}
use Rattle.zone_theory.specs.Matrices.{Matrix}
use Rattle.zone_theory.specs.Domain.{Zone, HasState, top}
use Rattle.zone_theory.proofs.Laws.{zones_laws}
use Rattle.zone_tables.proofs.Lists.{free-matrix}
use Rattle.zone_lists.specs.Zones.{zone_of, zone_call, whole, zone_lists}
use Rattle.zone_lists.proofs.Listed.{values-same}

pub whole-zone : (n : ℕ) → zone_of (whole n) ≡ top n
whole-zone n = ap (λ (m : Matrix). with m) (free-matrix n)
  where
    with : Matrix → Zone
    with m = record { vars = n; bounds = Some m; kept = None }

pub zone_lists_laws : DomainLaws zone_lists 63
zone_lists_laws = record {
  vars = record {
    bottom = λ n. refl;
    top = λ n. refl;
    applied = λ op x y h. zones_laws.vars.applied op (zone_of x) (zone_of y) h.0;
    joined = λ x other y h e. zones_laws.vars.joined (zone_of x) (zone_of other) (zone_of y) h.0 e;
    widened = λ x next y h e. zones_laws.vars.widened (zone_of x) (zone_of next) (zone_of y) h.0 e;
  };
  one = record {
    applied = λ op x y z p q. values-same y z p.1 q.1
        (zones_laws.one.applied op (zone_of x) (zone_of y) (zone_of z) p.0 q.0);
    joined = λ x other y z p q. values-same y z p.1 q.1
        (zones_laws.one.joined (zone_of x) (zone_of other) (zone_of y) (zone_of z) p.0 q.0);
    widened = λ x next y z p q. values-same y z p.1 q.1
        (zones_laws.one.widened (zone_of x) (zone_of next) (zone_of y) (zone_of z) p.0 q.0);
    cause = λ call c d a b h k. zones_laws.one.cause (zone_call call) c d a b h k;
    part = λ call c d a b h k. zones_laws.one.part (zone_call call) c d a b h k;
  };
  parts = record {
    applied = λ op x c a h. zones_laws.parts.applied op (zone_of x) c a h;
    joined = λ x other c a h. zones_laws.parts.joined (zone_of x) (zone_of other) c a h;
    widened = λ x next c h. zones_laws.parts.widened (zone_of x) (zone_of next) c h;
  };
  states = record {
    none = λ n s h. h;
    all = λ n s wide. subst (λ z. HasState z s) (sym (whole-zone n)) (zones_laws.states.all n s wide);
    within = λ x y s w h. w s h;
    applied = λ op x y s t h g leads. zones_laws.states.applied op (zone_of x) (zone_of y) s t h.0 g leads;
    left = λ x other y s h g. zones_laws.states.left (zone_of x) (zone_of other) (zone_of y) s h.0 g;
    right = λ x other y s h g. zones_laws.states.right (zone_of x) (zone_of other) (zone_of y) s h.0 g;
  };
  widths = record {
    bounded = λ x. zones_laws.widths.bounded (zone_of x);
    small = λ n l. zones_laws.widths.small n l;
    falls = λ x next y h. zones_laws.widths.falls (zone_of x) (zone_of next) (zone_of y) h.0;
    joined = λ x other y h leaves none. zones_laws.widths.joined (zone_of x) (zone_of other) (zone_of y) h.0 leaves
        (ap zone_of none);
    widened = λ x next y h none. zones_laws.widths.widened (zone_of x) (zone_of next) (zone_of y) h.0 (ap zone_of none);
  };
}
