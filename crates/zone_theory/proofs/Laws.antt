-- Zones keep the laws of a domain.
use Rattle.std.proofs.Common.{◌≡◌, ℕ, Option, Some, refl, sym, ap, ◌∙◌}
use Rattle.dom_theory.specs.Refusals.{At, Whole, Kept}
use Rattle.dom_theory.specs.Relations.{Call, Apply, Join, Widen, Cause, OutOfRange}
use Rattle.dom_theory.specs.Laws.{DomainLaws, VarsLaws, OneAnswer, StateLaws, PartLaws, WidthLaws}
use Rattle.zone_theory.specs.Matrices.{Matrix}
use Rattle.zone_theory.specs.Width.{numbers}
use Rattle.zone_theory.specs.Domain.{Zone, Widened}
use Rattle.zone_theory.specs.Relations.{IsRefused, zones}
use Rattle.zone_theory.proofs.DomainLaws.{applied-one, joined-one, widened-one, bottom-none, top-all, applied-states, joined-left_states, joined-right_states, zone_width-bound, zone_width-falls, joined-some, widened-some, max_width-small}

zones_vars : VarsLaws zones
zones_vars = record {
  bottom = λ n. refl;
  top = λ n. refl;
  applied = λ op x y h. h.1.vars;
  joined = λ x other y h e. h.vars;
  widened = λ x next y h e. h.vars;
}

cause_is : (call : Call Zone) (c : Cause) (p : At) → IsRefused call c p → c ≡ OutOfRange
cause_is (Apply op x) c p h = h.0
cause_is (Join x other) c p h = h.0
cause_is (Widen x next) c p h = h.0

keeps-same : (x next y z : Zone) (v : Widened x next y) (w : Widened x next z) → v.keeps ≡ w.keeps
keeps-same x next y z v w = some_same v.keeps w.keeps
    (sym v.keeps_is ∙ ap (λ q. q.kept) (widened-one x next y z v w) ∙ w.keeps_is)
  where
    some_same : (m u : Matrix) → ◌≡◌ {A = Option Matrix} (Some m) (Some u) → m ≡ u
    some_same m u e = cc

part_is : (call : Call Zone) (c e : Cause) (p q : At) → IsRefused call c p → IsRefused call e q → p ≡ q
part_is (Apply op x) c e p q h k = h.1 ∙ sym k.1
part_is (Join x other) c e p q h k = h.1 ∙ sym k.1
part_is (Widen x next) c e p q h k =
    h.3 ∙ ap (λ m. Kept (numbers x.vars m)) (keeps-same x next h.1 k.1 h.2 k.2) ∙ sym k.3

zones_one : OneAnswer zones
zones_one = record {
  applied = λ op x y z h k. applied-one op x y z h.1 k.1;
  joined = joined-one;
  widened = widened-one;
  cause = λ call c e a b h k. cause_is call c a h ∙ sym (cause_is call e b k);
  part = part_is;
}

zones_states : StateLaws zones
zones_states = record {
  none = bottom-none;
  all = top-all;
  within = λ x y s h z. h s z;
  applied = λ op x y s t h z l. applied-states op x y s t h.1 z l;
  left = joined-left_states;
  right = joined-right_states;
}

kept_is_no_whole : (k : ℕ) → ◌≡◌ {A = At} Whole (Kept k) → ⊥
kept_is_no_whole k e = cc

zones_parts : PartLaws zones
zones_parts = record {
  applied = λ op x c p h. h.1;
  joined = λ x other c p h. h.1;
  widened = λ x next c h. kept_is_no_whole (numbers x.vars h.2.keeps) h.3;
}

-- on at most 63 variables
zones_widths : WidthLaws zones 63
zones_widths = record {
  bounded = zone_width-bound;
  small = max_width-small;
  falls = zone_width-falls;
  joined = joined-some;
  widened = widened-some;
}

pub zones_laws : DomainLaws zones 63
zones_laws = record {
  vars = zones_vars;
  one = zones_one;
  parts = zones_parts;
  states = zones_states;
  widths = zones_widths;
}
