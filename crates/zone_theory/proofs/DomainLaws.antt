-- What every domain keeps, for zones.
use Rattle.std.proofs.Common.{suc, arith, ◌^◌, ◌*◌, ◌≡◌, ◌≤◌, ◌<◌, ℕ, length, Option, Some, None, sym, ap, subst, ◌∙◌}
use Rattle.std.proofs.Math.Nat.{mul-le-mul_left}
use Rattle.prog_theory.specs.States.{State}
use Rattle.prog_theory.specs.Edges.{Op}
use Rattle.prog_theory.specs.Walks.{Leads}
use Rattle.zone_theory.specs.Matrices.{Matrix, InZone}
use Rattle.zone_theory.specs.Closed.{IsClosed}
use Rattle.zone_theory.specs.Zones.{Has}
use Rattle.zone_theory.specs.Widening.{basis, IsWidened}
use Rattle.zone_theory.specs.Width.{width}
use Rattle.zone_theory.specs.Domain.{Zone, HasState, bottom, top, Within, Applied, Joined, Widened, zone_width, max_width}
use Rattle.zone_theory.proofs.Closing.{closed-unique, closed-has}
use Rattle.zone_theory.proofs.Limits.{free-all}
use Rattle.zone_theory.proofs.Normal.{normal-same, normal-values}
use Rattle.zone_theory.proofs.Widening.{kept-unique, width-bound, widened-falls}

abbrev zone : ℕ → Option Matrix → Option Matrix → Zone
zone v b k = record { vars = v; bounds = b; kept = k }

zone-same : (x y : Zone) → x.vars ≡ y.vars → x.bounds ≡ y.bounds → x.kept ≡ y.kept → x ≡ y
zone-same x y p q r = ap (λ v. zone v x.bounds x.kept) p ∙ ap (λ b. zone y.vars b x.kept) q
    ∙ ap (λ k. zone y.vars y.bounds k) r

some-same : (m u : Matrix) → ◌≡◌ {A = Option Matrix} (Some m) (Some u) → m ≡ u
some-same m u e = cc

Has-size : (d : ℕ) (x : Option Matrix) (s : State) → Has d x s → length s ≡ d
Has-size d None s h = absurd h
Has-size d (Some m) s h = h.size

-- a call gives one value
pub applied-one : (op : Op) (x y z : Zone) → Applied op x y → Applied op x z → y ≡ z
applied-one op x y z p q = zone-same y z (p.vars ∙ sym q.vars)
    (normal-values x.vars y.bounds z.bounds p.value q.value (λ s h. (q.image.states s).1 ((p.image.states s).0 h))
    (λ s h. (p.image.states s).1 ((q.image.states s).0 h))) (p.kept ∙ sym q.kept)

pub joined-one : (x other y z : Zone) → Joined x other y → Joined x other z → y ≡ z
joined-one x other y z p q = zone-same y z (p.vars ∙ sym q.vars)
    (normal-values x.vars y.bounds z.bounds p.value q.value (p.join.least z.bounds q.join.left q.join.right)
    (q.join.least y.bounds p.join.left p.join.right)) (p.kept ∙ sym q.kept)

pub widened-one : (x next y z : Zone) → Widened x next y → Widened x next z → y ≡ z
widened-one x next y z p q = zone-same y z (p.vars ∙ sym q.vars) (p.bounds_is ∙ ap Some bounds ∙ sym q.bounds_is)
    (p.keeps_is ∙ ap Some keeps ∙ sym q.keeps_is)
  where
    d : ℕ
    d = x.vars

    old : q.old ≡ p.old
    old = some-same q.old p.old (sym q.old_is ∙ p.old_is)

    w : IsWidened d p.old x.kept (Has d next.bounds) q.bounds q.keeps
    w = subst (λ m. IsWidened d m x.kept (Has d next.bounds) q.bounds q.keeps) old q.widened

    keeps : p.keeps ≡ q.keeps
    keeps = normal-same d p.keeps q.keeps p.normal_keeps q.normal_keeps
        (kept-unique d (Has d next.bounds) (basis p.old x.kept) p.keeps q.keeps p.widened.stays w.stays)

    bounds : p.bounds ≡ q.bounds
    bounds = normal-same d p.bounds q.bounds p.normal_bounds q.normal_bounds
        (closed-unique d (InZone d q.keeps) p.bounds q.bounds
        (subst (λ k. IsClosed d (InZone d k) p.bounds) keeps p.widened.closed) w.closed)

-- images, joins and inclusion have the states that they must have
pub bottom-none : (n : ℕ) (s : State) → HasState (bottom n) s → ⊥
bottom-none n s h = h

pub top-all : (n : ℕ) (s : State) → length s ≡ n → HasState (top n) s
top-all n s e = free-all n s e

pub applied-states : (op : Op) (x y : Zone) (s t : State) → Applied op x y → HasState x s → Leads op s t → HasState y t
applied-states op x y s t p h l = subst (λ d. Has d y.bounds t) (sym p.vars) ((p.image.states t).1 (s, h, l))

pub joined-left_states : (x other y : Zone) (s : State) → Joined x other y → HasState x s → HasState y s
joined-left_states x other y s p h = subst (λ d. Has d y.bounds s) (sym p.vars) (p.join.left s h)

pub joined-right_states : (x other y : Zone) (s : State) → Joined x other y → HasState other s → HasState y s
joined-right_states x other y s p h = subst (λ d. Has d y.bounds s) (sym p.vars)
    (p.join.right s (subst (λ d. Has d other.bounds s) p.other_vars h))

-- the width is bounded, and falls with each widening
pub zone_width-bound : (x : Zone) → zone_width x ≤ max_width x.vars
zone_width-bound x = width-bound x.vars x.kept

pub zone_width-falls : (x next y : Zone) → Widened x next y → zone_width y < zone_width x
zone_width-falls x next y w = subst (λ d. width d y.kept < width x.vars x.kept) (sym w.vars)
    (subst (λ k. width x.vars k < width x.vars x.kept) (sym w.keeps_is)
    (widened-falls x.vars w.old x.kept (Has x.vars next.bounds) w.bounds w.keeps w.widened
    (Has-size x.vars next.bounds)
    (λ h. w.leaves (λ s z. closed-has x.vars (InZone x.vars (basis w.old x.kept)) w.old w.sound s
    (Has-size x.vars next.bounds s z) (h s z)))))

-- a join with a zone that isn't within, and a widened zone, aren't empty
pub joined-some : (x other y : Zone) → Joined x other y → (Within other x → ⊥) → y ≡ bottom y.vars → ⊥
joined-some x other y p out e = out (λ s h. absurd (subst (λ z. HasState z s) e (joined-right_states x other y s p h)))

pub widened-some : (x next y : Zone) → Widened x next y → y ≡ bottom y.vars → ⊥
widened-some x next y w e = some_none w.bounds (sym w.bounds_is ∙ ap (λ z. z.bounds) e)
  where
    some_none : (m : Matrix) → ◌≡◌ {A = Option Matrix} (Some m) None → ⊥
    some_none m e = cc

-- with at most 63 variables the greatest width is small
pub max_width-small : (n : ℕ) → n ≤ 63 → max_width n ≤ 2 ^ 32
max_width-small n h = let p : suc n * n ≤ suc n * 63 = mul-le-mul_left (suc n) h in omega arith
