-- Each call on zones has an answer, and a widened zone has the states of both.
use Rattle.std.proofs.Common.{◌≡◌, inl, inr, ⊎_elim, ℕ, length, Option, Some, None, refl, sym, subst, ◌∙◌}
use Rattle.prog_theory.specs.States.{State}
use Rattle.prog_theory.specs.Edges.{Op}
use Rattle.prog_theory.specs.Fits.{FitsOp}
use Rattle.zone_theory.specs.Matrices.{Matrix, InZone}
use Rattle.zone_theory.specs.Closed.{IsClosed}
use Rattle.zone_theory.specs.Zones.{Has, IsValue, IsImage, IsJoin}
use Rattle.zone_theory.specs.Widening.{basis, IsWidened}
use Rattle.zone_theory.specs.Domain.{Zone, HasState, IsNormalValue, Applied, Joined, Widened}
use Rattle.zone_theory.proofs.Closing.{closed-same_set, closed-has}
use Rattle.zone_theory.proofs.Including.{closed-within}
use Rattle.zone_theory.proofs.Images.{image-exists, join-exists}
use Rattle.zone_theory.proofs.Normal.{trimmed, trimmed-pair, trimmed-normal, InZone-same, closed-same}
use Rattle.zone_theory.proofs.Widening.{kept-old, kept-set, widened-exists}

-- a normal value with the states of a value
record Normalised (d : ℕ) (x y : Option Matrix) : Type 0 where
  value : IsNormalValue d y
  from : (s : State) → Has d x s → Has d y s
  to : (s : State) → Has d y s → Has d x s

trimmed-zone : (d : ℕ) (m : Matrix) (s : State) → InZone d m s → InZone d (trimmed d m) s
trimmed-zone d m s z = InZone-same d m (trimmed d m) (λ i j hi hj n. sym (trimmed-pair d m i j hi hj n)) s z

zone-trimmed : (d : ℕ) (m : Matrix) (s : State) → InZone d (trimmed d m) s → InZone d m s
zone-trimmed d m s z = InZone-same d (trimmed d m) m (λ i j hi hj n. trimmed-pair d m i j hi hj n) s z

trimmed-closed : (d : ℕ) (S : State → Type 0) (m : Matrix) → IsClosed d S m → IsClosed d S (trimmed d m)
trimmed-closed d S m c = closed-same d S m (trimmed d m) (λ i j hi hj n. sym (trimmed-pair d m i j hi hj n)) c

normalised : (d : ℕ) (x : Option Matrix) → IsValue d x → (y : Option Matrix) × Normalised d x y
normalised d None v = (None, record { value = tt; from = λ s h. h; to = λ s h. h })
normalised d (Some m) v = (
  Some (trimmed d m),
  record {
    value = (
      closed-same_set d (InZone d m) (InZone d (trimmed d m)) (trimmed d m) (trimmed-zone d m)
          (zone-trimmed d m) (trimmed-closed d (InZone d m) m v),
      trimmed-normal d m,
    );
    from = trimmed-zone d m;
    to = zone-trimmed d m;
  },
)

Normal-value : (d : ℕ) (x : Option Matrix) → IsNormalValue d x → IsValue d x
Normal-value d None v = tt
Normal-value d (Some m) v = v.0

pub applied-exists : (op : Op) (x : Zone) → FitsOp x.vars op → IsNormalValue x.vars x.bounds
    → (y : Zone) × Applied op x y
applied-exists op x on v = go (image-exists x.vars op x.bounds on (Normal-value x.vars x.bounds v))
  where
    go : (y : Option Matrix) × IsValue x.vars y × IsImage x.vars op x.bounds y → (y : Zone) × Applied op x y
    go r = let n = normalised x.vars r.0 r.1 in (
      record { vars = x.vars; bounds = n.0; kept = None },
      record {
        vars = refl;
        value = n.1.value;
        image = record { states = λ t. (λ h. (r.2.states t).0 (n.1.to t h), λ q. n.1.from t ((r.2.states t).1 q)) };
        kept = refl;
      },
    )

pub joined-exists : (x other : Zone) → other.vars ≡ x.vars → IsNormalValue x.vars x.bounds
    → IsNormalValue x.vars other.bounds → (y : Zone) × Joined x other y
joined-exists x other e v w =
    go (join-exists x.vars x.bounds other.bounds (Normal-value x.vars x.bounds v) (Normal-value x.vars other.bounds w))
  where
    go : (y : Option Matrix) × IsValue x.vars y × IsJoin x.vars x.bounds other.bounds y → (y : Zone) × Joined x other y
    go r = let n = normalised x.vars r.0 r.1 in (
      record { vars = x.vars; bounds = n.0; kept = None },
      record {
        vars = refl;
        other_vars = e;
        value = n.1.value;
        join = record {
          left = λ s h. n.1.from s (r.2.left s h);
          right = λ s h. n.1.from s (r.2.right s h);
          least =
              λ u p q s h. r.2.least u p q s (n.1.to s h);
        };
        kept = refl;
      },
    )

-- a zone that isn't empty can be widened by one that isn't within
pub widened-answers : (x next : Zone) (m n : Matrix) → next.vars ≡ x.vars → x.bounds ≡ Some m → next.bounds ≡ Some n
    → IsClosed x.vars (InZone x.vars n) n → IsClosed x.vars (InZone x.vars (basis m x.kept)) m
    → (((s : State) → Has x.vars next.bounds s → InZone x.vars m s) → ⊥) → (y : Zone) × Widened x next y
widened-answers x next m n e xm nn c sound out = go (widened-exists d m x.kept (InZone d n) n c (λ s z. z.size))
  where
    d : ℕ
    d = x.vars

    go : (u : Matrix) × (k : Matrix) × IsWidened d m x.kept (InZone d n) u k → (y : Zone) × Widened x next y
    go r = (
      record { vars = d; bounds = Some (trimmed d r.0); kept = Some (trimmed d r.1) },
      record {
        old = m;
        bounds = trimmed d r.0;
        keeps = trimmed d r.1;
        vars = refl;
        next_vars = e;
        old_is = xm;
        bounds_is = refl;
        keeps_is = refl;
        widened = subst (λ b. IsWidened d m x.kept (Has d b) (trimmed d r.0) (trimmed d r.1)) (sym nn) (record {
          stays = record {
            stays = λ i j hi hj ne. ⊎_elim (λ p. inl (p.0, trimmed-pair d r.1 i j hi hj ne ∙ p.1))
                (λ p. inr (p.0, trimmed-pair d r.1 i j hi hj ne ∙ p.1)) (r.2.stays.stays i j hi hj ne);
          };
          closed = closed-same_set d (InZone d r.1) (InZone d (trimmed d r.1)) (trimmed d r.0) (trimmed-zone d r.1)
              (zone-trimmed d r.1) (trimmed-closed d (InZone d r.1) r.0 r.2.closed);
        });
        sound = sound;
        leaves = out;
        normal_bounds = trimmed-normal d r.0;
        normal_keeps = trimmed-normal d r.1;
      },
    )

-- the states of a widened zone are exactly those that keep the kept bounds
pub widened-kept : (x next y : Zone) (w : Widened x next y) (s : State) → InZone x.vars w.keeps s → HasState y s
widened-kept x next y w s z = subst (λ d. Has d y.bounds s) (sym w.vars)
    (subst (λ b. Has x.vars b s) (sym w.bounds_is) (closed-has x.vars
    (InZone x.vars w.keeps) w.bounds w.widened.closed s z.size z))

-- it has the states of the second zone
pub widened-right_states : (x next y : Zone) (s : State) → Widened x next y → HasState next s → HasState y s
widened-right_states x next y s w h = widened-kept x next y w s
    (kept-set x.vars (Has x.vars next.bounds) (basis w.old x.kept) w.keeps w.widened.stays (size next.bounds) s
    (subst (λ d. Has d next.bounds s) w.next_vars h))
  where
    size : (b : Option Matrix) (s : State) → Has x.vars b s → length s ≡ x.vars
    size None s h = absurd h
    size (Some m) s h = h.size

-- and those of the first
pub widened-left_states : (x next y : Zone) (s : State) → Widened x next y → HasState x s → HasState y s
widened-left_states x next y s w h = widened-kept x next y w s
    (kept-old x.vars (Has x.vars next.bounds) (basis w.old x.kept) w.keeps w.widened.stays s
    (closed-within x.vars w.old (basis w.old x.kept) w.sound s (subst (λ b. Has x.vars b s) w.old_is h)))

-- a widened zone can be widened again: its states are those of its kept bounds
pub widened-sound : (x next y : Zone) (w : Widened x next y) → IsClosed y.vars (InZone y.vars w.keeps) w.bounds
widened-sound x next y w = subst (λ d. IsClosed d (InZone d w.keeps) w.bounds) (sym w.vars) w.widened.closed
