-- The image of a zone by an operation is a zone, and two zones have a join.
use Rattle.std.proofs.Common.{◌≡◌, ◌≢◌, ⊎_elim, ◌≤◌, ◌<◌, ℕ, ℤ, pos, ◌+ℤ◌, ◌-ℤ◌, ◌<ℤ◌, Option, Some, None, refl, sym, subst, arith}
use Rattle.prog_theory.specs.States.{State, Term}
use Rattle.prog_theory.specs.Edges.{Op, Skips, Sets, Havocs, Guards}
use Rattle.zone_theory.specs.Bounds.{IsAtMost}
use Rattle.zone_theory.specs.Matrices.{Matrix, InZone, entry}
use Rattle.zone_theory.specs.Shortest.{IsShortest}
use Rattle.zone_theory.specs.Adding.{added, Admits}
use Rattle.zone_theory.specs.Forgetting.{forgotten}
use Rattle.zone_theory.specs.Assigning.{assigned}
use Rattle.zone_theory.specs.Joining.{joined}
use Rattle.prog_theory.specs.Fits.{FitsOp}
use Rattle.zone_theory.specs.Zones.{Has, IsValue, IsImage, IsJoin}
use Rattle.zone_theory.proofs.Closing.{closed-shortest, shortest-closed, closed-same_set, closed-unique}
use Rattle.zone_theory.proofs.Adding.{admits-decided, added-shortest}
use Rattle.zone_theory.proofs.Forgetting.{forgotten-shortest, forgotten-from, from-forgotten}
use Rattle.zone_theory.proofs.Assigning.{assigned-shortest, assigned-from, from-assigned}
use Rattle.zone_theory.proofs.Including.{guarded-from, from-guarded, none-guarded}
use Rattle.zone_theory.proofs.Joining.{joined-left, joined-right, joined-least, joined-shortest}

apart : {v : ℕ} → 0 < v → v ≢ 0
apart h e = omega (arith)

-- each operation has its matrix
pub skips-image : (d : ℕ) (x : Option Matrix) → IsImage d Skips x x
skips-image d x = record { states = λ t. (λ h. (t, h, refl), λ r. subst (λ y. Has d x y) (sym r.2) r.1) }

pub empty-image : (d : ℕ) (op : Op) → IsImage d op None None
empty-image d op = record { states = λ t. (λ h. absurd h, λ r. absurd r.1) }

pub sets-image : (d : ℕ) (m : Matrix) (v : ℕ) (r : Term) → IsShortest d m → FitsOp d (Sets v r)
    → IsImage d (Sets v r) (Some m) (Some (assigned m v r.coord r.add))
sets-image d m v r tight on =
    record {
      states =
          λ t. (
            λ z. from-assigned d m v (apart on.0.0) on.0.1 r on.1 tight t z,
            λ q. assigned-from d m v
                (apart on.0.0) on.0.1 r on.1 q.0 t q.1 q.2,
          );
    }

pub havocs-image : (d : ℕ) (m : Matrix) (v : ℕ) → IsShortest d m → FitsOp d (Havocs v)
    → IsImage d (Havocs v) (Some m) (Some (forgotten m v))
havocs-image d m v tight on =
    record {
      states =
          λ t. (λ z. from-forgotten d m v tight (apart on.0) on.1 t z, λ q. forgotten-from d m v q.0 t q.1 q.2);
    }

pub guards-image : (d : ℕ) (m : Matrix) (l r : Term) → IsShortest d m → FitsOp d (Guards l r)
    → Admits m l.coord r.coord (r.add -ℤ l.add) → IsImage d (Guards l r) (Some m)
    (Some (added m l.coord r.coord (r.add -ℤ l.add)))
guards-image d m l r tight on admits = record {
  states =
      λ t. (
        λ z. from-guarded d l r on.0 on.1 m tight admits t z,
        λ q. guarded-from d l r on.0 on.1 m tight admits q.0 t
            q.1 q.2,
      );
}

pub guards-none : (d : ℕ) (m : Matrix) (l r : Term) → FitsOp d (Guards l r) → (a : ℤ)
    → IsAtMost (entry m r.coord l.coord) a → ((r.add -ℤ l.add) +ℤ a) <ℤ pos 0 → IsImage d (Guards l r) (Some m) None
guards-none d m l r on a h k =
    record { states = λ t. (λ z. absurd z, λ q. none-guarded d l r on.0 on.1 m a h k q.0 t q.1 q.2) }

-- a zone has an image by each operation, which is a value again
pub image-exists : (d : ℕ) (op : Op) (x : Option Matrix) → FitsOp d op → IsValue d x
    → (y : Option Matrix) × IsValue d y × IsImage d op x y
image-exists d op None on h = (None, tt, empty-image d op)
image-exists d Skips (Some m) on h = (Some m, h, skips-image d (Some m))
image-exists d (Sets v r) (Some m) on h = let tight = closed-shortest d (InZone d m) m h in (
  Some (assigned m v r.coord r.add),
  shortest-closed d (assigned m v r.coord r.add)
      (assigned-shortest m v r.coord r.add d on.1 tight),
  sets-image d m v r tight on,
)
image-exists d (Havocs v) (Some m) on h = let tight = closed-shortest d (InZone d m) m h in (
  Some (forgotten m v),
  shortest-closed d (forgotten m v)
      (forgotten-shortest d m v tight),
  havocs-image d m v tight on,
)
image-exists d (Guards l r) (Some m) on h = ⊎_elim
    (λ admits. (
      Some (added m l.coord r.coord (r.add -ℤ l.add)),
      shortest-closed d
          (added m l.coord r.coord (r.add -ℤ l.add)) (added-shortest d m tight l.coord r.coord on.0 on.1
          (r.add -ℤ l.add) admits),
      guards-image d m l r tight on admits,
    ))
    (λ q. (None, tt, guards-none d m l r on q.0 q.1 q.2))
    (admits-decided m l.coord r.coord (r.add -ℤ l.add))
  where
    tight : IsShortest d m
    tight = closed-shortest d (InZone d m) m h

-- two values have a join, which is a value
pub join-exists : (d : ℕ) (x y : Option Matrix) → IsValue d x → IsValue d y
    → (z : Option Matrix) × IsValue d z × IsJoin d x y z
join-exists d None y h k = (y, k, record { left = λ s z. absurd z; right = λ s z. z; least = λ w p q s z. q s z })
join-exists d (Some m) None h k =
    (Some m, h, record { left = λ s z. z; right = λ s z. absurd z; least = λ w p q s z. p s z })
join-exists d (Some m) (Some u) h k = (
  Some (joined m u),
  shortest-closed d (joined m u) (joined-shortest d m u (closed-shortest d (InZone d m) m h)
      (closed-shortest d (InZone d u) u k)),
  record { left = joined-left d m u; right = joined-right d m u; least = least },
)
  where
    least : (w : Option Matrix) → ((s : State) → InZone d m s → Has d w s) → ((s : State) → InZone d u s → Has d w s)
        → (s : State) → InZone d (joined m u) s → Has d w s
    least None p q s z = p h.some.0 h.some.1
    least (Some w) p q s z = joined-least d (InZone d m) (InZone d u) m u w h k p q s z

-- two matrices that are closed and have the same zone have the same bounds
pub values-same : (d : ℕ) (m u : Matrix) → IsValue d (Some m) → IsValue d (Some u)
    → ((s : State) → InZone d m s → InZone d u s) → ((s : State) → InZone d u s → InZone d m s) → (i j : ℕ) → i ≤ d
    → j ≤ d → i ≢ j → m i j ≡ u i j
values-same d m u h k p q = closed-unique d (InZone d u) m u (closed-same_set d (InZone d m) (InZone d u) m p q h) k
