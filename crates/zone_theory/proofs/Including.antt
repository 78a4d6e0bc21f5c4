-- What holds at each state of a zone is read off its closed matrix.
use Rattle.std.proofs.Common.{◌≡◌, ◌≢◌, ◌≤◌, ℕ, ℤ, pos, ◌+ℤ◌, ◌-ℤ◌, ◌≤ℤ◌, ◌<ℤ◌, length, refl, sym, subst, arith}
use Rattle.std.proofs.lemmas.Int.{ints}
use Rattle.prog_theory.specs.States.{State, Term, coordinate, value}
use Rattle.prog_theory.specs.Edges.{Guards}
use Rattle.prog_theory.specs.Walks.{Leads}
use Rattle.zone_theory.specs.Bounds.{IsAtMost}
use Rattle.zone_theory.specs.Matrices.{Matrix, InZone, entry, difference}
use Rattle.zone_theory.specs.Shortest.{IsShortest}
use Rattle.zone_theory.specs.Closed.{IsClosed}
use Rattle.zone_theory.specs.Adding.{added, Admits}
use Rattle.zone_theory.proofs.Bounds.{Keeps-at_most, Keeps-from}
use Rattle.zone_theory.proofs.Closing.{IsGreatest-least, IsGreatest-bounds, closed-holds, closed-least}
use Rattle.zone_theory.proofs.Adding.{added-zone, zone-added, none-added}

-- a set lies in a zone exactly where the numbers of its closed matrix are at most those of the zone
pub included : (d : ℕ) (S : State → Type 0) (m w : Matrix) → IsClosed d S m → ((s : State) → S s → InZone d w s)
    → (i j : ℕ) → i ≤ d → j ≤ d → i ≢ j → (a : ℤ) → IsAtMost (w i j) a → IsAtMost (m i j) a
included d S m w c h i j hi hj n a q = IsGreatest-least S i j (m i j) a (c.greatest i j hi hj n)
    (λ s hs. Keeps-at_most (w i j) (difference s i j) a ((h s hs).bounds i j hi hj n) q)

pub included-from : (d : ℕ) (S : State → Type 0) (m w : Matrix) → IsClosed d S m → ((s : State) → S s → length s ≡ d)
    → ((i j : ℕ) → i ≤ d → j ≤ d → i ≢ j → (a : ℤ) → IsAtMost (w i j) a → IsAtMost (m i j) a) → (s : State) → S s
    → InZone d w s
included-from d S m w c size h s hs = record {
  size = size s hs;
  bounds = λ i j hi hj n. Keeps-from (w i j) (difference s i j)
      (λ a q. IsGreatest-bounds S i j (m i j) a (c.greatest i j hi hj n) (h i j hi hj n a q) s hs);
}

-- the zone of the closed matrix of a zone is that zone
pub closed-within : (d : ℕ) (m w : Matrix) → IsClosed d (InZone d w) m → (s : State) → InZone d m s → InZone d w s
closed-within d m w c s z = record {
  size = z.size;
  bounds = λ i j hi hj n. Keeps-from (w i j) (difference s i j)
      (λ a q. Keeps-at_most (m i j) (difference s i j) a (z.bounds i j hi hj n)
      (included d (InZone d w) m w c (λ s z. z) i j hi hj n a q));
}

to_minus : (x y a b : ℤ) → (x +ℤ a) ≤ℤ (y +ℤ b) → (x -ℤ y) ≤ℤ (b -ℤ a)
to_minus x y a b h = omega (arith, ints)

from_minus : (x y a b : ℤ) → (x -ℤ y) ≤ℤ (b -ℤ a) → (x +ℤ a) ≤ℤ (y +ℤ b)
from_minus x y a b h = omega (arith, ints)

module _ (d : ℕ) (l r : Term) (hl : l.coord ≤ d) (hr : r.coord ≤ d) where
  -- the term l is at most r at each state of a set exactly where the closed matrix has a number that says so
  pub pair-holds : (S : State → Type 0) (m : Matrix) → IsClosed d S m → ((s : State) → S s → value l s ≤ℤ value r s)
      → IsAtMost (entry m l.coord r.coord) (r.add -ℤ l.add)
  pair-holds S m c h = closed-least d S m c l.coord r.coord hl hr (r.add -ℤ l.add)
      (λ s hs. to_minus (coordinate s l.coord) (coordinate s r.coord) l.add r.add (h s hs))

  pub holds-pair : (S : State → Type 0) (m : Matrix) → IsClosed d S m
      → IsAtMost (entry m l.coord r.coord) (r.add -ℤ l.add) → (s : State) → S s → value l s ≤ℤ value r s
  holds-pair S m c h s hs = from_minus (coordinate s l.coord) (coordinate s r.coord) l.add r.add
      (closed-holds d S m c l.coord r.coord hl hr s hs (r.add -ℤ l.add) h)

  -- a guard is one bound
  pub guarded-from : (m : Matrix) → IsShortest d m → Admits m l.coord r.coord (r.add -ℤ l.add) → (s t : State)
      → InZone d m s → Leads (Guards l r) s t → InZone d (added m l.coord r.coord (r.add -ℤ l.add)) t
  guarded-from m tight admits s t z h = subst (λ x. InZone d (added m l.coord r.coord (r.add -ℤ l.add)) x) (sym h.1)
      (zone-added d m tight l.coord r.coord hl hr (r.add -ℤ l.add) admits s z
      (to_minus (coordinate s l.coord) (coordinate s r.coord) l.add r.add h.0))

  pub from-guarded : (m : Matrix) → IsShortest d m → Admits m l.coord r.coord (r.add -ℤ l.add) → (t : State)
      → InZone d (added m l.coord r.coord (r.add -ℤ l.add)) t → (s : State) × InZone d m s × Leads (Guards l r) s t
  from-guarded m tight admits t z = let q = added-zone d m tight l.coord r.coord hl hr (r.add -ℤ l.add) admits t z in
      (t, q.0, (from_minus (coordinate t l.coord) (coordinate t r.coord) l.add r.add q.1, refl))

  -- where the bound isn't admitted, the guard leads nowhere
  pub none-guarded : (m : Matrix) (a : ℤ) → IsAtMost (entry m r.coord l.coord) a → ((r.add -ℤ l.add) +ℤ a) <ℤ pos 0
      → (s t : State) → InZone d m s → Leads (Guards l r) s t → ⊥
  none-guarded m a h k s t z e = none-added d m l.coord r.coord hl hr (r.add -ℤ l.add) a h k s z
      (to_minus (coordinate s l.coord) (coordinate s r.coord) l.add r.add e.0)
