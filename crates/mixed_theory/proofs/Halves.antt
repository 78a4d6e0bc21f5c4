-- The halves of an operation lead from a doubled state to the doubled state behind it.
use Rattle.std.proofs.Common.{◌≡◌, ◌<◌, ◌≤◌, ◌*◌, ℕ, zero, suc, neg_ℤ, Option, Some, None, MatchOption, length, sym, ap, ◌∙◌, refl, subst₂, arith}
use Rattle.std.specs.Prelude.{◌≤ℤ◌}
use Rattle.prog_theory.specs.States.{State, value, changed}
use Rattle.prog_theory.specs.Edges.{Op, Skips, Sets, Havocs, Guards}
use Rattle.prog_theory.specs.Fits.{FitsOp}
use Rattle.prog_theory.specs.Walks.{Leads}
use Rattle.mixed_theory.specs.Twins.{twin, opposite}
use Rattle.mixed_theory.specs.Halves.{second_half}
use Rattle.mixed_theory.proofs.Twins.{neg_falls, opposite_within, value-twin, value-opposite, value_kept, twin-changed}

more_than_zero : (d x : ℕ) → 0 < x → 0 < opposite d x
more_than_zero d zero h = h
more_than_zero d (suc i) h = omega arith

-- both halves name coordinates of the variables and their opposites
pub first_fits : (d n : ℕ) → 2 * d ≤ n → (op : Op) → FitsOp d op → FitsOp n op
first_fits d n h Skips f = tt
first_fits d n h (Sets x t) f = ((f.0.0, omega (arith, f.0.1)), omega (arith, f.1))
first_fits d n h (Havocs x) f = (f.0, omega (arith, f.1))
first_fits d n h (Guards l r) f = (omega (arith, f.0), omega (arith, f.1))

pub second_fits : (d n : ℕ) → 2 * d ≤ n → (op : Op) → FitsOp d op
    → MatchOption (second_half d op) (Unit {0}) (FitsOp n)
second_fits d n h Skips f = tt
second_fits d n h (Sets x t) f =
    ((more_than_zero d x f.0.0, opposite_within d x n h f.0.1), opposite_within d t.coord n h f.1)
second_fits d n h (Havocs x) f = (more_than_zero d x f.0, opposite_within d x n h f.1)
second_fits d n h (Guards l r) f = (opposite_within d r.coord n h f.1, opposite_within d l.coord n h f.0)

-- where this half leads
abbrev pub HalfLeads : Option Op → State → State → Type 0
HalfLeads None s t = t ≡ s
HalfLeads (Some op) s t = Leads op s t

pub halves_lead : (op : Op) (s t : State) → FitsOp (length s) op → Leads op s t
    → (m : State) × Leads op (twin s) m × HalfLeads (second_half (length s) op) m (twin t)
halves_lead Skips s t f h = (twin s, refl, ap twin h)
halves_lead (Sets x u) s t f h = let m = changed (twin s) x (value u (twin s)) in (
  m,
  refl,
  ap twin h ∙ twin-changed s x (value u s) f.0.0 f.0.1
      ∙ ap (λ v. changed (changed (twin s) x v) (opposite (length s) x) (neg_ℤ (value u s))) (sym (value-twin s u f.1))
      ∙ ap (changed m (opposite (length s) x))
      (sym (value_kept s x (value u (twin s)) u f.0.1 ∙ value-opposite s u f.1)),
)
halves_lead (Havocs x) s t f h = (
  changed (twin s) x h.0,
  (h.0, refl),
  (neg_ℤ h.0, ap twin h.1 ∙ twin-changed s x h.0 f.0 f.1),
)
halves_lead (Guards l r) s t f h = (
  twin s,
  (subst₂ (λ y z. y ≤ℤ z) (sym (value-twin s l f.0)) (sym (value-twin s r f.1)) h.0, refl),
  (
    subst₂ (λ y z. y ≤ℤ z) (sym (value-opposite s r f.1)) (sym (value-opposite s l f.0))
        (neg_falls (value l s) (value r s) h.0),
    ap twin h.1,
  ),
)
