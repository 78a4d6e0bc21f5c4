-- Normal closed matrices with the same zone are equal, and each matrix has a normal one with its zone.
use mathlib.Core.Path.{fun_ext}
use Rattle.std.proofs.Common.{◌≡◌, ◌≢◌, ◌⊎◌, inl, inr, ⊎_elim, ◌≤◌, ◌<◌, ℕ, Option, Some, None, refl, sym, ap, subst, ◌∙◌, arith}
use Rattle.std.proofs.lemmas.Bool.{cases_lt}
use Rattle.prog_theory.specs.States.{State}
use Rattle.zone_theory.specs.Bounds.{Keeps}
use Rattle.zone_theory.specs.Matrices.{Matrix, InZone, difference}
use Rattle.zone_theory.specs.Closed.{IsGreatest, IsClosed}
use Rattle.zone_theory.specs.Zones.{Has}
use Rattle.zone_theory.specs.Domain.{IsNormal, IsNormalValue}
use Rattle.zone_theory.proofs.Entries.{same_or_apart}
use Rattle.zone_theory.proofs.Closing.{closed-unique, closed-same_set}

-- a pair of different coordinates
pub record IsPair (d i j : ℕ) : Type 0 where
  pub row : i ≤ d
  pub column : j ≤ d
  pub apart : i ≢ j

pub pair-decided : (d i j : ℕ) → IsPair d i j ⊎ (i ≤ d → j ≤ d → i ≢ j → ⊥)
pair-decided d i j = ⊎_elim
    (λ l. inr (λ hi hj n. absurd (over d i l hi)))
    (λ hi. ⊎_elim
    (λ l. inr (λ h hj n. absurd (over d j l hj)))
    (λ hj. ⊎_elim (λ e. inr (λ h k n. n e)) (λ n. inl (record { row = hi; column = hj; apart = n }))
    (same_or_apart i j))
    (cases_lt d j))
    (cases_lt d i)
  where
    over : (d i : ℕ) → d < i → i ≤ d → ⊥
    over d i l h = omega arith

pub normal-same : (d : ℕ) (m u : Matrix) → IsNormal d m → IsNormal d u
    → ((i j : ℕ) → i ≤ d → j ≤ d → i ≢ j → m i j ≡ u i j) → m ≡ u
normal-same d m u p q h =
    fun_ext (λ i. fun_ext (λ j. ⊎_elim (λ r. h i j r.row r.column r.apart)
    (λ out. p.none i j out ∙ sym (q.none i j out)) (pair-decided d i j)))

-- the matrix without what stands elsewhere
pub trimmed : ℕ → Matrix → Matrix
trimmed d m i j = ⊎_elim (λ r. m i j) (λ out. None) (pair-decided d i j)

pub trimmed-pair : (d : ℕ) (m : Matrix) (i j : ℕ) → i ≤ d → j ≤ d → i ≢ j → trimmed d m i j ≡ m i j
unfolding trimmed
trimmed-pair d m i j hi hj n = go (pair-decided d i j)
  where
    go : (r : IsPair d i j ⊎ (i ≤ d → j ≤ d → i ≢ j → ⊥)) → ⊎_elim (λ r. m i j) (λ out. None) r ≡ m i j
    go (inl r) = refl
    go (inr out) = absurd (out hi hj n)

pub trimmed-normal : (d : ℕ) (m : Matrix) → IsNormal d (trimmed d m)
unfolding trimmed
trimmed-normal d m = record { none = λ i j out. go i j out (pair-decided d i j) }
  where
    go : (i j : ℕ) → (i ≤ d → j ≤ d → i ≢ j → ⊥) → (r : IsPair d i j ⊎ (i ≤ d → j ≤ d → i ≢ j → ⊥))
        → ⊎_elim (λ r. m i j) (λ out. None) r ≡ None
    go i j out (inl r) = absurd (out r.row r.column r.apart)
    go i j out (inr k) = refl

-- matrices with equal bounds have one zone, and are closed together
pub InZone-same : (d : ℕ) (m u : Matrix) → ((i j : ℕ) → i ≤ d → j ≤ d → i ≢ j → m i j ≡ u i j) → (s : State)
    → InZone d m s → InZone d u s
InZone-same d m u h s z = record {
  size = z.size;
  bounds =
      λ i j hi hj n. subst (λ b. Keeps b (difference s i j)) (h i j hi hj n) (z.bounds i j hi hj n);
}

pub closed-same : (d : ℕ) (S : State → Type 0) (m u : Matrix) → ((i j : ℕ) → i ≤ d → j ≤ d → i ≢ j → m i j ≡ u i j)
    → IsClosed d S m → IsClosed d S u
closed-same d S m u h c = record {
  some = c.some;
  greatest =
      λ i j hi hj n. subst (λ b. IsGreatest S i j b) (h i j hi hj n) (c.greatest i j hi hj n);
}

-- normal values with the same states are equal
pub normal-values : (d : ℕ) (a b : Option Matrix) → IsNormalValue d a → IsNormalValue d b
    → ((s : State) → Has d a s → Has d b s) → ((s : State) → Has d b s → Has d a s) → a ≡ b
normal-values d None None p q h k = refl
normal-values d None (Some u) p q h k = absurd (k q.0.some.0 q.0.some.1)
normal-values d (Some m) None p q h k = absurd (h p.0.some.0 p.0.some.1)
normal-values d (Some m) (Some u) p q h k =
    ap Some (normal-same d m u p.1 q.1 (closed-unique d (InZone d u) m u
    (closed-same_set d (InZone d m) (InZone d u) m h k p.0) q.0))
