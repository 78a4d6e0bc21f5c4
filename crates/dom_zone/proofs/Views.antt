-- What values of the code are as zones.
-- Index: list, listed, bottom-sound, top-sound, top-is, fitted-sound, kept-sound, empty-is_bottom, some-not_bottom,
-- stronger-within, within-stronger, within-none, within-empty, within-both, none-lies, both-lie.
use Rattle.std.proofs.Common.{◌≡◌, ⊎_elim, ◌≤◌, ◌<◌, ◌+◌, ◌*◌, ◌^◌, ℕ, zero, suc, ℤ, Bool, false, List, length, get_or, replicate, Option, Some, None, refl, sym, ap, subst, subst₂, ◌∙◌, true≢false, arith}
use Rattle.std.specs.Prelude.{◌↔◌, IsTrue}
use Rattle.std.proofs.lemmas.Int.{ints}
use Rattle.std.proofs.lemmas.Nat.{mul-add-lt}
use Rattle.prog_theory.specs.States.{State}
use Rattle.zone_theory.specs.Bounds.{Bound, IsAtMost}
use Rattle.zone_theory.specs.Matrices.{InZone, free}
use Rattle.zone_theory.specs.Closed.{IsClosed}
use Rattle.zone_theory.specs.Domain.{Zone, Within}
use Rattle.zone_theory.proofs.Bounds.{le_same}
use Rattle.zone_theory.proofs.Entries.{same_or_apart}
use Rattle.zone_theory.proofs.Limits.{free-shortest}
use Rattle.zone_theory.proofs.Closing.{shortest-closed, closed-itself}
use Rattle.zone_theory.proofs.Including.{included, included-from}
use Rattle.zone_tables.specs.Sizes.{AreWithin, IsWithin}
use Rattle.zone_tables.specs.Kept.{IsBelow}
use Rattle.zone_lists.specs.Zones.{ZoneList, matrix_in, zone_of, empty, whole}
use Rattle.dom_zone.specs.Values.{IsClosedIf, IsSmallTable, IsSmallIf, AreKeptIf, IsSound}
use Rattle.dom_zone.specs.Answers.{AreSmallIf}
use Rattle.zone_tables.specs.Passes.{IsClosing}
use Rattle.dom_zone.specs.Widened.{IsBasis}
use Rattle.zone_tables.proofs.Lists.{IsPlace, place-of, matrix-pair, free-table, free-matrix}

-- ---- how values are made

abbrev pub list : ℕ → Option (List Bound) → Option (List Bound) → ZoneList
list vars bounds kept = record { vars = vars; bounds = bounds; kept = kept }

abbrev pub listed : ℕ → List Bound → ZoneList
listed vars bounds = record { vars = vars; bounds = Some bounds; kept = None }

pub bottom-sound : (vars : ℕ) → vars ≤ 63 → IsSound vars None None
bottom-sound vars l = record { few = l; small = tt; keeps = tt }

free-within : (k n : ℕ) → IsWithin (2 ^ 40) (get_or (replicate n None) k None)
free-within k n = at n k
  where
    at : (n k : ℕ) → IsWithin (2 ^ 40) (get_or (replicate n None) k None)
    at zero k = tt
    at (suc n) zero = tt
    at (suc n) (suc k) = at n k

free-small : (vars : ℕ) → IsSmallTable vars (replicate (suc vars * suc vars) None)
free-small vars = record {
  closed = record {
    table = free-table (suc vars);
    closed = subst (λ m. IsClosed vars (InZone vars m) m) (sym (free-matrix vars))
        (shortest-closed vars free (free-shortest vars));
  };
  within = λ k. free-within k (suc vars * suc vars);
}

pub top-sound : (vars n : ℕ) (bounds : List Bound) → vars ≤ 63 → n ≡ suc vars → bounds ≡ replicate (n * n) None
    → IsSound vars (Some bounds) None
top-sound vars n bounds l e is = record {
  few = l;
  small = subst (IsSmallTable vars) (sym (is ∙ ap (λ k. replicate (k * k) None) e)) (free-small vars);
  keeps = tt;
}

pub top-is : (vars n : ℕ) (bounds : List Bound) → n ≡ suc vars → bounds ≡ replicate (n * n) None
    → listed vars bounds ≡ whole vars
top-is vars n bounds e is = ap (listed vars) (is ∙ ap (λ k. replicate (k * k) None) e)

small-if : (vars : ℕ) (made : Option (List Bound)) → IsClosedIf vars made → AreSmallIf made → IsSmallIf vars made
small-if vars None c s = tt
small-if vars (Some bounds) c s = record { closed = c; within = s }

pub fitted-sound : (vars : ℕ) (made : Option (List Bound)) → vars ≤ 63 → IsClosedIf vars made → AreSmallIf made
    → IsSound vars made None
fitted-sound vars made l c s = record { few = l; small = small-if vars made c s; keeps = tt }

pub kept-sound : (vars : ℕ) (bounds kept : List Bound) → vars ≤ 63 → IsBasis vars kept → IsClosing vars kept bounds
    → AreWithin (2 ^ 40) bounds → IsSound vars (Some bounds) (Some kept)
kept-sound vars bounds kept l b c w = record {
  few = l;
  small = record {
    closed = record {
      table = c.table;
      closed = closed-itself vars (InZone vars (matrix_in vars kept)) (matrix_in vars bounds) c.closed;
    };
    within = w;
  };
  keeps = record { table = b.table; within = b.within; closed = c.closed };
}

-- ---- what values tell

pub empty-is_bottom : (vars : ℕ) (kept : Option (List Bound)) → AreKeptIf vars None kept
    → list vars None kept ≡ empty vars
empty-is_bottom vars None h = refl
empty-is_bottom vars (Some kept) h = absurd h

bounds-none : (bounds : List Bound) → ◌≡◌ {A = Option (List Bound)} (Some bounds) None → ⊥
bounds-none bounds e = cc

pub some-not_bottom : (vars n : ℕ) (bounds : List Bound) (kept : Option (List Bound))
    → list vars (Some bounds) kept ≡ empty n → ⊥
some-not_bottom vars n bounds kept e = bounds-none bounds (ap (λ (x : ZoneList). x.bounds) e)

-- ---- inclusion

at-most_below : (x y : Bound) → IsBelow x y → (a : ℤ) → IsAtMost y a → IsAtMost x a
at-most_below x None h a k = absurd k
at-most_below None (Some c) h a k = absurd h
at-most_below (Some b) (Some c) h a k = omega (arith, ints, h, k)

below-at_most : (x y : Bound) → ((a : ℤ) → IsAtMost y a → IsAtMost x a) → IsBelow x y
below-at_most x None h = tt
below-at_most x (Some c) h = h c (le_same c)

module _ (vars : ℕ) (bounds others : List Bound) (one : IsSmallTable vars bounds) (two : IsSmallTable vars others) where
  pub stronger-within : ((k : ℕ) → k < length bounds → IsBelow (get_or bounds k None) (get_or others k None))
      → (s : State) → InZone vars (matrix_in vars bounds) s → InZone vars (matrix_in vars others) s
  stronger-within h = included-from vars (InZone vars (matrix_in vars bounds)) (matrix_in vars bounds)
      (matrix_in vars others) one.closed.closed (λ s z. z.size)
      (λ i j hi hj ne a k. at-most_below (matrix_in vars bounds i j) (matrix_in vars others i j)
      (subst (λ x. IsBelow x (matrix_in vars others i j))
      (sym (matrix-pair (suc vars) bounds i j (more i hi) (more j hj) ne))
      (subst (λ y. IsBelow (get_or bounds (i * suc vars + j) None) y)
      (sym (matrix-pair (suc vars) others i j (more i hi) (more j hj) ne))
      (h (i * suc vars + j) (omega (
        arith,
        mul-add-lt i (suc vars) j (suc vars) (more i hi)
            (more j hj),
        one.closed.table.size,
      )))))
      a k)
    where
      more : (i : ℕ) → i ≤ vars → i < suc vars
      more i l = omega (arith, l)

  pub within-stronger : ((s : State) → InZone vars (matrix_in vars bounds) s → InZone vars (matrix_in vars others) s)
      → (k : ℕ) → k < length bounds → IsBelow (get_or bounds k None) (get_or others k None)
  within-stronger h k l = let p = place-of (suc vars) k (omega (arith, l, one.closed.table.size)) in at p.0 p.1 p.2
    where
      at : (i j : ℕ) → IsPlace (suc vars) k i j → IsBelow (get_or bounds k None) (get_or others k None)
      at i j p = subst (λ x. IsBelow (get_or bounds x None) (get_or others x None)) (sym p.is) (⊎_elim
          (λ e. subst (λ x. IsBelow (get_or bounds (i * suc vars + x) None) (get_or others (i * suc vars + x) None)) e
          (subst (IsBelow (get_or bounds (i * suc vars + i) None)) (sym (two.closed.table.none i p.row)) tt))
          (λ ne. subst (λ x. IsBelow x (get_or others (i * suc vars + j) None))
          (matrix-pair (suc vars) bounds i j p.row p.column ne)
          (subst (IsBelow (matrix_in vars bounds i j)) (matrix-pair (suc vars) others i j p.row p.column ne)
          (below-at_most (matrix_in vars bounds i j) (matrix_in vars others i j)
          (included vars (InZone vars (matrix_in vars bounds)) (matrix_in vars bounds) (matrix_in vars others)
          one.closed.closed h i j (omega (arith, p.row)) (omega (arith, p.column)) ne))))
          (same_or_apart i j))

-- zones on as many variables
pub within-none : (vars other : ℕ) (kept : Option (List Bound)) (x : Zone) → Within (zone_of (list vars None kept)) x
within-none vars other kept x s h = absurd h

pub within-empty : (vars other : ℕ) (bounds : List Bound) (kept others_kept : Option (List Bound))
    → IsSmallTable vars bounds
    → Within (zone_of (list vars (Some bounds) kept)) (zone_of (list other None others_kept)) → ⊥
within-empty vars other bounds kept others_kept small h = let s = small.closed.closed.some in h s.0 s.1

pub within-both : (vars other : ℕ) (bounds others : List Bound) (kept others_kept : Option (List Bound)) → vars ≡ other
    → IsSmallTable vars bounds → IsSmallTable other others
    → ((k : ℕ) → k < length bounds → IsBelow (get_or bounds k None) (get_or others k None))
    ↔ Within (zone_of (list vars (Some bounds) kept)) (zone_of (list other (Some others) others_kept))
within-both vars other bounds others kept others_kept e one two =
    subst (λ d. IsSmallTable d others
    → ((k : ℕ) → k < length bounds → IsBelow (get_or bounds k None) (get_or others k None))
    ↔ Within (zone_of (list vars (Some bounds) kept)) (zone_of (list d (Some others) others_kept))) e
    (λ small. (stronger-within vars bounds others one small, within-stronger vars bounds others one small)) two

-- ---- the values of two calls

vars-same : (vars n : ℕ) (b kept c keeps : Option (List Bound)) (x y : ZoneList) → list vars b kept ≡ x
    → list n c keeps ≡ y → x.vars ≡ y.vars → vars ≡ n
vars-same vars n b kept c keeps x y e g h = ap (λ (z : ZoneList). z.vars) e ∙ h ∙ sym (ap (λ (z : ZoneList). z.vars) g)

pub none-lies : (vars n : ℕ) (b kept c keeps : Option (List Bound)) (bounds : List Bound) (x y : ZoneList)
    → b ≡ Some bounds → c ≡ None → list vars b kept ≡ x → list n c keeps ≡ y → IsSound vars b kept
    → IsTrue false ↔ Within (zone_of x) (zone_of y)
none-lies vars n b kept c keeps bounds x y some none e g sound =
    subst₂ (λ x y. IsTrue false ↔ Within (zone_of x) (zone_of y)) (ap (λ b. list vars b kept) (sym some) ∙ e)
    (ap (λ c. list n c keeps) (sym none) ∙ g) (
      λ f. absurd (true≢false (sym f)),
      λ w. absurd (within-empty vars n bounds kept keeps (subst (IsSmallIf vars) some sound.small) w),
    )

pub both-lie : (vars n : ℕ) (b kept c keeps : Option (List Bound)) (bounds others one two : List Bound) (x y : ZoneList)
    (r : Bool) → b ≡ Some bounds → c ≡ Some others → list vars b kept ≡ x → list n c keeps ≡ y → IsSound vars b kept
    → IsSound n c keeps → x.vars ≡ y.vars → one ≡ bounds → two ≡ others
    → (IsTrue r ↔ ((k : ℕ) → k < length one → IsBelow (get_or one k None) (get_or two k None)))
    → IsTrue r ↔ Within (zone_of x) (zone_of y)
both-lie vars n b kept c keeps bounds others one two x y r some other e g sound sounds same oe te h =
    subst₂ (λ x y. IsTrue r ↔ Within (zone_of x) (zone_of y)) (ap (λ b. list vars b kept) (sym some) ∙ e)
    (ap (λ c. list n c keeps) (sym other) ∙ g) (λ t. w.0 (k.0 t), λ t. k.1 (w.1 t))
  where
    stronger : List Bound → List Bound → Type 0
    stronger bs os = (k : ℕ) → k < length bs → IsBelow (get_or bs k None) (get_or os k None)

    k : IsTrue r ↔ stronger bounds others
    k = subst₂ (λ bs os. IsTrue r ↔ stronger bs os) oe te h

    w : stronger bounds others ↔ Within (zone_of (list vars (Some bounds) kept)) (zone_of (list n (Some others) keeps))
    w = within-both vars n bounds others kept keeps (vars-same vars n b kept c keeps x y e g same)
        (subst (IsSmallIf vars) some sound.small) (subst (IsSmallIf n) other sounds.small)
