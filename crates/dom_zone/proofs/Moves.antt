-- The images and the joins of zones, as lists.
-- Index: same-from, same-to, same-closed, same-moved, tight, skip-moved, set-moved, havoc-moved, guard-moved,
-- guard-none, set-made, havoc-made, read-in, admits-not, number-between, gap-between, met-none, met-right, met-left,
-- met-both, met-read.
use Rattle.std.proofs.Common.{◌≡◌, ◌≢◌, ⊎_elim, ◌≤◌, ◌<◌, ◌+◌, ◌^◌, ℕ, suc, ℤ, pos, ◌+ℤ◌, ◌-ℤ◌, ◌≤ℤ◌, ◌<ℤ◌, neg_ℤ, unsigned_abs, Bool, true, false, not, List, Option, Some, None, refl, sym, ap, subst, subst₂, ◌∙◌, add-one, true≢false, arith}
use Rattle.std.specs.Prelude.{◌↔◌, IsTrue}
use Rattle.std.proofs.lemmas.Int.{ints}
use Rattle.prog_theory.specs.States.{State, Term}
use Rattle.prog_theory.specs.Edges.{Op, Skips, Sets, Havocs, Guards}
use Rattle.prog_theory.specs.Fits.{FitsOp}
use Rattle.zone_theory.specs.Bounds.{Bound, IsAtMost, most}
use Rattle.zone_theory.specs.Matrices.{Matrix, InZone, entry}
use Rattle.zone_theory.specs.Shortest.{IsShortest}
use Rattle.zone_theory.specs.Adding.{added, Admits}
use Rattle.zone_theory.specs.Forgetting.{forgotten}
use Rattle.zone_theory.specs.Assigning.{assigned}
use Rattle.zone_theory.specs.Joining.{joined}
use Rattle.zone_theory.specs.Zones.{Has, IsImage}
use Rattle.zone_theory.proofs.Bounds.{lt_or_le, IsAtMost-more}
use Rattle.zone_theory.proofs.Closing.{closed-shortest, shortest-closed, closed-same_set}
use Rattle.zone_theory.proofs.Normal.{InZone-same, closed-same}
use Rattle.zone_theory.proofs.Adding.{admits-decided, added-shortest}
use Rattle.zone_theory.proofs.Forgetting.{forgotten-shortest}
use Rattle.zone_theory.proofs.Assigning.{assigned-shortest}
use Rattle.zone_theory.proofs.Joining.{joined-left, joined-right, joined-least, joined-shortest}
use Rattle.zone_theory.proofs.Images.{skips-image, sets-image, havocs-image, guards-image, guards-none}
use Rattle.zone_tables.specs.Tables.{matrix_of, table_of, IsTable, AreMade}
use Rattle.zone_tables.specs.Sizes.{IsBetween}
use Rattle.zone_lists.specs.Zones.{matrix_in, matrix_if}
use Rattle.dom_zone.specs.Values.{IsClosedTable, IsSmallTable, IsSmallIf, IsMoved, IsMet}
use Rattle.zone_tables.proofs.Lists.{table-is, table-pair, made-table, made-pair}

-- a list whose matrix has the bounds of a shortest one
module _ (vars : ℕ) (u : Matrix) (tight : IsShortest vars u) (bounds : List Bound) (table : IsTable (suc vars) bounds)
    (same : (i j : ℕ) → i ≤ vars → j ≤ vars → i ≢ j → u i j ≡ matrix_in vars bounds i j) where
  pub same-from : (s : State) → InZone vars u s → InZone vars (matrix_in vars bounds) s
  same-from s z = InZone-same vars u (matrix_in vars bounds) same s z

  pub same-to : (s : State) → InZone vars (matrix_in vars bounds) s → InZone vars u s
  same-to s z = InZone-same vars (matrix_in vars bounds) u (λ i j hi hj ne. sym (same i j hi hj ne)) s z

  pub same-closed : IsClosedTable vars bounds
  same-closed = record {
    table = table;
    closed = closed-same_set vars (InZone vars u) (InZone vars (matrix_in vars bounds)) (matrix_in vars bounds)
        same-from same-to (closed-same vars (InZone vars u) u (matrix_in vars bounds) same
        (shortest-closed vars u tight));
  }

  pub same-moved : (op : Op) (x : Option Matrix) → IsImage vars op x (Some u) → IsMoved vars op x (Some bounds)
  same-moved op x image = record {
    closed = same-closed;
    image = record { states = λ t. (λ h. (image.states t).0 (same-to t h), λ q. same-from t ((image.states t).1 q)) };
  }

less : (vars i : ℕ) → i ≤ vars → i < suc vars
less vars i l = omega (arith, l)

table-same : (vars : ℕ) (u : Matrix) (i j : ℕ) → i ≤ vars → j ≤ vars → i ≢ j
    → u i j ≡ matrix_in vars (table_of (suc vars) u) i j
table-same vars u i j hi hj ne = sym (table-pair (suc vars) u i j (less vars i hi) (less vars j hj) ne)

module _ (vars : ℕ) (bounds : List Bound) (small : IsSmallTable vars bounds) where
  pub tight : IsShortest vars (matrix_in vars bounds)
  tight = closed-shortest vars (InZone vars (matrix_in vars bounds)) (matrix_in vars bounds) small.closed.closed

  pub skip-moved : IsMoved vars Skips (Some (matrix_in vars bounds)) (Some bounds)
  skip-moved = record { closed = small.closed; image = skips-image vars (Some (matrix_in vars bounds)) }

  pub set-moved : (v : ℕ) (r : Term) → FitsOp vars (Sets v r) → IsMoved vars (Sets v r) (Some (matrix_in vars bounds))
      (Some (table_of (suc vars) (assigned (matrix_in vars bounds) v r.coord r.add)))
  set-moved v r on = let m = matrix_in vars bounds in let u = assigned m v r.coord r.add in
      same-moved vars u (assigned-shortest m v r.coord r.add vars on.1 tight) (table_of (suc vars) u)
      (table-is (suc vars) u) (table-same vars u) (Sets v r) (Some m) (sets-image vars m v r tight on)

  pub havoc-moved : (v : ℕ) → FitsOp vars (Havocs v) → IsMoved vars (Havocs v) (Some (matrix_in vars bounds))
      (Some (table_of (suc vars) (forgotten (matrix_in vars bounds) v)))
  havoc-moved v on = let m = matrix_in vars bounds in let u = forgotten m v in
      same-moved vars u (forgotten-shortest vars m v tight) (table_of (suc vars) u)
      (table-is (suc vars) u) (table-same vars u) (Havocs v) (Some m) (havocs-image vars m v tight on)

  pub guard-moved : (l r : Term) → FitsOp vars (Guards l r)
      → Admits (matrix_in vars bounds) l.coord r.coord (r.add -ℤ l.add)
      → IsMoved vars (Guards l r) (Some (matrix_in vars bounds))
      (Some (table_of (suc vars) (added (matrix_in vars bounds) l.coord r.coord (r.add -ℤ l.add))))
  guard-moved l r on admits = let m = matrix_in vars bounds in let u = added m l.coord r.coord (r.add -ℤ l.add) in
      same-moved vars u (added-shortest vars m tight l.coord r.coord on.0 on.1 (r.add -ℤ l.add) admits)
      (table_of (suc vars) u) (table-is (suc vars) u) (table-same vars u) (Guards l r) (Some m)
      (guards-image vars m l r tight on admits)

  pub guard-none : (l r : Term) → FitsOp vars (Guards l r)
      → (Admits (matrix_in vars bounds) l.coord r.coord (r.add -ℤ l.add) → ⊥)
      → IsMoved vars (Guards l r) (Some (matrix_in vars bounds)) None
  guard-none l r on not = record {
    closed = tt;
    image = ⊎_elim (λ a. absurd (not a)) (λ q. guards-none vars (matrix_in vars bounds) l r on q.0 q.1 q.2)
        (admits-decided (matrix_in vars bounds) l.coord r.coord (r.add -ℤ l.add));
  }

-- as code makes them: for one coordinate more than there are variables
module _ (vars n : ℕ) (bounds : List Bound) (small : IsSmallTable vars bounds) (side : n ≡ suc vars) where
  table-for : (f : Matrix → Matrix) (table : List Bound) → table ≡ table_of n (f (matrix_of n bounds))
      → table_of (suc vars) (f (matrix_in vars bounds)) ≡ table
  table-for f table is = sym (is ∙ ap (λ k. table_of k (f (matrix_of k bounds))) side)

  pub set-made : (op : Op) (v : ℕ) (r : Term) (c : ℤ) (table : List Bound) → Sets v r ≡ op → c ≡ r.add → FitsOp vars op
      → table ≡ table_of n (assigned (matrix_of n bounds) v r.coord c)
      → IsMoved vars op (Some (matrix_in vars bounds)) (Some table)
  set-made op v r c table e ce on is = subst
      (λ op. FitsOp vars op → IsMoved vars op (Some (matrix_in vars bounds)) (Some table)) e
      (λ on. subst (λ t. IsMoved vars (Sets v r) (Some (matrix_in vars bounds)) (Some t))
      (table-for (λ m. assigned m v r.coord r.add) table
      (is ∙ ap (λ c. table_of n (assigned (matrix_of n bounds) v r.coord c)) ce))
      (set-moved vars bounds small v r on)) on

  pub havoc-made : (op : Op) (v : ℕ) (table : List Bound) → Havocs v ≡ op → FitsOp vars op
      → table ≡ table_of n (forgotten (matrix_of n bounds) v) → IsMoved vars op (Some (matrix_in vars bounds))
      (Some table)
  havoc-made op v table e on is = subst
      (λ op. FitsOp vars op → IsMoved vars op (Some (matrix_in vars bounds)) (Some table)) e
      (λ on. subst (λ t. IsMoved vars (Havocs v) (Some (matrix_in vars bounds)) (Some t))
      (table-for (λ m. forgotten m v) table is) (havoc-moved vars bounds small v on)) on

  module _ (l r : Term) (most : ℤ) (number : most ≡ r.add -ℤ l.add) (on : FitsOp vars (Guards l r)) (yes : Bool)
      (told : IsTrue yes ↔ Admits (matrix_in vars bounds) l.coord r.coord most) where
    pub guard-refused : yes ≡ false → IsMoved vars (Guards l r) (Some (matrix_in vars bounds)) None
    guard-refused fails = guard-none vars bounds small l r on
        (λ a. true≢false (sym (told.1 (subst (Admits (matrix_in vars bounds) l.coord r.coord) (sym number) a)) ∙ fails))

    pub guard-made : yes ≡ true → (table : List Bound)
        → table ≡ table_of n (added (matrix_of n bounds) l.coord r.coord most)
        → IsMoved vars (Guards l r) (Some (matrix_in vars bounds)) (Some table)
    guard-made is table made = subst (λ t. IsMoved vars (Guards l r) (Some (matrix_in vars bounds)) (Some t))
        (table-for (λ m. added m l.coord r.coord (r.add -ℤ l.add)) table
        (made ∙ ap (λ c. table_of n (added (matrix_of n bounds) l.coord r.coord c)) number))
        (guard-moved vars bounds small l r on
        (subst (Admits (matrix_in vars bounds) l.coord r.coord) number (told.0 is)))

-- a bound that was read of a list for one coordinate more than there are variables
pub read-in : (vars : ℕ) (bounds : List Bound) (i j : ℕ) (b : Bound) → b ≡ entry (matrix_of (vars + 1) bounds) i j
    → b ≡ entry (matrix_in vars bounds) i j
read-in vars bounds i j b e = subst (λ n. b ≡ entry (matrix_of n bounds) i j) (add-one vars) e

-- a bound is admitted where no way leads back with less
pub admits-not : (m : Matrix) (i j : ℕ) (c x : ℤ) (b : Bound) (r : Bool) → b ≡ entry m j i → x ≡ neg_ℤ c -ℤ pos 1
    → (IsTrue r ↔ IsAtMost b x) → IsTrue (not r) ↔ Admits m i j c
admits-not m i j c x b true e xe h = (
  λ f. absurd (true≢false (sym f)),
  λ admits. absurd (below c x xe (admits x (subst (λ y. IsAtMost y x) e (h.0 refl)))),
)
  where
    below : (c x : ℤ) → x ≡ neg_ℤ c -ℤ pos 1 → pos 0 ≤ℤ (c +ℤ x) → ⊥
    below c x e h = omega (arith, ints)
admits-not m i j c x b false e xe h = (
  λ t a l. ⊎_elim
      (λ less. absurd (true≢false (sym (h.1 (IsAtMost-more b a x (subst (λ y. IsAtMost y a) (sym e) l)
      (at_most c a x xe less))))))
      (λ le. le)
      (lt_or_le (c +ℤ a) (pos 0)),
  λ admits. refl,
)
  where
    at_most : (c a x : ℤ) → x ≡ neg_ℤ c -ℤ pos 1 → (c +ℤ a) <ℤ pos 0 → a ≤ℤ x
    at_most c a x e h = omega (arith, ints)

-- numbers of programs are small
pub number-between : (z : ℤ) → unsigned_abs z ≤ 2 ^ 31 + 1 → IsBetween (2 ^ 40) z
number-between z h = record { low = omega (arith, ints, h); high = omega (arith, ints, h) }

pub gap-between : (x y : ℤ) → unsigned_abs x ≤ 2 ^ 31 + 1 → unsigned_abs y ≤ 2 ^ 31 + 1 → IsBetween (2 ^ 40) (x -ℤ y)
gap-between x y h k = record { low = omega (arith, ints, h, k); high = omega (arith, ints, h, k) }

-- ---- joins

pub met-none : (vars : ℕ) → IsMet vars None None None
met-none vars =
    record { closed = tt; join = record { left = λ s h. h; right = λ s h. h; least = λ w p q s h. absurd h } }

pub met-right : (vars : ℕ) (bounds : List Bound) → IsSmallTable vars bounds
    → IsMet vars None (Some (matrix_in vars bounds)) (Some bounds)
met-right vars bounds small = record {
  closed = small.closed;
  join = record { left = λ s h. absurd h; right = λ s h. h; least = λ w p q s h. q s h };
}

pub met-left : (vars : ℕ) (bounds : List Bound) → IsSmallTable vars bounds
    → IsMet vars (Some (matrix_in vars bounds)) None (Some bounds)
met-left vars bounds small = record {
  closed = small.closed;
  join = record { left = λ s h. h; right = λ s h. absurd h; least = λ w p q s h. p s h };
}

pub met-both : (vars : ℕ) (bounds others made : List Bound) → IsSmallTable vars bounds → IsSmallTable vars others
    → AreMade most bounds others made
    → IsMet vars (Some (matrix_in vars bounds)) (Some (matrix_in vars others)) (Some made)
met-both vars bounds others made one two both = record {
  closed = same-closed vars u up made is same;
  join = record {
    left = λ s h. same-from vars u up made is same s (joined-left vars m w s h);
    right = λ s h. same-from vars u up made is same s (joined-right vars m w s h);
    least = λ x p q s h. least x p q s (same-to vars u up made is same s h);
  };
}
  where
    m : Matrix
    m = matrix_in vars bounds

    w : Matrix
    w = matrix_in vars others

    u : Matrix
    u = joined m w

    up : IsShortest vars u
    up = joined-shortest vars m w (tight vars bounds one) (tight vars others two)

    is : IsTable (suc vars) made
    is = made-table most refl (suc vars) bounds others made both one.closed.table two.closed.table

    same : (i j : ℕ) → i ≤ vars → j ≤ vars → i ≢ j → u i j ≡ matrix_in vars made i j
    same i j hi hj ne = sym (made-pair most refl (suc vars) bounds others made both i j (less vars i hi)
        (less vars j hj) ne)

    least : (x : Option Matrix) → ((s : State) → InZone vars m s → Has vars x s)
        → ((s : State) → InZone vars w s → Has vars x s) → (s : State) → InZone vars u s → Has vars x s
    least None p q s h = absurd (p one.closed.closed.some.0 one.closed.closed.some.1)
    least (Some y) p q s h = joined-least vars (InZone vars m) (InZone vars w) m w y one.closed.closed
        two.closed.closed p q s h

pub met-read : (vars : ℕ) (left right : Option (List Bound)) (bounds others one two made : List Bound)
    → IsSmallIf vars left → IsSmallIf vars right → left ≡ Some bounds → right ≡ Some others → one ≡ bounds
    → two ≡ others
    → AreMade most one two made → IsMet vars (matrix_if vars left) (matrix_if vars right) (Some made)
met-read vars left right bounds others one two made a b e g oe te both =
    subst₂ (λ x y. IsMet vars (matrix_if vars x) (matrix_if vars y) (Some made)) (sym e) (sym g)
    (met-both vars bounds others made (subst (IsSmallIf vars) e a) (subst (IsSmallIf vars) g b)
    (subst₂ (λ x y. AreMade most x y made) oe te both))
