-- Lists that stand for matrices.
-- Index: matrix-pair, matrix-normal, IsPlace, place-of, each-cell, matrix-each, length-rows, rows-at, table-is,
-- table-pair, free-table, free-matrix, made-table, made-pair, entry-read, row-more, row-start, rows-more.
use Rattle.std.proofs.Common.{◌≡◌, ◌≢◌, ◌⊎◌, inl, inr, ⊎_elim, ◌<◌, ◌≤◌, ◌+◌, ◌-◌, ◌*◌, ◌/◌, ◌%◌, ◌==◌, ℕ, zero, suc, Bool, true, false, cond, List, [], ◌∷◌, ◌++◌, length, get_or, replicate, Option, Some, None, refl, sym, ap, subst, ◌∙◌, add-one, arith}
use Rattle.std.specs.Prelude.{ltb}
use Rattle.std.proofs.lemmas.Bool.{cases_lt, lt-ltb, le-ltb}
use Rattle.std.proofs.lemmas.Nat.{mul-add-lt, div_below, mod_below, div-add-mod'}
use Rattle.std.proofs.lemmas.List.{append_assoc, append-nil, length-append, length-replicate, get_or_append_left, get_or_push, get_or_past, get_or-replicate, length_push, get_or-append_right, get_or_default}
use Rattle.zone_theory.specs.Bounds.{Bound}
use Rattle.zone_theory.specs.Matrices.{Matrix, entry, free}
use Rattle.zone_theory.specs.Domain.{IsNormal}
use Rattle.zone_theory.proofs.Entries.{eqb_same, eqb_apart, same_or_apart, entry-apart, entry-same}
use Rattle.zone_theory.proofs.Normal.{normal-same}
use Rattle.zone_tables.specs.Tables.{cell_at, matrix_of, row_of, rows_of, apart, table_of, IsTable, AreMade}

pub matrix-pair : (n : ℕ) (bounds : List Bound) (i j : ℕ) → i < n → j < n → i ≢ j
    → matrix_of n bounds i j ≡ cell_at n bounds i j
unfolding matrix_of
matrix-pair n bounds i j hi hj ne = rw (eqb_apart i j ne, lt-ltb i n hi, lt-ltb j n hj) refl

pub matrix-normal : (d : ℕ) (bounds : List Bound) → IsNormal d (matrix_of (suc d) bounds)
unfolding matrix_of
matrix-normal d bounds = record { none = λ i j out. at i j out }
  where
    Out : ℕ → ℕ → Type 0
    Out i j = i ≤ d → j ≤ d → i ≢ j → ⊥

    at : (i j : ℕ) → (i ≤ d → j ≤ d → i ≢ j → ⊥)
        → cond (i == j) None (cond (ltb i (suc d)) (cond (ltb j (suc d)) (cell_at (suc d) bounds i j) None) None) ≡ None
    at i j out = ⊎_elim
        (λ e. subst (λ k. cond (i == k) None
        (cond (ltb i (suc d)) (cond (ltb k (suc d)) (cell_at (suc d) bounds i k) None) None) ≡ None) e
        (rw (eqb_same i) refl))
        (λ ne. rw (eqb_apart i j ne) (⊎_elim
        (λ hi. rw (lt-ltb i (suc d) hi) (⊎_elim
        (λ hj. absurd (out (omega (arith, hi)) (omega (arith, hj)) ne))
        (λ hj. rw (le-ltb j (suc d) hj) refl)
        (cases_lt j (suc d))))
        (λ hi. rw (le-ltb i (suc d) hi) refl)
        (cases_lt i (suc d))))
        (same_or_apart i j)

-- the row and the column of a place
pub record IsPlace (n k i j : ℕ) : Type 0 where
  pub row : i < n
  pub column : j < n
  pub is : k ≡ i * n + j

pub place-of : (n k : ℕ) → k < n * n → (i : ℕ) × (j : ℕ) × IsPlace n k i j
place-of zero k h = absurd (omega (arith, h))
place-of (suc d) k h = (
  k / suc d,
  k % suc d,
  record {
    row = div_below k (suc d) (suc d) (omega arith) h;
    column = mod_below k (suc d) (omega arith);
    is = sym (div-add-mod' k (suc d));
  },
)

-- what holds of none and of each bound of the matrix holds of each of the list
pub each-cell : (n : ℕ) (bounds : List Bound) → IsTable n bounds → (P : Bound → Type 0) → P None
    → ((i j : ℕ) → i < n → j < n → i ≢ j → P (matrix_of n bounds i j)) → (k : ℕ) → P (get_or bounds k None)
each-cell n bounds t P nothing each k = ⊎_elim
    (λ l. let p = place-of n k l in go p.0 p.1 p.2)
    (λ l. subst P (sym (get_or_past bounds k None (omega (arith, l, t.size)))) nothing)
    (cases_lt k (n * n))
  where
    go : (i j : ℕ) → IsPlace n k i j → P (get_or bounds k None)
    go i j p = subst (λ x. P (get_or bounds x None)) (sym p.is) (⊎_elim
        (λ e. subst (λ x. P (cell_at n bounds i x)) e (subst P (sym (t.none i p.row)) nothing))
        (λ ne. subst P (matrix-pair n bounds i j p.row p.column ne) (each i j p.row p.column ne))
        (same_or_apart i j))

pub matrix-each : (n : ℕ) (bounds : List Bound) (P : Bound → Type 0) → P None
    → ((k : ℕ) → k < length bounds → P (get_or bounds k None)) → (k : ℕ) → P (get_or bounds k None)
matrix-each n bounds P nothing each k = ⊎_elim
    (λ l. each k l)
    (λ l. subst P (sym (get_or_past bounds k None l)) nothing)
    (cases_lt k (length bounds))

-- the lists of a row and of rows
length-row : (m : Matrix) (i n : ℕ) → length (row_of m i n) ≡ n
length-row m i zero = refl
length-row m i (suc n) = length_push (row_of m i n) (m i n) ∙ ap (λ k. k + 1) (length-row m i n) ∙ add-one n

row-at : (m : Matrix) (i n j : ℕ) → j < n → get_or (row_of m i n) j None ≡ m i j
row-at m i zero j h = absurd (omega (arith, h))
row-at m i (suc n) j h = ⊎_elim
    (λ l. get_or_append_left (row_of m i n) (m i n ∷ []) None j (omega (arith, l, length-row m i n)) ∙ row-at m i n j l)
    (λ l. let e : n ≡ j = omega (arith, l, h) in
    get_or_push (row_of m i n) (m i n) None j (length-row m i n ∙ e) ∙ ap (m i) e)
    (cases_lt j n)

pub length-rows : (m : Matrix) (n k : ℕ) → length (rows_of m n k) ≡ k * n
length-rows m n zero = omega arith
length-rows m n (suc k) = length-append (rows_of m n k) (row_of m k n)
    ∙ omega (arith, length-rows m n k, length-row m k n)

pub rows-at : (m : Matrix) (n k i j : ℕ) → i < k → j < n → get_or (rows_of m n k) (i * n + j) None ≡ m i j
rows-at m n zero i j hi hj = absurd (omega (arith, hi))
rows-at m n (suc k) i j hi hj = ⊎_elim
    (λ l. get_or_append_left (rows_of m n k) (row_of m k n) None (i * n + j)
    (omega (arith, mul-add-lt i n j k l hj, length-rows m n k)) ∙ rows-at m n k i j l hj)
    (λ l. let e : k ≡ i = omega (arith, l, hi) in
    subst (λ x. get_or (rows_of m n k ++ row_of m k n) (x * n + j) None ≡ m x j) e
    (get_or-append_right (rows_of m n k) (row_of m k n) (k * n) (k * n + j) None (length-rows m n k) (omega arith)
    ∙ ap (λ x. get_or (row_of m k n) x None) (let s : k * n + j - k * n ≡ j = omega arith in s)
    ∙ row-at m k n j hj))
    (cases_lt i k)

-- the list of a matrix stands for it
pub table-is : (n : ℕ) (m : Matrix) → IsTable n (table_of n m)
table-is n m = record {
  size = length-rows (apart m) n n;
  none = λ i h. rows-at (apart m) n n i i h h ∙ (rw (eqb_same i) refl);
}

pub table-pair : (n : ℕ) (m : Matrix) (i j : ℕ) → i < n → j < n → i ≢ j → matrix_of n (table_of n m) i j ≡ m i j
table-pair n m i j hi hj ne = matrix-pair n (table_of n m) i j hi hj ne ∙ rows-at (apart m) n n i j hi hj
    ∙ (rw (eqb_apart i j ne) refl)

-- no bound at all
pub free-table : (n : ℕ) → IsTable n (replicate (n * n) None)
free-table n = record {
  size = length-replicate (n * n) None;
  none = λ i h. get_or-replicate (n * n) (i * n + i) None None (mul-add-lt i n i n h h);
}

pub free-matrix : (d : ℕ) → matrix_of (suc d) (replicate (suc d * suc d) None) ≡ free
free-matrix d = let es = replicate (suc d * suc d) None in normal-same d (matrix_of (suc d) es) free
    (matrix-normal d es) (record { none = λ i j out. refl })
    (λ i j hi hj ne. matrix-pair (suc d) es i j (omega (arith, hi)) (omega (arith, hj)) ne
    ∙ get_or-replicate (suc d * suc d) (i * suc d + j) None None
    (mul-add-lt i (suc d) j (suc d) (omega (arith, hi)) (omega (arith, hj))))

-- bounds that are made side by side
module _ (f : Bound → Bound → Bound) (nothing : f None None ≡ None) (n : ℕ) (xs ys zs : List Bound)
    (made : AreMade f xs ys zs) where
  pub made-table : IsTable n xs → IsTable n ys → IsTable n zs
  made-table s t = record {
    size = made.size ∙ s.size;
    none = λ i h. made.each (i * n + i) ∙ ap (λ b. f b (cell_at n ys i i)) (s.none i h) ∙ ap (f None) (t.none i h)
        ∙ nothing;
  }

  pub made-pair : (i j : ℕ) → i < n → j < n → i ≢ j
      → matrix_of n zs i j ≡ f (matrix_of n xs i j) (matrix_of n ys i j)
  made-pair i j hi hj ne = matrix-pair n zs i j hi hj ne ∙ made.each (i * n + j)
      ∙ ap (λ b. f b (cell_at n ys i j)) (sym (matrix-pair n xs i j hi hj ne))
      ∙ ap (f (matrix_of n xs i j)) (sym (matrix-pair n ys i j hi hj ne))

-- the bound that is read of a list
pub entry-read : (n : ℕ) (bounds : List Bound) (i j : ℕ) (b : Bound) → i < n → j < n → i ≢ j
    → b ≡ get_or bounds (i * n + j) b → length bounds ≡ n * n → b ≡ entry (matrix_of n bounds) i j
entry-read n bounds i j b hi hj ne is size = is ∙ get_or_default' ∙ sym (matrix-pair n bounds i j hi hj ne)
    ∙ sym (entry-apart (matrix_of n bounds) i j ne)
  where
    get_or_default' : get_or bounds (i * n + j) b ≡ get_or bounds (i * n + j) None
    get_or_default' = get_or_default bounds (i * n + j) b None (omega (arith, mul-add-lt i n j n hi hj, size))

-- one bound more of a row, and one row more
pub row-more : (m : Matrix) (i n : ℕ) (start out new : List Bound) (b : Bound) → out ≡ start ++ row_of m i n
    → b ≡ m i n → new ≡ out ++ b ∷ [] → new ≡ start ++ row_of m i (n + 1)
row-more m i n start out new b before is e = e ∙ ap (λ o. o ++ b ∷ []) before ∙ append_assoc start (row_of m i n)
    (b ∷ [])
    ∙ ap (λ x. start ++ (row_of m i n ++ x ∷ [])) is ∙ ap (λ k. start ++ row_of m i k) (sym (add-one n))

pub row-start : (m : Matrix) (i : ℕ) (start : List Bound) → start ≡ start ++ row_of m i 0
row-start m i start = sym (append-nil start)

pub rows-more : (m : Matrix) (n k : ℕ) (out new : List Bound) → out ≡ rows_of m n k → new ≡ out ++ row_of m k n
    → new ≡ rows_of m n (k + 1)
rows-more m n k out new before e = e ∙ ap (λ o. o ++ row_of m k n) before ∙ ap (λ j. rows_of m n j) (sym (add-one k))
