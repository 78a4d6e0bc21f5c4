-- The greatest size of an entry of a row, or of several rows, and of a coefficient of a system.
use Rattle.std.proofs.Common.{◌≡◌, ◌<◌, ◌≤◌, ◌+◌, ◌++◌, ◌∙◌, ℕ, zero, suc, List, [], ◌∷◌, length, take, drop, get_or, max, ap, sym, arith}
use Rattle.std.specs.Prelude.{remove}
use Rattle.std.proofs.lemmas.List.{take_more}
use Rattle.trop_theory.specs.Semiring.{Semiring}
use Rattle.trop_theory.specs.Vectors.{row_size, rows_size}
use Rattle.trop_theory.specs.Inequalities.{Inequality, inequality_size, system_size}

module _ {V : Type 0} (R : Semiring V) where
  -- the row at a place
  pub rows_size-at : (rows : List (List V)) (k : ℕ) (d : List V) → k < length rows →
      row_size R (get_or rows k d) ≤ rows_size R rows
  rows_size-at [] k d l = absurd (omega arith)
  rows_size-at (x ∷ rows) zero d l = omega arith
  rows_size-at (x ∷ rows) (suc k) d l = omega (arith, rows_size-at rows k d (omega arith))

  -- the row that was read there
  pub rows_size-read : (rows : List (List V)) (k : ℕ) (x : List V) → x ≡ get_or rows k x → k < length rows →
      row_size R x ≤ rows_size R rows
  rows_size-read rows k x read l = omega (arith, ap (row_size R) read, rows_size-at rows k x l)

  -- parts of a list of rows
  pub rows_size-take : (k : ℕ) (rows : List (List V)) → rows_size R (take k rows) ≤ rows_size R rows
  rows_size-take zero rows = omega arith
  rows_size-take (suc k) [] = omega arith
  rows_size-take (suc k) (x ∷ rows) = omega (arith, rows_size-take k rows)

  pub rows_size-drop : (k : ℕ) (rows : List (List V)) → rows_size R (drop k rows) ≤ rows_size R rows
  rows_size-drop zero rows = omega arith
  rows_size-drop (suc k) [] = omega arith
  rows_size-drop (suc k) (x ∷ rows) = omega (arith, rows_size-drop k rows)

  pub rows_size-append : (xs ys : List (List V)) (n : ℕ) → rows_size R xs ≤ n → rows_size R ys ≤ n →
      rows_size R (xs ++ ys) ≤ n
  rows_size-append [] ys n p q = q
  rows_size-append (x ∷ xs) ys n p q = omega (arith, rows_size-append xs ys n (omega arith) q)

  pub rows_size-remove : (rows : List (List V)) (k n : ℕ) → rows_size R rows ≤ n → rows_size R (remove rows k) ≤ n
  rows_size-remove rows k n h = rows_size-append (take k rows) (drop (suc k) rows) n
      (omega (arith, rows_size-take k rows)) (omega (arith, rows_size-drop (suc k) rows))

  pub rows_size-from_all : (rows : List (List V)) (n : ℕ) →
      ((k : ℕ) (d : List V) → k < length rows → row_size R (get_or rows k d) ≤ n) → rows_size R rows ≤ n
  rows_size-from_all [] n h = omega arith
  rows_size-from_all (x ∷ rows) n h =
      omega (arith, h 0 [] (omega arith), rows_size-from_all rows n (λ k d l. h (suc k) d (omega arith)))

  -- one more entry, one more row, or one more inequality
  pub row_size-last : (x : List V) (a : V) → row_size R (x ++ a ∷ []) ≡ max (row_size R x) (R.size a)
  row_size-last [] a = omega arith
  row_size-last (b ∷ x) a = omega (arith, row_size-last x a)

  pub rows_size-last : (rows : List (List V)) (g : List V) →
      rows_size R (rows ++ g ∷ []) ≡ max (rows_size R rows) (row_size R g)
  rows_size-last [] g = omega arith
  rows_size-last (h ∷ rows) g = omega (arith, rows_size-last rows g)

  pub row_size-taken : (xs : List V) (i : ℕ) (x : V) → i < length xs → x ≡ get_or xs i x →
      row_size R (take (i + 1) xs) ≡ max (row_size R (take i xs)) (R.size x)
  row_size-taken xs i x l read = ap (row_size R) (take_more xs i x l ∙ ap (λ z. take i xs ++ z ∷ []) (sym read))
      ∙ row_size-last (take i xs) x

  pub rows_size-taken : (xs : List (List V)) (i : ℕ) (x : List V) → i < length xs → x ≡ get_or xs i x →
      rows_size R (take (i + 1) xs) ≡ max (rows_size R (take i xs)) (row_size R x)
  rows_size-taken xs i x l read = ap (rows_size R) (take_more xs i x l ∙ ap (λ z. take i xs ++ z ∷ []) (sym read))
      ∙ rows_size-last (take i xs) x

  system_size-last : (system : List (Inequality V)) (p : Inequality V) →
      system_size R (system ++ p ∷ []) ≡ max (system_size R system) (inequality_size R p)
  system_size-last [] p = omega arith
  system_size-last (q ∷ system) p = omega (arith, system_size-last system p)

  pub system_size-taken : (xs : List (Inequality V)) (i : ℕ) (p : Inequality V) → i < length xs → p ≡ get_or xs i p →
      system_size R (take (i + 1) xs) ≡ max (system_size R (take i xs)) (inequality_size R p)
  system_size-taken xs i p l read = ap (system_size R) (take_more xs i p l ∙ ap (λ z. take i xs ++ z ∷ []) (sym read))
      ∙ system_size-last (take i xs) p
