-- The lines of the bounds of a matrix, one more at a time.
use Rattle.std.proofs.Common.{◌≡◌, ◌≢◌, ◌+◌, ◌∙◌, ℕ, ℤ, List, [], ◌∷◌, ◌++◌, codes, Some, None, refl, sym, ap, subst, add-one, append_assoc, append-nil}
use Rattle.zone_theory.specs.Bounds.{Bound}
use Rattle.zone_theory.specs.Matrices.{Matrix}
use Rattle.zone_theory.specs.Limits.{Limit, number, row, rows}
use Rattle.zone_theory.proofs.Entries.{eqb_same, eqb_apart}
use Rattle.report_texts.specs.Printed.{lines_text}

lines_text-append : {A : Type 0} (text : A → List ℕ) (xs ys : List A)
    → lines_text text (xs ++ ys) ≡ lines_text text xs ++ lines_text text ys
lines_text-append text [] ys = refl
lines_text-append text (x ∷ xs) ys =
    ap (λ (z : List ℕ). text x ++ (codes "\n" ++ z)) (lines_text-append text xs ys)
    ∙ sym (append_assoc (text x) (codes "\n" ++ lines_text text xs) (lines_text text ys))

number-same : (i : ℕ) (b : Bound) → number i i b ≡ []
number-same i None = refl
number-same i (Some c) = rw (eqb_same i) refl

number-apart : (i j : ℕ) (c : ℤ) → i ≢ j → number i j (Some c) ≡ record { high = i; low = j; most = c } ∷ []
number-apart i j c n = rw (eqb_apart i j n) refl

module _ (text : Limit → List ℕ) where
  abbrev T : List Limit → List ℕ
  T xs = lines_text text xs

  none_more : (old new : List ℕ) (xs : List Limit) → xs ≡ [] → new ≡ old → new ≡ old ++ T xs
  none_more old new xs none same = same ∙ sym (append-nil old) ∙ ap (λ (z : List Limit). old ++ T z) (sym none)

  -- no line where the coordinates are equal, and none without a number
  pub same_more : (i j : ℕ) (b : Bound) (old new : List ℕ) → i ≡ j → new ≡ old → new ≡ old ++ T (number i j b)
  same_more i j b old new e same =
      none_more old new (number i j b) (subst (λ k. number i k b ≡ []) e (number-same i b)) same

  pub unbounded_more : (i j : ℕ) (b : Bound) (old new : List ℕ) → None ≡ b → new ≡ old → new ≡ old ++ T (number i j b)
  unbounded_more i j b old new e same =
      none_more old new (number i j b) (ap (number i j) (sym e)) same

  -- one line
  pub line_more : (i j : ℕ) (b : Bound) (c : ℤ) (old new : List ℕ) → i ≢ j → Some c ≡ b
      → new ≡ old ++ (text (record { high = i; low = j; most = c }) ++ codes "\n") → new ≡ old ++ T (number i j b)
  line_more i j b c old new n e is =
      is ∙ ap (λ (z : List Limit). old ++ T z) (sym (number-apart i j c n) ∙ ap (number i j) e)

  -- one place more of a row, and one row more
  pub row_more : (m : Matrix) (i j : ℕ) (start old new : List ℕ) → old ≡ start ++ T (row m i j)
      → new ≡ old ++ T (number i j (m i j)) → new ≡ start ++ T (row m i (j + 1))
  row_more m i j start old new before is = is ∙ ap (λ z. z ++ T (number i j (m i j))) before
      ∙ append_assoc start (T (row m i j)) (T (number i j (m i j)))
      ∙ ap (λ z. start ++ z) (sym (lines_text-append text (row m i j) (number i j (m i j)))
      ∙ ap (λ k. T (row m i k)) (sym (add-one j)))

  pub rows_more : (m : Matrix) (n i : ℕ) (start old new : List ℕ) → old ≡ start ++ T (rows m n i)
      → new ≡ old ++ T (row m i n) → new ≡ start ++ T (rows m n (i + 1))
  rows_more m n i start old new before is = is ∙ ap (λ z. z ++ T (row m i n)) before
      ∙ append_assoc start (T (rows m n i)) (T (row m i n))
      ∙ ap (λ z. start ++ z) (sym (lines_text-append text (rows m n i) (row m i n))
      ∙ ap (λ k. T (rows m n k)) (sym (add-one i)))

  -- no line yet
  pub nothing_yet : (start : List ℕ) → start ≡ start ++ []
  nothing_yet start = sym (append-nil start)
