-- The numbers of a matrix, one after another, each as what a function makes of its limit.
use Rattle.std.proofs.Common.{◌≡◌, ◌≤◌, ◌<◌, ◌+◌, ◌*◌, ◌^◌, ℕ, zero, suc, ℤ, Bool, true, false, cond, eqb, map, List, [], ◌∷◌, ◌++◌, length, Some, None, sym, ap, ◌∙◌, add-one, arith}
use Rattle.std.proofs.lemmas.List.{append_assoc, append-nil, length-append, length-map, map-append}
use Rattle.std.proofs.lemmas.Nat.{mul-le}
use Rattle.zone_theory.specs.Bounds.{Bound}
use Rattle.zone_theory.specs.Matrices.{Matrix}
use Rattle.zone_theory.specs.Limits.{Limit, number, row, rows}

abbrev one : ℕ → ℕ → ℤ → List Limit
one i j c = record { high = i; low = j; most = c } ∷ []

length-number : (i j : ℕ) (b : Bound) → length (number i j b) ≤ 1
length-number i j None = omega arith
length-number i j (Some c) = go (eqb i j)
  where
    go : (t : Bool) → length (cond t [] (one i j c)) ≤ 1
    go true = omega arith
    go false = omega arith

length-row : (m : Matrix) (i n : ℕ) → length (row m i n) ≤ n
length-row m i zero = omega arith
length-row m i (suc n) = omega
    (arith, length-append (row m i n) (number i n (m i n)), length-row m i n, length-number i n (m i n))

length-rows : (m : Matrix) (n k : ℕ) → length (rows m n k) ≤ k * n
length-rows m n zero = omega arith
length-rows m n (suc k) = omega (arith, length-append (rows m n k) (row m k n), length-rows m n k, length-row m k n)

module _ {X : Type 0} (f : Limit → X) (m : Matrix) where
  pub row-none : (i : ℕ) (start : List X) → start ≡ start ++ map f (row m i 0)
  row-none i start = sym (append-nil start)

  -- one more place of a row
  pub row-longer : (i j : ℕ) (start out new : List X) → out ≡ start ++ map f (row m i j)
      → new ≡ out ++ map f (number i j (m i j)) → new ≡ start ++ map f (row m i (j + 1))
  row-longer i j start out new before e = e ∙ ap (λ o. o ++ map f (number i j (m i j))) before
      ∙ append_assoc start (map f (row m i j)) (map f (number i j (m i j)))
      ∙ ap (λ o. start ++ o) (sym (map-append f (row m i j) (number i j (m i j))))
      ∙ ap (λ k. start ++ map f (row m i k)) (sym (add-one j))

  -- there is room in the list
  pub row-room : (i j : ℕ) (start out : List X) → out ≡ start ++ map f (row m i j) → length start ≤ 2 ^ 30 → j ≤ 64
      → length out < 2 ^ 31
  row-room i j start out is room l = omega (
    arith,
    ap length is,
    length-append start (map f (row m i j)),
    length-map (row m i j) f,
    length-row m i j,
    room,
    l,
  )

  -- one more row
  pub rows-longer : (n k : ℕ) (out new : List X) → out ≡ map f (rows m n k) → new ≡ out ++ map f (row m k n)
      → new ≡ map f (rows m n (k + 1))
  rows-longer n k out new before e = e ∙ ap (λ o. o ++ map f (row m k n)) before
      ∙ sym (map-append f (rows m n k) (row m k n)) ∙ ap (λ j. map f (rows m n j)) (sym (add-one k))

  pub rows-room : (n k : ℕ) (out : List X) → out ≡ map f (rows m n k) → n ≤ 64 → k ≤ 64 → length out ≤ 2 ^ 30
  rows-room n k out is l h = omega
      (arith, ap length is, length-map (rows m n k) f, length-rows m n k, mul-le k n 64 64 h l)
