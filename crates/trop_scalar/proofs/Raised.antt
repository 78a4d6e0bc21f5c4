-- Vectors of words of elements of the max-plus semiring.
use Rattle.std.proofs.Common.{◌≡◌, ◌≤◌, ◌+◌, ◌%◌, ◌^◌, ℕ, zero, suc, not, eqb, List, [], ◌∷◌, map, length, replicate, ap, ap₂, refl, arith, w64}
use Rattle.std.specs.Prelude.{ℤ, int_lt, bit_and}
use Rattle.std.specs.Simd.Lanes.{top, zip2, sel_l}
use mir.Val.{to_z, of_z}
use Rattle.trop_theory.specs.Sizes.{most_element}
use Rattle.trop_theory.specs.Vectors.{joined, row_size}
use Rattle.trop_theory.specs.MaxPlus.{max_ring}
use Rattle.trop_scalar.specs.Words.{word_value}
use Rattle.trop_scalar.specs.Sums.{products}
use Rattle.trop_scalar.proofs.Words.{mask, lane_value}

-- the lanes of b after a step by the lanes of x and y, n of each
abbrev pub raised_lanes : ℕ → List ℤ → List ℤ → List ℤ → List ℤ
raised_lanes n b x y =
    let u = map (of_z w64) b in
    let v = map (of_z w64) x in
    let w = map (of_z w64) y in
    let s = zip2 (λ (a b : ℕ). (a + b) % 2 ^ 64) v w in
    let differs : ℕ → ℕ → ℕ = λ a b. mask (not (eqb a b)) in
    let rises =
    zip2 bit_and (zip2 bit_and (zip2 differs v (replicate n (2 ^ 63))) (zip2 differs w (replicate n (2 ^ 63))))
    (zip2 (λ (a b : ℕ). mask (int_lt (to_z w64 a) (to_z w64 b))) u s) in
    map (to_z w64) (sel_l (map (top 63) rises) s u)

pub raised_values : (n : ℕ) (b x y : List ℤ) → length b ≡ n → length x ≡ n → length y ≡ n →
    row_size max_ring (map word_value b) ≤ most_element →
    row_size max_ring (map word_value x) + row_size max_ring (map word_value y) ≤ most_element →
    map word_value (raised_lanes n b x y) ≡
    joined max_ring (map word_value b) (products max_ring (map word_value x) (map word_value y))
raised_values zero [] [] [] p q r h k = refl
raised_values zero (a ∷ b) x y p q r h k = absurd (omega arith)
raised_values zero [] (a ∷ x) y p q r h k = absurd (omega arith)
raised_values zero [] [] (a ∷ y) p q r h k = absurd (omega arith)
raised_values (suc n) [] x y p q r h k = absurd (omega arith)
raised_values (suc n) (a ∷ b) [] y p q r h k = absurd (omega arith)
raised_values (suc n) (a ∷ b) (c ∷ x) [] p q r h k = absurd (omega arith)
raised_values (suc n) (a ∷ b) (c ∷ x) (d ∷ y) p q r h k =
    ap₂ ◌∷◌ (lane_value a c d (omega arith) (omega arith))
    (raised_values n b x y (omega arith) (omega arith) (omega arith) (omega arith) (omega arith))

pub length-raised : (n : ℕ) (b x y : List ℤ) → length b ≡ n → length x ≡ n → length y ≡ n →
    length (raised_lanes n b x y) ≡ n
length-raised zero [] [] [] p q r = refl
length-raised zero (a ∷ b) x y p q r = absurd (omega arith)
length-raised zero [] (a ∷ x) y p q r = absurd (omega arith)
length-raised zero [] [] (a ∷ y) p q r = absurd (omega arith)
length-raised (suc n) [] x y p q r = absurd (omega arith)
length-raised (suc n) (a ∷ b) [] y p q r = absurd (omega arith)
length-raised (suc n) (a ∷ b) (c ∷ x) [] p q r = absurd (omega arith)
length-raised (suc n) (a ∷ b) (c ∷ x) (d ∷ y) p q r =
    ap suc (length-raised n b x y (omega arith) (omega arith) (omega arith))
