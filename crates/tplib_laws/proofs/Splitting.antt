-- Texts that end before the first byte of some kind.
use Rattle.std.proofs.Common.{◌≡◌, ◌<◌, ◌≤◌, ℕ, List, [], ◌∷◌, ◌++◌, drop, ap, refl, arith}

-- each byte is at least m
abbrev pub AreFrom : ℕ → List ℕ → Type 0
AreFrom m [] = Unit {0}
AreFrom m (c ∷ text) = (m ≤ c) × AreFrom m text

pub AreFrom-append : (m : ℕ) (s t : List ℕ) → AreFrom m s → AreFrom m t → AreFrom m (s ++ t)
AreFrom-append m [] t h k = k
AreFrom-append m (c ∷ s) t h k = (h.0, AreFrom-append m s t h.1 k)

pub AreFrom-weaker : (m n : ℕ) (s : List ℕ) → n ≤ m → AreFrom m s → AreFrom n s
AreFrom-weaker m n [] l h = tt
AreFrom-weaker m n (c ∷ s) l h = (omega (arith, h.0), AreFrom-weaker m n s l h.1)

pub same_first : (c d : ℕ) (s t : List ℕ) → c ∷ s ≡ d ∷ t → c ≡ d
same_first c d s t e = cc

pub both_equal : (c d : ℕ) (s t : List ℕ) → c ≡ d → s ≡ t → c ∷ s ≡ d ∷ t
both_equal c d s t p q = λ i. p i ∷ q i

-- what stands before and behind the first byte b of equal texts
pub split : (m b : ℕ) (s t x y : List ℕ) → b < m → AreFrom m s → AreFrom m t → s ++ b ∷ x ≡ t ++ b ∷ y →
    (s ≡ t) × (x ≡ y)
split m b [] [] x y l h k e = (refl, ap (drop 1) e)
split m b [] (d ∷ t) x y l h k e = let p : b ≡ d = cc in absurd (omega (arith, k.0))
split m b (c ∷ s) [] x y l h k e = let p : c ≡ b = cc in absurd (omega (arith, h.0))
split m b (c ∷ s) (d ∷ t) x y l h k e =
    let p : c ≡ d = cc in
    let r = split m b s t x y l h.1 k.1 (ap (drop 1) e) in
    (both_equal c d s t p r.0, r.1)

pub no_text : (s x : List ℕ) (b : ℕ) → [] ≡ s ++ b ∷ x → ⊥
no_text [] x b e = cc
no_text (c ∷ s) x b e = cc
