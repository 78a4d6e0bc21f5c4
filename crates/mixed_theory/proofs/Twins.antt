-- The coordinates and terms of a state that is doubled, and what a change of one of its numbers does to it.
use Rattle.std.proofs.Common.{◌≡◌, ◌<◌, ◌≤◌, ◌+◌, ◌-◌, ◌*◌, ◌/◌, ℕ, zero, suc, ℤ, pos, ◌+ℤ◌, neg_ℤ, ◌++◌, map, length, set, sym, ap, ◌∙◌, refl, arith}
use Rattle.std.specs.Prelude.{◌≤ℤ◌}
use Rattle.std.proofs.lemmas.Int.{ints}
use Rattle.std.proofs.lemmas.List.{length-append, length-map, length-set, get_or_append_left, get_or-append-add, get_or-map, get_or-set_other, map-set, set-append_left, set-append_right}
use Rattle.prog_theory.specs.States.{State, Term, value, coordinate, changed}
use Rattle.mixed_theory.specs.Twins.{twin, opposite, opposite_term}

pub length-twin : (s : State) → length (twin s) ≡ 2 * length s
length-twin s = omega (arith, length-append s (map neg_ℤ s), length-map s neg_ℤ)

pub half_of_double : (d : ℕ) → 2 * d / 2 ≡ d
half_of_double d = omega arith

-- a doubled state has half as many numbers as coordinates behind 0
pub half_of_twin : (s : State) (n : ℕ) → length (twin s) ≡ n → n / 2 ≡ length s
half_of_twin s n e = omega (arith, e, length-twin s)

pub opposite_within : (d j n : ℕ) → 2 * d ≤ n → j ≤ d → opposite d j ≤ n
opposite_within d zero n h l = omega arith
opposite_within d (suc i) n h l = omega arith

neg_sum : (a b : ℤ) → neg_ℤ a +ℤ neg_ℤ b ≡ neg_ℤ (a +ℤ b)
neg_sum a b = omega (arith, ints)

pub neg_falls : (y z : ℤ) → y ≤ℤ z → neg_ℤ z ≤ℤ neg_ℤ y
neg_falls y z h = omega (arith, ints)

-- the coordinates of the state, and their opposites
pub coordinate-twin : (s : State) (j : ℕ) → j ≤ length s → coordinate (twin s) j ≡ coordinate s j
coordinate-twin s zero l = refl
coordinate-twin s (suc i) l = get_or_append_left s (map neg_ℤ s) (pos 0) i (omega arith)

pub coordinate-opposite : (s : State) (j : ℕ) → j ≤ length s
    → coordinate (twin s) (opposite (length s) j) ≡ neg_ℤ (coordinate s j)
coordinate-opposite s zero l = refl
coordinate-opposite s (suc i) l =
    let e : length s + suc i ≡ suc (length s + i) = omega arith in
    ap (coordinate (twin s)) e
    ∙ get_or-append-add s (map neg_ℤ s) i (pos 0)
    ∙ get_or-map neg_ℤ s i (pos 0) (pos 0) (omega arith)

-- the values of terms
pub value-twin : (s : State) (t : Term) → t.coord ≤ length s → value t (twin s) ≡ value t s
value-twin s t l = ap (λ c. c +ℤ t.add) (coordinate-twin s t.coord l)

pub value-opposite : (s : State) (t : Term) → t.coord ≤ length s
    → value (opposite_term (length s) t) (twin s) ≡ neg_ℤ (value t s)
value-opposite s t l = ap (λ c. c +ℤ neg_ℤ t.add) (coordinate-opposite s t.coord l)
    ∙ neg_sum (coordinate s t.coord) t.add

-- to change a number of the state changes the opposite of none
coordinate_kept : (s : State) (x : ℕ) (v : ℤ) (j : ℕ) → x ≤ length s
    → coordinate (changed (twin s) x v) (opposite (length s) j) ≡ coordinate (twin s) (opposite (length s) j)
coordinate_kept s zero v j l = refl
coordinate_kept s (suc i) v zero l = refl
coordinate_kept s (suc i) v (suc k) l =
    let e : length s + suc k ≡ suc (length s + k) = omega arith in
    ap (coordinate (changed (twin s) (suc i) v)) e
    ∙ get_or-set_other (twin s) i (length s + k) v (pos 0) (λ h. omega arith)
    ∙ sym (ap (coordinate (twin s)) e)

pub value_kept : (s : State) (x : ℕ) (v : ℤ) (t : Term) → x ≤ length s
    → value (opposite_term (length s) t) (changed (twin s) x v) ≡ value (opposite_term (length s) t) (twin s)
value_kept s x v t l = ap (λ c. c +ℤ neg_ℤ t.add) (coordinate_kept s x v t.coord l)

-- where a number of the state changes, so do two of the doubled state
pub twin-changed : (s : State) (x : ℕ) (v : ℤ) → 0 < x → x ≤ length s
    → twin (changed s x v) ≡ changed (changed (twin s) x v) (opposite (length s) x) (neg_ℤ v)
twin-changed s zero v some l = absurd (omega arith)
twin-changed s (suc i) v some l =
    let d = length s in
    let e : d + suc i ≡ suc (d + i) = omega arith in
    let back : d + i - d ≡ i = omega arith in
    ap (λ r. set s i v ++ r) (map-set neg_ℤ s i v ∙ ap (λ k. set (map neg_ℤ s) k (neg_ℤ v)) (sym back))
    ∙ sym (set-append_right (set s i v) (map neg_ℤ s) d (d + i) (neg_ℤ v) (length-set s i v) (omega arith))
    ∙ ap (λ r. set r (d + i) (neg_ℤ v)) (sym (set-append_left s (map neg_ℤ s) i v (omega arith)))
    ∙ sym (ap (λ k. changed (changed (twin s) (suc i) v) k (neg_ℤ v)) e)
