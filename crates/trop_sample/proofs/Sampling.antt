-- Draws behind draws, and the sizes of samples.
-- Index: state_after-add, next_is, draw_is, size_of_sample, length-sample_of, sample_room, inequality_inside,
-- sample_next, state_next, left_next, right_next, left_length, right_length.
use Rattle.std.proofs.Common.{◌≡◌, ◌+◌, ◌*◌, ◌≤◌, ◌<◌, ◌/◌, ◌%◌, ◌==◌, ℕ, zero, suc, max, length, List, [], ◌∷◌, ◌++◌, Option, None, ℤ, pos, ◌-ℤ◌, true, false, cond, refl, ap, sym, ◌∙◌, arith}
use Rattle.std.specs.Prelude.{map}
use Rattle.std.proofs.Math.IntN.{nat_abs}
use Rattle.std.specs.List.{range_with_len}
use Rattle.std.proofs.lemmas.Int.{ints}
use Rattle.std.proofs.lemmas.List.FromFn.{map-range_with_len_more, length-map-range_with_len}
use Rattle.trop_theory.specs.Vectors.{row_size}
use Rattle.trop_theory.specs.Inequalities.{Inequality, IsIn, system_size}
use Rattle.trop_scalar.specs.MaxPlus.{max_ring, magnitude}
use Rattle.trop_sample.specs.Draws.{next_state, state_after, drawn, draw}
use Rattle.trop_sample.specs.Samples.{coefficient, left_coefficient, right_coefficient, inequality_from, sample_of}

-- ---- states
pub state_after-add : (seed a b : ℕ) → state_after (state_after seed a) b ≡ state_after seed (a + b)
state_after-add seed a zero = let e : a ≡ a + 0 = omega arith in ap (state_after seed) e
state_after-add seed a (suc b) = let e : suc (a + b) ≡ a + suc b = omega arith in
    ap next_state (state_after-add seed a b) ∙ ap (state_after seed) e

-- one more state
pub next_is : (seed i old new : ℕ) → old ≡ state_after seed i → new ≡ next_state old → new ≡ state_after seed (i + 1)
next_is seed i old new at step = let e : suc i ≡ i + 1 = omega arith in
    step ∙ ap next_state at ∙ ap (state_after seed) e

-- what it draws
pub draw_is : (seed i old new v : ℕ) → old ≡ state_after seed i → new ≡ next_state old → v ≡ drawn new →
    v ≡ draw seed (0 + i)
draw_is seed i old new v at step value = let e : i ≡ 0 + i = omega arith in
    value ∙ ap drawn (step ∙ ap next_state at) ∙ ap (draw seed) e

draw-later : (seed first i : ℕ) → draw (state_after seed first) (0 + i) ≡ draw seed (first + i)
draw-later seed first i = let e : first + suc (0 + i) ≡ suc (first + i) = omega arith in
    ap drawn (state_after-add seed first (suc (0 + i)) ∙ ap (state_after seed) e)

-- ---- coefficients
map_same : {X : Type 0} (f g : ℕ → X) (xs : List ℕ) → ((k : ℕ) → f k ≡ g k) → map f xs ≡ map g xs
map_same f g [] h = refl
map_same f g (x ∷ xs) h = ap (λ y. y ∷ map f xs) (h x) ∙ ap (λ l. g x ∷ l) (map_same f g xs h)

-- an inequality's draws begin behind those before it
inequality_from-later : (seed n first : ℕ) → inequality_from (state_after seed first) n 0 ≡ inequality_from seed n first
inequality_from-later seed n first =
    ap (λ l. let p : Inequality (Option ℤ) = record
    { left = l; right = (inequality_from (state_after seed first) n 0).right } in p)
    (map_same _ _ (range_with_len 0 n) (λ i. ap left_coefficient (draw-later seed first i)))
    ∙ ap (λ r. let p : Inequality (Option ℤ) = record { left = (inequality_from seed n first).left; right = r } in p)
    (map_same _ _ (range_with_len 0 n) (λ i. ap right_coefficient (draw-later seed first i)))

-- one coefficient more
left_more : (seed n v : ℕ) → v ≡ draw seed (0 + n) →
    (inequality_from seed (n + 1) 0).left ≡ (inequality_from seed n 0).left ++ left_coefficient v ∷ []
left_more seed n v e = map-range_with_len_more (λ i. left_coefficient (draw seed (0 + i))) 0 n n (omega arith)
    ∙ ap (λ w. (inequality_from seed n 0).left ++ left_coefficient w ∷ []) (sym e)

right_more : (seed n v : ℕ) → v ≡ draw seed (0 + n) →
    (inequality_from seed (n + 1) 0).right ≡ (inequality_from seed n 0).right ++ right_coefficient v ∷ []
right_more seed n v e = map-range_with_len_more (λ i. right_coefficient (draw seed (0 + i))) 0 n n (omega arith)
    ∙ ap (λ w. (inequality_from seed n 0).right ++ right_coefficient w ∷ []) (sym e)

-- one inequality more
sample_more : (seed vars k : ℕ) → sample_of seed vars (k + 1) ≡ sample_of seed vars k ++ inequality_from seed (vars + 1)
    (k * (vars + 1)) ∷ []
sample_more seed vars k = map-range_with_len_more (λ k. inequality_from seed (vars + 1) (k * (vars + 1))) 0 k k
    (omega arith)

-- ---- sizes
ten_less : (k : ℕ) → k < 21 → nat_abs (pos k -ℤ pos 10) ≤ 10
ten_less k h = grind (arith, ints)

coefficient_small : (v : ℕ) → magnitude (coefficient v) ≤ 10
coefficient_small v = ten_less (v / 3 % 21) (omega arith)

left_small : (v : ℕ) → magnitude (left_coefficient v) ≤ 10
left_small v = elim (v % 3 == 0) as (λ b. magnitude (cond b (coefficient v) None) ≤ 10)
    [ true ↦ coefficient_small v | false ↦ omega arith ]

right_small : (v : ℕ) → magnitude (right_coefficient v) ≤ 10
right_small v = elim (v % 3 == 1) as (λ b. magnitude (cond b (coefficient v) None) ≤ 10)
    [ true ↦ coefficient_small v | false ↦ omega arith ]

row_small : (f : ℕ → Option ℤ) (xs : List ℕ) → ((k : ℕ) → magnitude (f k) ≤ 10) → row_size max_ring (map f xs) ≤ 10
row_small f [] h = omega arith
row_small f (x ∷ xs) h = omega (arith, h x, row_small f xs h)

system_small : (f : ℕ → Inequality (Option ℤ)) (xs : List ℕ) →
    ((k : ℕ) → max (row_size max_ring (f k).left) (row_size max_ring (f k).right) ≤ 10) →
    system_size max_ring (map f xs) ≤ 10
system_small f [] h = omega arith
system_small f (x ∷ xs) h = omega (arith, h x, system_small f xs h)

sample_size : (seed vars rows : ℕ) → system_size max_ring (sample_of seed vars rows) ≤ 10
sample_size seed vars rows = system_small _ (range_with_len 0 rows) (λ k. omega (
  arith,
  row_small (λ i. left_coefficient (draw seed (k * (vars + 1) + i))) (range_with_len 0 (vars + 1))
      (λ i. left_small (draw seed (k * (vars + 1) + i))),
  row_small (λ i. right_coefficient (draw seed (k * (vars + 1) + i))) (range_with_len 0 (vars + 1))
      (λ i. right_small (draw seed (k * (vars + 1) + i))),
))

pub size_of_sample : (seed vars rows : ℕ) (system : List (Inequality (Option ℤ))) → system ≡ sample_of seed vars rows →
    system_size max_ring system ≤ 10
size_of_sample seed vars rows system e = omega (arith, ap (system_size max_ring) e, sample_size seed vars rows)

pub length-sample_of : (seed vars rows : ℕ) → length (sample_of seed vars rows) ≡ rows
length-sample_of seed vars rows = length-map-range_with_len (λ k. inequality_from seed (vars + 1) (k * (vars + 1)))
    0 rows

pub sample_room : (seed vars rows : ℕ) (system : List (Inequality (Option ℤ))) → system ≡ sample_of seed vars rows →
    length system ≡ rows
sample_room seed vars rows system e = ap length e ∙ length-sample_of seed vars rows

-- ---- lengths
length-left : (seed n first : ℕ) → length (inequality_from seed n first).left ≡ n
length-left seed n first = length-map-range_with_len (λ i. left_coefficient (draw seed (first + i))) 0 n

length-right : (seed n first : ℕ) → length (inequality_from seed n first).right ≡ n
length-right seed n first = length-map-range_with_len (λ i. right_coefficient (draw seed (first + i))) 0 n

pub inequality_inside : (seed n m : ℕ) (p : Inequality (Option ℤ)) → p ≡ inequality_from seed n 0 → m ≡ n → IsIn m p
inequality_inside seed n m p e f = record {
  left = ap (λ q. length q.left) e ∙ length-left seed n 0 ∙ sym f;
  right = ap (λ q. length q.right) e ∙ length-right seed n 0 ∙ sym f;
}

-- one inequality more, from the state behind those before it
pub sample_next : (seed vars k state : ℕ) (system next : List (Inequality (Option ℤ))) (p : Inequality (Option ℤ)) →
    system ≡ sample_of seed vars k → state ≡ state_after seed (k * (vars + 1)) →
    p ≡ inequality_from state (vars + 1) 0 → next ≡ system ++ p ∷ [] → next ≡ sample_of seed vars (k + 1)
sample_next seed vars k state system next p at here is more =
    more
    ∙ ap (λ s. s ++ p ∷ []) at
    ∙ ap (λ q. sample_of seed vars k ++ q ∷ []) (is ∙ ap (λ s. inequality_from s (vars + 1) 0) here
    ∙ inequality_from-later seed (vars + 1) (k * (vars + 1)))
    ∙ sym (sample_more seed vars k)

pub state_next : (seed n k state next : ℕ) → state ≡ state_after seed (k * n) → next ≡ state_after state n →
    next ≡ state_after seed ((k + 1) * n)
state_next seed n k state next at step = let e : k * n + n ≡ (k + 1) * n = omega arith in
    step ∙ ap (λ s. state_after s n) at ∙ state_after-add seed (k * n) n ∙ ap (state_after seed) e

-- one coefficient more, from what a draw gave
pub left_next : (seed i v : ℕ) (c : Option ℤ) (old new : List (Option ℤ)) → v ≡ draw seed (0 + i) →
    c ≡ left_coefficient v → old ≡ (inequality_from seed i 0).left → new ≡ old ++ c ∷ [] →
    new ≡ (inequality_from seed (i + 1) 0).left
left_next seed i v c old new drawn is at more = more ∙ ap (λ l. l ++ c ∷ []) at
    ∙ ap (λ d. (inequality_from seed i 0).left ++ d ∷ []) is ∙ sym (left_more seed i v drawn)

pub right_next : (seed i v : ℕ) (c : Option ℤ) (old new : List (Option ℤ)) → v ≡ draw seed (0 + i) →
    c ≡ right_coefficient v → old ≡ (inequality_from seed i 0).right → new ≡ old ++ c ∷ [] →
    new ≡ (inequality_from seed (i + 1) 0).right
right_next seed i v c old new drawn is at more = more ∙ ap (λ l. l ++ c ∷ []) at
    ∙ ap (λ d. (inequality_from seed i 0).right ++ d ∷ []) is ∙ sym (right_more seed i v drawn)

pub left_length : (seed i : ℕ) (l : List (Option ℤ)) → l ≡ (inequality_from seed i 0).left → length l ≡ i
left_length seed i l e = ap length e ∙ length-left seed i 0

pub right_length : (seed i : ℕ) (l : List (Option ℤ)) → l ≡ (inequality_from seed i 0).right → length l ≡ i
right_length seed i l e = ap length e ∙ length-right seed i 0
