-- States with given differences, and their coordinates.
use Rattle.std.proofs.Common.{◌≡◌, ◌≢◌, ◌≤◌, ◌<◌, ℕ, zero, suc, ℤ, pos, ◌-ℤ◌, [], ◌∷◌, length, get_or, refl, ap, arith, length-set, get_or-set_same, get_or-set_other}
use Rattle.std.proofs.lemmas.Int.{ints}
use Rattle.prog_theory.specs.States.{State, coordinate, changed}
use Rattle.zone_theory.specs.Matrices.{difference}

-- the first n values of a function
values : (ℕ → ℤ) → ℕ → State
values g zero = []
values g (suc n) = g 0 ∷ values (λ i. g (suc i)) n

length-values : (g : ℕ → ℤ) (n : ℕ) → length (values g n) ≡ n
unfolding values
length-values g zero = refl
length-values g (suc n) = ap suc (length-values (λ i. g (suc i)) n)

get_or-values : (g : ℕ → ℤ) (n i : ℕ) → i < n → get_or (values g n) i (pos 0) ≡ g i
unfolding values
get_or-values g zero i h = absurd (omega arith)
get_or-values g (suc n) zero h = refl
get_or-values g (suc n) (suc i) h = get_or-values (λ k. g (suc k)) n i (omega arith)

-- the state whose coordinates differ as the values of f do
pub state_of : ℕ → (ℕ → ℤ) → State
state_of d f = values (λ i. f (suc i) -ℤ f 0) d

pub length-state_of : (d : ℕ) (f : ℕ → ℤ) → length (state_of d f) ≡ d
unfolding state_of
length-state_of d f = length-values (λ i. f (suc i) -ℤ f 0) d

coordinate-state_of : (d : ℕ) (f : ℕ → ℤ) (i : ℕ) → i ≤ d → coordinate (state_of d f) i ≡ f i -ℤ f 0
unfolding state_of
coordinate-state_of d f zero h = omega (arith, ints)
coordinate-state_of d f (suc i) h = get_or-values (λ i. f (suc i) -ℤ f 0) d i (omega arith)

pub difference-state_of : (d : ℕ) (f : ℕ → ℤ) (i j : ℕ) → i ≤ d → j ≤ d → difference (state_of d f) i j ≡ f i -ℤ f j
difference-state_of d f i j hi hj = let p = coordinate-state_of d f i hi in let q =
    coordinate-state_of d f j hj in omega (arith, ints)

pub length-changed : (s : State) (x : ℕ) (v : ℤ) → length (changed s x v) ≡ length s
length-changed s zero v = refl
length-changed s (suc i) v = length-set s i v

pub coordinate-changed_same : (s : State) (x : ℕ) (v : ℤ) → x ≢ 0 → x ≤ length s → coordinate (changed s x v) x ≡ v
coordinate-changed_same s zero v n h = absurd (n refl)
coordinate-changed_same s (suc i) v n h = get_or-set_same s i v (pos 0) (omega arith)

pub coordinate-changed_other : (s : State) (x : ℕ) (v : ℤ) (i : ℕ) → i ≢ x
    → coordinate (changed s x v) i ≡ coordinate s i
coordinate-changed_other s zero v i n = refl
coordinate-changed_other s (suc x) v zero n = refl
coordinate-changed_other s (suc x) v (suc i) n = get_or-set_other s x i v (pos 0) (λ e. n (ap suc e))
