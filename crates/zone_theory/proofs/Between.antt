-- A number between lower and upper bounds.
use Rattle.std.proofs.Common.{⊎_elim, ℕ, ℤ, pos, ◌+ℤ◌, ◌-ℤ◌, ◌≤ℤ◌, List, [], ◌∷◌, Some, None, sym, subst, arith, Contains}
use Rattle.std.specs.Int.{int_min, int_max}
use Rattle.std.proofs.lemmas.Int.{ints, clamps}
use Rattle.prog_theory.proofs.Elements.{Contains-none, Contains-here, Contains-there, Contains-cases}
use Rattle.zone_theory.specs.Bounds.{Bound, IsAtMost}
use Rattle.zone_theory.proofs.Bounds.{le_same}

-- v raised so that x - v keeps the bound
raise : Bound → ℤ → ℤ → ℤ
raise None x v = v
raise (Some a) x v = int_max v (x -ℤ a)

-- v lowered so that v - x keeps the bound
lower : Bound → ℤ → ℤ → ℤ
lower None x v = v
lower (Some b) x v = int_min v (x +ℤ b)

raise-above : (o : Bound) (x v : ℤ) → v ≤ℤ raise o x v
unfolding raise
raise-above None x v = le_same v
raise-above (Some a) x v = omega (arith, ints, clamps)

raise-keeps : (o : Bound) (x v a : ℤ) → IsAtMost o a → (x -ℤ a) ≤ℤ raise o x v
unfolding raise
raise-keeps None x v a h = absurd h
raise-keeps (Some c) x v a h = omega (arith, ints, clamps)

raise-below : (o : Bound) (x v t : ℤ) → v ≤ℤ t → ((a : ℤ) → IsAtMost o a → (x -ℤ a) ≤ℤ t) → raise o x v ≤ℤ t
unfolding raise
raise-below None x v t h k = h
raise-below (Some a) x v t h k = let q : (x -ℤ a) ≤ℤ t = k a (le_same a) in omega (arith, ints, clamps)

lower-below : (o : Bound) (x v : ℤ) → lower o x v ≤ℤ v
unfolding lower
lower-below None x v = le_same v
lower-below (Some a) x v = omega (arith, ints, clamps)

lower-keeps : (o : Bound) (x v b : ℤ) → IsAtMost o b → lower o x v ≤ℤ (x +ℤ b)
unfolding lower
lower-keeps None x v b h = absurd h
lower-keeps (Some c) x v b h = omega (arith, ints, clamps)

lower-above : (o : Bound) (x v t : ℤ) → t ≤ℤ v → ((b : ℤ) → IsAtMost o b → t ≤ℤ (x +ℤ b)) → t ≤ℤ lower o x v
unfolding lower
lower-above None x v t h k = h
lower-above (Some b) x v t h k = let q : t ≤ℤ (x +ℤ b) = k b (le_same b) in omega (arith, ints, clamps)

le_trans : (x y z : ℤ) → x ≤ℤ y → y ≤ℤ z → x ≤ℤ z
le_trans x y z h k = omega (arith, ints)

-- v is at least f l - lo l and at most f l + hi l for each l of the list
pub record IsBetween (lo hi : ℕ → Bound) (f : ℕ → ℤ) (K : List ℕ) (v : ℤ) : Type 0 where
  pub above : (l : ℕ) → Contains K l → (a : ℤ) → IsAtMost (lo l) a → (f l -ℤ a) ≤ℤ v
  pub below : (l : ℕ) → Contains K l → (b : ℤ) → IsAtMost (hi l) b → v ≤ℤ (f l +ℤ b)

-- Where each lower bound is at most each upper one, some number is between them.
pub between : (lo hi : ℕ → Bound) (f : ℕ → ℤ) (K : List ℕ)
    → ((l k : ℕ) → Contains K l → Contains K k → (a b : ℤ) → IsAtMost (lo l) a → IsAtMost (hi k) b
    → (f l -ℤ a) ≤ℤ (f k +ℤ b)) → (v : ℤ) × IsBetween lo hi f K v
between lo hi f [] h =
    (pos 0, record { above = λ l c. absurd (Contains-none l c); below = λ l c. absurd (Contains-none l c) })
between lo hi f (x ∷ K) h =
    go (between lo hi f K (λ l k cl ck. h l k (Contains-there x K l cl) (Contains-there x K k ck)))
  where
    here : Contains (x ∷ K) x
    here = Contains-here x K

    go : (v : ℤ) × IsBetween lo hi f K v → (v : ℤ) × IsBetween lo hi f (x ∷ K) v
    go r = (lower (hi x) (f x) up, record { above = up_all; below = down_all })
      where
        up : ℤ
        up = raise (lo x) (f x) r.0

        lifted : (l : ℕ) → Contains (x ∷ K) l → (a : ℤ) → IsAtMost (lo l) a → (f l -ℤ a) ≤ℤ up
        lifted l c a k = ⊎_elim
            (λ e. subst (λ y. (f y -ℤ a) ≤ℤ up) (sym e)
            (raise-keeps (lo x) (f x) r.0 a (subst (λ y. IsAtMost (lo y) a) e k)))
            (λ q. le_trans _ _ _ (r.1.above l q a k) (raise-above (lo x) (f x) r.0))
            (Contains-cases x K l c)

        up_all : (l : ℕ) → Contains (x ∷ K) l → (a : ℤ) → IsAtMost (lo l) a → (f l -ℤ a) ≤ℤ lower (hi x) (f x) up
        up_all l c a k = lower-above (hi x) (f x) up (f l -ℤ a) (lifted l c a k) (λ b kb. h l x c here a b k kb)

        down_all : (l : ℕ) → Contains (x ∷ K) l → (b : ℤ) → IsAtMost (hi l) b → lower (hi x) (f x) up ≤ℤ (f l +ℤ b)
        down_all l c b k = ⊎_elim
            (λ e. subst (λ y. lower (hi x) (f x) up ≤ℤ (f y +ℤ b)) (sym e)
            (lower-keeps (hi x) (f x) up b (subst (λ y. IsAtMost (hi y) b) e k)))
            (λ q. le_trans _ _ _ (lower-below (hi x) (f x) up)
            (raise-below (lo x) (f x) r.0 (f l +ℤ b) (r.1.below l q b k) (λ a ka. h x l here c a b ka k)))
            (Contains-cases x K l c)
