-- The places of a program lie one after another, without gaps: each takes its own point and its inner points. So a
-- point belongs to one place, and a number too.
use Rattle.std.proofs.Common.{◌≡◌, ℕ, ◌+◌, ◌<◌, ◌≤◌, ⊎_elim, List, [], ◌∷◌, ◌++◌, refl, sym, ap, ◌∙◌, subst, arith, Contains}
use Rattle.prog_theory.specs.Statements.{Stmt, Set, Havoc, Assume, Assert, If, While, Skip, Block, Empty, Then}
use Rattle.prog_theory.specs.Numbering.{count, counts}
use Rattle.prog_theory.specs.Tests.{test, inner}
use Rattle.prog_theory.specs.Places.{own_inner, width, widths, entry, Place, places, places_of}
use Rattle.prog_theory.proofs.Elements.{Contains-cases, Contains-none}

-- the places take the points from lo up to hi, and the numbers from k up to j
abbrev pub Tiles : ℕ → ℕ → List Place → ℕ → ℕ → Type 0
Tiles lo k [] hi j = (lo ≡ hi) × (k ≡ j)
Tiles lo k (l ∷ ls) hi j = (l.point ≡ lo) × (l.number ≡ k) × Tiles (lo + 1 + own_inner l.stmt) (k + 1) ls hi j

Tiles-moved : (lo k : ℕ) (ls : List Place) (hi j hi' j' : ℕ) → hi ≡ hi' → j ≡ j' → Tiles lo k ls hi j
    → Tiles lo k ls hi' j'
Tiles-moved lo k ls hi j hi' j' e f h = subst (λ (x : ℕ). Tiles lo k ls hi' x) f
    (subst (λ (x : ℕ). Tiles lo k ls x j) e h)

Tiles-begun : (lo k : ℕ) (ls : List Place) (hi j lo' k' : ℕ) → lo ≡ lo' → k ≡ k' → Tiles lo k ls hi j
    → Tiles lo' k' ls hi j
Tiles-begun lo k ls hi j lo' k' e f h = subst (λ (x : ℕ). Tiles lo' x ls hi j) f
    (subst (λ (x : ℕ). Tiles x k ls hi j) e h)

Tiles-append : (lo k : ℕ) (xs : List Place) (mid i : ℕ) (ys : List Place) (hi j : ℕ) → Tiles lo k xs mid i
    → Tiles mid i ys hi j → Tiles lo k (xs ++ ys) hi j
Tiles-append lo k [] mid i ys hi j h g = Tiles-begun mid i ys hi j lo k (sym h.0) (sym h.1) g
Tiles-append lo k (x ∷ xs) mid i ys hi j h g = (
  h.0,
  h.1,
  Tiles-append (lo + 1 + own_inner x.stmt) (k + 1) xs mid i ys
      hi j h.2 g,
)

mutual
  pub places_tile : (p k : ℕ) (st : Stmt) (next : ℕ) → Tiles p k (places p k st next) (p + width st) (k + count st)
  places_tile p k (If c a b) next = (
    refl,
    refl,
    Tiles-moved (p + 1 + inner (test c)) (k + 1)
        (places_of (p + 1 + inner (test c)) (k + 1) a next ++ places_of (p + 1 + inner (test c) + widths a)
        (k + 1 + counts a) b next)
        (p + 1 + inner (test c) + widths a + widths b) (k + 1 + counts a + counts b) (p + width (If c a b))
        (k + count (If c a b))
        (omega arith) (omega arith)
        (Tiles-append (p + 1 + inner (test c)) (k + 1) (places_of (p + 1 + inner (test c)) (k + 1) a next)
        (p + 1 + inner (test c) + widths a) (k + 1 + counts a)
        (places_of (p + 1 + inner (test c) + widths a) (k + 1 + counts a) b next)
        (p + 1 + inner (test c) + widths a + widths b) (k + 1 + counts a + counts b)
        (places_of_tile (p + 1 + inner (test c)) (k + 1) a next)
        (places_of_tile (p + 1 + inner (test c) + widths a) (k + 1 + counts a) b next)),
  )
  places_tile p k (While c a) next = (
    refl,
    refl,
    Tiles-moved (p + 1 + inner (test c)) (k + 1) (places_of (p + 1 + inner (test c)) (k + 1) a p)
        (p + 1 + inner (test c) + widths a) (k + 1 + counts a) (p + width (While c a)) (k + count (While c a))
        (omega arith) (omega arith)
        (places_of_tile (p + 1 + inner (test c)) (k + 1) a p),
  )
  places_tile p k (Assume c) next = (refl, refl, (omega arith, refl))
  places_tile p k (Set x t) next = (refl, refl, (omega arith, refl))
  places_tile p k (Havoc x) next = (refl, refl, (omega arith, refl))
  places_tile p k (Assert c) next = (refl, refl, (omega arith, refl))
  places_tile p k Skip next = (refl, refl, (omega arith, refl))

  pub places_of_tile : (p k : ℕ) (b : Block) (next : ℕ) → Tiles p k (places_of p k b next) (p + widths b) (k + counts b)
  places_of_tile p k Empty next = (omega arith, omega arith)
  places_of_tile p k (Then st b) next =
      Tiles-moved p k (places p k st (entry (p + width st) b next) ++ places_of (p + width st) (k + count st) b next)
      (p + width st + widths b) (k + count st + counts b) (p + widths (Then st b)) (k + counts (Then st b))
      (omega arith) (omega arith)
      (Tiles-append p k (places p k st (entry (p + width st) b next)) (p + width st) (k + count st)
      (places_of (p + width st) (k + count st) b next) (p + width st + widths b) (k + count st + counts b)
      (places_tile p k st (entry (p + width st) b next))
      (places_of_tile (p + width st) (k + count st) b next))

-- the point x is the place's point or one of its inner points
pub record IsIn (l : Place) (x : ℕ) : Type 0 where
  pub from : l.point ≤ x
  pub below : x < l.point + 1 + own_inner l.stmt

pub Tiles-ends : (lo k : ℕ) (ls : List Place) (hi j : ℕ) → Tiles lo k ls hi j → (lo ≤ hi) × (k ≤ j)
Tiles-ends lo k [] hi j h = (omega (arith, h.0), omega (arith, h.1))
Tiles-ends lo k (l ∷ ls) hi j h = let r = Tiles-ends (lo + 1 + own_inner l.stmt) (k + 1) ls hi j h.2 in
    (omega (arith, r.0), omega (arith, r.1))

-- a place lies within the points and the numbers
pub within : (lo k : ℕ) (ls : List Place) (hi j : ℕ) → Tiles lo k ls hi j → (l : Place) → Contains ls l
    → (lo ≤ l.point) × (l.point + 1 + own_inner l.stmt ≤ hi) × (k ≤ l.number) × (l.number < j)
within lo k [] hi j h l c = absurd (Contains-none l c)
within lo k (x ∷ ls) hi j h l c =
    ⊎_elim
    (λ e. let p = ap (λ (y : Place). y.point) e in
    let w = ap (λ (y : Place). own_inner y.stmt) e in
    let n = ap (λ (y : Place). y.number) e in
    let r = Tiles-ends (lo + 1 + own_inner x.stmt) (k + 1) ls hi j h.2 in
    (omega (arith, p, h.0), omega (arith, p, w, h.0, r.0), omega (arith, n, h.1), omega (arith, n, h.1, r.1)))
    (λ d. let r = within (lo + 1 + own_inner x.stmt) (k + 1) ls hi j h.2 l d in
    (omega (arith, r.0), r.1, omega (arith, r.2), r.3))
    (Contains-cases x ls l c)

-- a point belongs to one place
pub one_place : (lo k : ℕ) (ls : List Place) (hi j : ℕ) → Tiles lo k ls hi j → (l m : Place) (x : ℕ) → Contains ls l
    → Contains ls m → IsIn l x → IsIn m x → l ≡ m
one_place lo k [] hi j h l m x c d i g = absurd (Contains-none l c)
one_place lo k (y ∷ ls) hi j h l m x c d i g =
    let w = λ (z : Place) (e : Contains ls z). within (lo + 1 + own_inner y.stmt) (k + 1) ls hi j h.2 z e in
    let clash = λ (z o : Place) (e : z ≡ y) (f : Contains ls o) (iz : IsIn z x) (io : IsIn o x).
    let p : z.point ≡ y.point = ap (λ (v : Place). v.point) e in
    let q : own_inner z.stmt ≡ own_inner y.stmt = ap (λ (v : Place). own_inner v.stmt) e in
    let r : ⊥ = omega (arith, p, q, h.0, (w o f).0, iz.below, io.from) in r in
    ⊎_elim
    (λ e. ⊎_elim (λ f. e ∙ sym f) (λ f. absurd (clash l m e f i g)) (Contains-cases y ls m d))
    (λ e. ⊎_elim (λ f. absurd (clash m l f e g i)) (λ f. one_place (lo + 1 + own_inner y.stmt) (k + 1) ls hi j h.2 l m
    x e f i g) (Contains-cases y ls m d))
    (Contains-cases y ls l c)

-- a number belongs to one place
pub one_number : (lo k : ℕ) (ls : List Place) (hi j : ℕ) → Tiles lo k ls hi j → (l m : Place) → Contains ls l
    → Contains ls m → l.number ≡ m.number → l ≡ m
one_number lo k [] hi j h l m c d e = absurd (Contains-none l c)
one_number lo k (y ∷ ls) hi j h l m c d e =
    let w = λ (z : Place) (f : Contains ls z). within (lo + 1 + own_inner y.stmt) (k + 1) ls hi j h.2 z f in
    let clash = λ (z o : Place) (f : z ≡ y) (g : Contains ls o) (s : z.number ≡ o.number).
    let p : z.number ≡ y.number = ap (λ (v : Place). v.number) f in
    let r : ⊥ = omega (arith, p, h.1, (w o g).2, s) in r in
    ⊎_elim
    (λ f. ⊎_elim (λ g. f ∙ sym g) (λ g. absurd (clash l m f g e)) (Contains-cases y ls m d))
    (λ f. ⊎_elim (λ g. absurd (clash m l g f (sym e)))
    (λ g. one_number (lo + 1 + own_inner y.stmt) (k + 1) ls hi j h.2 l m f g e) (Contains-cases y ls m d))
    (Contains-cases y ls l c)
