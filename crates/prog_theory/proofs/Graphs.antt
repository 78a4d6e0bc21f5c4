-- The points and the edges of a list of places: which place an edge or a point comes from.
use Rattle.std.proofs.Common.{◌≡◌, ℕ, zero, suc, ◌+◌, ◌-◌, ◌<◌, ◌≤◌, ◌⊎◌, inl, inr, ⊎_elim, List, [], ◌∷◌, ◌++◌, Some, None, refl, sym, ap, ◌∙◌, subst, arith, Contains, slice_get, replicate}
use Rattle.std.proofs.lemmas.List.Elements.{Contains-append_cases, Contains-append_left, Contains-append_right}
use Rattle.prog_theory.specs.Statements.{Stmt, Set, Havoc, Assume, Assert, If, While, Skip}
use Rattle.prog_theory.specs.Tests.{test, inner}
use Rattle.prog_theory.specs.Edges.{Skips, Sets, Havocs, Edge}
use Rattle.prog_theory.specs.Places.{own_inner, widths, entry, Place}
use Rattle.prog_theory.specs.Graph.{Point, Statement, Inner, Exit, points_of, own_edges, edges_of}
use Rattle.prog_theory.proofs.Elements.{Contains-cases, Contains-none, Contains-here, Contains-there, Includes}
use Rattle.prog_theory.proofs.TestExits.{edge_to_is, test_sources}
use Rattle.prog_theory.proofs.Tiles.{Tiles, Tiles-ends, within}

-- the edges of a place are edges of the list
pub edges_included : (ls : List Place) (l : Place) → Contains ls l
    → Includes (edges_of ls) (own_edges l.point l.stmt l.next)
edges_included [] l c = absurd (Contains-none l c)
edges_included (x ∷ ls) l c =
    ⊎_elim
    (λ e. record {
      has = λ y h. Contains-append_left (own_edges x.point x.stmt x.next) (edges_of ls) y
          (subst (λ (v : Place). Contains (own_edges v.point v.stmt v.next) y) e h);
    })
    (λ d. record {
      has = λ y h. Contains-append_right (own_edges x.point x.stmt x.next) (edges_of ls) y
          ((edges_included ls l d).has y h);
    })
    (Contains-cases x ls l c)

-- an edge of the list is an edge of a place
pub edge_place : (ls : List Place) (e : Edge) → Contains (edges_of ls) e
    → (l : Place) × Contains ls l × Contains (own_edges l.point l.stmt l.next) e
edge_place [] e c = absurd (Contains-none e c)
edge_place (x ∷ ls) e c =
    ⊎_elim
    (λ h. (x, (0, omega arith, refl), h))
    (λ h. let r = edge_place ls e h in (r.0, (suc r.1.0, omega (arith, r.1.1), r.1.2), r.2))
    (Contains-append_cases (own_edges x.point x.stmt x.next) (edges_of ls) e c)

test_source : (st : Stmt) (p : ℕ) (n : ℕ) → own_inner st ≡ n → (x : ℕ) → (x ≡ p) ⊎ ((p + 1 ≤ x) × (x < p + 1 + n))
    → (p ≤ x) × (x < p + 1 + own_inner st)
test_source st p n e x h = ⊎_elim (λ k. (omega arith, omega arith)) (λ k. (omega (arith, k.0), omega (arith, k.1))) h

-- an edge of a statement begins at its point or at one of its inner points
pub own_sources : (st : Stmt) (p next : ℕ) (e : Edge) → Contains (own_edges p st next) e
    → (p ≤ e.from) × (e.from < p + 1 + own_inner st)
own_sources (Set x t) p next e c = let i = edge_to_is p (Sets x t) (Some next) e c in
    (omega (arith, i.from), omega (arith, i.from))
own_sources (Havoc x) p next e c = let i = edge_to_is p (Havocs x) (Some next) e c in
    (omega (arith, i.from), omega (arith, i.from))
own_sources (Assert a) p next e c = let i = edge_to_is p Skips (Some next) e c in
    (omega (arith, i.from), omega (arith, i.from))
own_sources Skip p next e c = let i = edge_to_is p Skips (Some next) e c in
    (omega (arith, i.from), omega (arith, i.from))
own_sources (Assume t) p next e c =
    test_source (Assume t) p (inner (test t)) refl e.from (test_sources (test t) p (p + 1) (Some next) None e c)
own_sources (If t a b) p next e c =
    test_source (If t a b) p (inner (test t)) refl e.from
    (test_sources (test t) p (p + 1) (Some (entry (p + 1 + inner (test t)) a next))
    (Some (entry (p + 1 + inner (test t) + widths a) b next)) e c)
own_sources (While t a) p next e c =
    test_source (While t a) p (inner (test t)) refl e.from
    (test_sources (test t) p (p + 1) (Some (entry (p + 1 + inner (test t)) a p)) (Some next) e c)

-- behind the inner points
after_inner : (n i j : ℕ) (rest : List Point) → i ≡ n + j → slice_get (replicate n Inner ++ rest) i ≡ slice_get rest j
after_inner zero i j rest e = ap (λ (x : ℕ). slice_get rest x) (omega arith)
after_inner (suc n) zero j rest e = absurd (omega arith)
after_inner (suc n) (suc i) j rest e = after_inner n i j rest (omega arith)

past_inner : (n i : ℕ) (rest : List Point) (x : Point) → slice_get (replicate n Inner ++ rest) i ≡ Some x
    → (x ≡ Inner) ⊎ ((j : ℕ) × (i ≡ n + j) × (slice_get rest j ≡ Some x))
past_inner zero i rest x h = inr (i, omega arith, h)
past_inner (suc n) zero rest x h = inl (cc)
past_inner (suc n) (suc i) rest x h = ⊎_elim (λ k. inl k) (λ k. inr (k.0, omega (arith, k.1), k.2))
    (past_inner n i rest x h)

-- the point of a place is its statement
pub point_of_place : (lo k : ℕ) (ls : List Place) (hi j : ℕ) → Tiles lo k ls hi j → (l : Place) → Contains ls l
    → (i : ℕ) → l.point ≡ lo + i → slice_get (points_of ls) i ≡ Some (Statement l.number)
point_of_place lo k [] hi j h l c i e = absurd (Contains-none l c)
point_of_place lo k (x ∷ ls) hi j h l c zero e =
    ⊎_elim
    (λ f. ap (λ (v : Place). Some (Statement v.number)) (sym f))
    (λ d. let r = within (lo + 1 + own_inner x.stmt) (k + 1) ls hi j h.2 l d in absurd (omega (arith, r.0)))
    (Contains-cases x ls l c)
point_of_place lo k (x ∷ ls) hi j h l c (suc i) e =
    ⊎_elim
    (λ f. let p : l.point ≡ x.point = ap (λ (v : Place). v.point) f in absurd (omega (arith, h.0)))
    (λ d. let r = within (lo + 1 + own_inner x.stmt) (k + 1) ls hi j h.2 l d in
    after_inner (own_inner x.stmt) i (i - own_inner x.stmt) (points_of ls) (omega (arith, r.0))
    ∙ point_of_place (lo + 1 + own_inner x.stmt) (k + 1) ls hi j h.2 l d (i - own_inner x.stmt) (omega (arith, r.0)))
    (Contains-cases x ls l c)

-- the last point is the exit
pub exit_point : (lo k : ℕ) (ls : List Place) (hi j : ℕ) → Tiles lo k ls hi j → (i : ℕ) → hi ≡ lo + i
    → slice_get (points_of ls) i ≡ Some Exit
exit_point lo k [] hi j h zero e = refl
exit_point lo k [] hi j h (suc i) e = absurd (omega (arith, h.0))
exit_point lo k (x ∷ ls) hi j h zero e =
    let r = Tiles-ends (lo + 1 + own_inner x.stmt) (k + 1) ls hi j h.2 in absurd (omega (arith, r.0))
exit_point lo k (x ∷ ls) hi j h (suc i) e =
    let r = Tiles-ends (lo + 1 + own_inner x.stmt) (k + 1) ls hi j h.2 in
    after_inner (own_inner x.stmt) i (i - own_inner x.stmt) (points_of ls) (omega (arith, r.0))
    ∙ exit_point (lo + 1 + own_inner x.stmt) (k + 1) ls hi j h.2 (i - own_inner x.stmt) (omega (arith, r.0))

-- the exit is the last point
pub exit_is : (lo k : ℕ) (ls : List Place) (hi j : ℕ) → Tiles lo k ls hi j → (i : ℕ)
    → slice_get (points_of ls) i ≡ Some Exit → hi ≡ lo + i
exit_is lo k [] hi j h zero e = omega (arith, h.0)
exit_is lo k [] hi j h (suc i) e = cc
exit_is lo k (x ∷ ls) hi j h zero e = cc
exit_is lo k (x ∷ ls) hi j h (suc i) e =
    ⊎_elim
    (λ f. cc)
    (λ r. let d = exit_is (lo + 1 + own_inner x.stmt) (k + 1) ls hi j h.2 r.0 r.2 in omega (arith, r.1))
    (past_inner (own_inner x.stmt) i (points_of ls) Exit e)

-- a statement's point is that of the place with its number
pub statement_place : (lo k : ℕ) (ls : List Place) (hi j : ℕ) → Tiles lo k ls hi j → (i n : ℕ)
    → slice_get (points_of ls) i ≡ Some (Statement n)
    → (l : Place) × Contains ls l × (l.point ≡ lo + i) × (l.number ≡ n)
statement_place lo k [] hi j h zero n e = cc
statement_place lo k [] hi j h (suc i) n e = cc
statement_place lo k (x ∷ ls) hi j h zero n e = (x, Contains-here x ls, omega (arith, h.0), cc)
statement_place lo k (x ∷ ls) hi j h (suc i) n e =
    ⊎_elim
    (λ f. cc)
    (λ r. let d = statement_place (lo + 1 + own_inner x.stmt) (k + 1) ls hi j h.2 r.0 n r.2 in
    (d.0, Contains-there x ls d.0 d.1, omega (arith, r.1, d.2), d.3))
    (past_inner (own_inner x.stmt) i (points_of ls) (Statement n) e)
