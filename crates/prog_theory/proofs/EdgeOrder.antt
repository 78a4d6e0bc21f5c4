-- The edges of the graph stand in the order of the points where they begin.
use Rattle.std.proofs.Common.{ℕ, ◌+◌, ◌≤◌, List, [], ◌∷◌, ◌++◌, Option, Some, None, subst, arith}
use Rattle.prog_theory.specs.Statements.{Stmt, Set, Havoc, Assume, Assert, If, While, Skip, Program}
use Rattle.prog_theory.specs.Numbering.{counts}
use Rattle.prog_theory.specs.Tests.{Test, Choice, Guard, Negated, Both, Either, above, inner, test}
use Rattle.prog_theory.specs.Edges.{Op, Skips, Sets, Havocs, Guards, Edge, edge_to, test_edges}
use Rattle.prog_theory.specs.Places.{own_inner, widths, entry, Place}
use Rattle.prog_theory.specs.Graph.{own_edges, edges_of, program_places, edges}
use Rattle.prog_theory.proofs.Tiles.{Tiles, places_of_tile}

-- the edges begin at points from lo to hi, each not below the one before
abbrev pub Ascends : ℕ → List Edge → ℕ → Type 0
Ascends lo [] hi = lo ≤ hi
Ascends lo (e ∷ es) hi = (lo ≤ e.from) × Ascends e.from es hi

ascends_from : (lo lo' : ℕ) (es : List Edge) (hi : ℕ) → lo ≤ lo' → Ascends lo' es hi → Ascends lo es hi
ascends_from lo lo' [] hi l h = omega arith
ascends_from lo lo' (e ∷ es) hi l h = (omega (arith, h.0), h.1)

ascends_append : (lo : ℕ) (xs : List Edge) (mid : ℕ) (ys : List Edge) (hi : ℕ) → Ascends lo xs mid → Ascends mid ys hi
    → Ascends lo (xs ++ ys) hi
ascends_append lo [] mid ys hi h g = ascends_from lo mid ys hi h g
ascends_append lo (x ∷ xs) mid ys hi h g = (h.0, ascends_append x.from xs mid ys hi h.1 g)

ascends_to : (lo : ℕ) (es : List Edge) (hi hi' : ℕ) → hi ≤ hi' → Ascends lo es hi → Ascends lo es hi'
ascends_to lo [] hi hi' l h = omega arith
ascends_to lo (e ∷ es) hi hi' l h = (h.0, ascends_to e.from es hi hi' l h.1)

edge_to_ascends : (f : ℕ) (op : Op) (o : Option ℕ) → Ascends f (edge_to f op o) f
edge_to_ascends f op None = omega arith
edge_to_ascends f op (Some t) = (omega arith, omega arith)

test_ascends : (t : Test) (f m : ℕ) (hit miss : Option ℕ) → f ≤ m → Ascends f (test_edges t f m hit miss) (m + inner t)
test_ascends Choice f m hit miss l =
    ascends_to f (edge_to f Skips hit ++ edge_to f Skips miss) f (m + 0) (omega arith)
    (ascends_append f (edge_to f Skips hit) f (edge_to f Skips miss) f (edge_to_ascends f Skips hit)
    (edge_to_ascends f Skips miss))
test_ascends (Guard p q) f m hit miss l =
    ascends_to f (edge_to f (Guards p q) hit ++ edge_to f (Guards (above q) p) miss) f (m + 0) (omega arith)
    (ascends_append f (edge_to f (Guards p q) hit) f (edge_to f (Guards (above q) p) miss) f
    (edge_to_ascends f (Guards p q) hit) (edge_to_ascends f (Guards (above q) p) miss))
test_ascends (Negated a) f m hit miss l = test_ascends a f m miss hit l
test_ascends (Both a b) f m hit miss l =
    ascends_append f (test_edges a f m (Some (m + inner a)) miss) (m + inner a)
    (test_edges b (m + inner a) (m + inner a + 1) hit miss) (m + inner (Both a b))
    (test_ascends a f m (Some (m + inner a)) miss l)
    (ascends_to (m + inner a) (test_edges b (m + inner a) (m + inner a + 1) hit miss) (m + inner a + 1 + inner b)
    (m + inner (Both a b)) (omega arith)
    (test_ascends b (m + inner a) (m + inner a + 1) hit miss (omega arith)))
test_ascends (Either a b) f m hit miss l =
    ascends_append f (test_edges a f m hit (Some (m + inner a))) (m + inner a)
    (test_edges b (m + inner a) (m + inner a + 1) hit miss) (m + inner (Either a b))
    (test_ascends a f m hit (Some (m + inner a)) l)
    (ascends_to (m + inner a) (test_edges b (m + inner a) (m + inner a + 1) hit miss) (m + inner a + 1 + inner b)
    (m + inner (Either a b)) (omega arith)
    (test_ascends b (m + inner a) (m + inner a + 1) hit miss (omega arith)))

own_ascends : (st : Stmt) (p next : ℕ) → Ascends p (own_edges p st next) (p + 1 + own_inner st)
own_ascends (Set x t) p next = ascends_to p (own_edges p (Set x t) next) p (p + 1 + 0) (omega arith)
    (edge_to_ascends p (Sets x t) (Some next))
own_ascends (Havoc x) p next = ascends_to p (own_edges p (Havoc x) next) p (p + 1 + 0) (omega arith)
    (edge_to_ascends p (Havocs x) (Some next))
own_ascends (Assert a) p next = ascends_to p (own_edges p (Assert a) next) p (p + 1 + 0) (omega arith)
    (edge_to_ascends p Skips (Some next))
own_ascends Skip p next = ascends_to p (own_edges p Skip next) p (p + 1 + 0) (omega arith)
    (edge_to_ascends p Skips (Some next))
own_ascends (Assume c) p next = test_ascends (test c) p (p + 1) (Some next) None (omega arith)
own_ascends (If c a b) p next =
    test_ascends (test c) p (p + 1) (Some (entry (p + 1 + inner (test c)) a next))
    (Some (entry (p + 1 + inner (test c) + widths a) b next)) (omega arith)
own_ascends (While c a) p next =
    test_ascends (test c) p (p + 1) (Some (entry (p + 1 + inner (test c)) a p)) (Some next) (omega arith)

places_ascend : (lo k : ℕ) (ls : List Place) (hi j : ℕ) → Tiles lo k ls hi j → Ascends lo (edges_of ls) hi
places_ascend lo k [] hi j h = omega (arith, h.0)
places_ascend lo k (l ∷ ls) hi j h =
    let rest = places_ascend (lo + 1 + own_inner l.stmt) (k + 1) ls hi j h.2 in
    ascends_append lo (own_edges l.point l.stmt l.next) (lo + 1 + own_inner l.stmt) (edges_of ls) hi
    (subst (λ (x : ℕ). Ascends x (own_edges l.point l.stmt l.next) (x + 1 + own_inner l.stmt)) h.0
    (own_ascends l.stmt l.point l.next)) rest

-- edges are numbered by the points where they begin
pub edges_ascend : (P : Program) → Ascends 0 (edges P) (widths P.body)
edges_ascend P =
    subst (λ (x : ℕ). Ascends 0 (edges P) x) (omega arith)
    (places_ascend 0 0 (program_places P) (0 + widths P.body) (0 + counts P.body)
    (places_of_tile 0 0 P.body (widths P.body)))
