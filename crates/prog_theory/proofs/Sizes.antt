-- How many points, edges and heads the graph of a program has: they follow from its statements and atoms.
-- Index: inner_few, width_few, widths_few, edges_few, heads_few.
use Rattle.std.proofs.Common.{◌≡◌, ℕ, ◌+◌, ◌*◌, ◌≤◌, List, [], ◌∷◌, ◌++◌, Option, Some, None, length, arith}
use Rattle.std.proofs.lemmas.List.{length-append}
use Rattle.prog_theory.specs.States.{Term}
use Rattle.prog_theory.specs.Conditions.{Cmp, Le, Lt, Ge, Gt, Eq, Ne, Cond, Any, Atom, Not, And, Or}
use Rattle.prog_theory.specs.Statements.{Stmt, Set, Havoc, Assume, Assert, If, While, Skip, Block, Empty, Then}
use Rattle.prog_theory.specs.Numbering.{count, counts}
use Rattle.prog_theory.specs.Atoms.{cond_atoms, stmt_atoms, block_atoms}
use Rattle.prog_theory.specs.Tests.{Test, Choice, Guard, Negated, Both, Either, above, comparison, test, inner}
use Rattle.prog_theory.specs.Edges.{Op, Skips, Sets, Havocs, Guards, edge_to, test_edges}
use Rattle.prog_theory.specs.Places.{Place, width, widths, entry, places, places_of}
use Rattle.prog_theory.specs.Graph.{own_edges, edges_of}
use Rattle.prog_theory.specs.Heads.{own_heads, heads_of}

-- ---- points

-- how many edges a test has at most
abbrev most : Test → ℕ
most Choice = 2
most (Guard l r) = 2
most (Negated a) = most a
most (Both a b) = most a + most b
most (Either a b) = most a + most b

comparison_few : (c : Cmp) (p q : Term) → (inner (comparison c p q) + 1 ≤ 2) × (most (comparison c p q) ≤ 4)
comparison_few Le p q = (omega arith, omega arith)
comparison_few Lt p q = (omega arith, omega arith)
comparison_few Ge p q = (omega arith, omega arith)
comparison_few Gt p q = (omega arith, omega arith)
comparison_few Eq p q = (omega arith, omega arith)
comparison_few Ne p q = (omega arith, omega arith)

pub inner_few : (c : Cond) → inner (test c) + 1 ≤ 2 * cond_atoms c
inner_few Any = omega arith
inner_few (Atom p c q) = (comparison_few c p q).0
inner_few (Not a) = inner_few a
inner_few (And a b) = omega (arith, inner_few a, inner_few b)
inner_few (Or a b) = omega (arith, inner_few a, inner_few b)

mutual
  pub width_few : (st : Stmt) → width st ≤ count st + 2 * stmt_atoms st
  width_few (If c a b) = omega (arith, inner_few c, widths_few a, widths_few b)
  width_few (While c a) = omega (arith, inner_few c, widths_few a)
  width_few (Assume c) = omega (arith, inner_few c)
  width_few (Set x t) = omega arith
  width_few (Havoc x) = omega arith
  width_few (Assert c) = omega arith
  width_few Skip = omega arith

  pub widths_few : (b : Block) → widths b ≤ counts b + 2 * block_atoms b
  widths_few Empty = omega arith
  widths_few (Then st b) = omega (arith, width_few st, widths_few b)

-- ---- edges

to_few : (f : ℕ) (op : Op) (o : Option ℕ) → length (edge_to f op o) ≤ 1
to_few f op None = omega arith
to_few f op (Some t) = omega arith

test_few : (t : Test) (f m : ℕ) (hit miss : Option ℕ) → length (test_edges t f m hit miss) ≤ most t
test_few Choice f m hit miss =
    let l = length-append (edge_to f Skips hit) (edge_to f Skips miss) in
    omega (arith, to_few f Skips hit, to_few f Skips miss)
test_few (Guard p q) f m hit miss =
    let l = length-append (edge_to f (Guards p q) hit) (edge_to f (Guards (above q) p) miss) in
    omega (arith, to_few f (Guards p q) hit, to_few f (Guards (above q) p) miss)
test_few (Negated a) f m hit miss = test_few a f m miss hit
test_few (Both a b) f m hit miss =
    let x = test_few a f m (Some (m + inner a)) miss in
    let y = test_few b (m + inner a) (m + inner a + 1) hit miss in
    let l = length-append (test_edges a f m (Some (m + inner a)) miss)
    (test_edges b (m + inner a) (m + inner a + 1) hit miss) in
    omega (arith, x, y)
test_few (Either a b) f m hit miss =
    let x = test_few a f m hit (Some (m + inner a)) in
    let y = test_few b (m + inner a) (m + inner a + 1) hit miss in
    let l = length-append (test_edges a f m hit (Some (m + inner a)))
    (test_edges b (m + inner a) (m + inner a + 1) hit miss) in
    omega (arith, x, y)

cond_most : (c : Cond) → most (test c) ≤ 4 * cond_atoms c
cond_most Any = omega arith
cond_most (Atom p c q) = (comparison_few c p q).1
cond_most (Not a) = cond_most a
cond_most (And a b) = omega (arith, cond_most a, cond_most b)
cond_most (Or a b) = omega (arith, cond_most a, cond_most b)

cond_few : (c : Cond) (f m : ℕ) (hit miss : Option ℕ) → length (test_edges (test c) f m hit miss) ≤ 4 * cond_atoms c
cond_few c f m hit miss = omega (arith, test_few (test c) f m hit miss, cond_most c)

edges_of-append : (xs ys : List Place) → length (edges_of (xs ++ ys)) ≡ length (edges_of xs) + length (edges_of ys)
edges_of-append [] ys = omega arith
edges_of-append (l ∷ xs) ys =
    let a = length-append (own_edges l.point l.stmt l.next) (edges_of (xs ++ ys)) in
    let b = length-append (own_edges l.point l.stmt l.next) (edges_of xs) in
    let i = edges_of-append xs ys in omega (arith, a, b, i)

alone : (p k : ℕ) (st : Stmt) (next n : ℕ) → length (own_edges p st next) ≤ n
    → length (edges_of (record { point = p; number = k; stmt = st; next = next } ∷ [])) ≤ n
alone p k st next n h = let a = length-append (own_edges p st next) [] in omega (arith, a)

mutual
  stmt_edges_few : (st : Stmt) (p k next : ℕ) → length (edges_of (places p k st next)) ≤ count st + 4 * stmt_atoms st
  stmt_edges_few (If c a b) p k next =
      let own = own_edges p (If c a b) next in
      let first = places_of (p + 1 + inner (test c)) (k + 1) a next in
      let second = places_of (p + 1 + inner (test c) + widths a) (k + 1 + counts a) b next in
      let x = cond_few c p (p + 1) (Some (entry (p + 1 + inner (test c)) a next))
      (Some (entry (p + 1 + inner (test c) + widths a) b next)) in
      omega (
        arith,
        x,
        length-append own (edges_of (first ++ second)),
        edges_of-append first second,
        edges_few a
            (p + 1 + inner (test c)) (k + 1) next,
        edges_few b (p + 1 + inner (test c) + widths a) (k + 1 + counts a)
            next,
      )
  stmt_edges_few (While c a) p k next =
      let own = own_edges p (While c a) next in
      let body = places_of (p + 1 + inner (test c)) (k + 1) a p in
      let x = cond_few c p (p + 1) (Some (entry (p + 1 + inner (test c)) a p)) (Some next) in
      omega (arith, x, length-append own (edges_of body), edges_few a (p + 1 + inner (test c)) (k + 1) p)
  stmt_edges_few (Assume c) p k next = alone p k (Assume c) next _
      (omega (arith, cond_few c p (p + 1) (Some next) None))
  stmt_edges_few (Set x t) p k next = alone p k (Set x t) next _ (to_few p (Sets x t) (Some next))
  stmt_edges_few (Havoc x) p k next = alone p k (Havoc x) next _ (to_few p (Havocs x) (Some next))
  stmt_edges_few (Assert c) p k next = alone p k (Assert c) next _ (to_few p Skips (Some next))
  stmt_edges_few Skip p k next = alone p k Skip next _ (to_few p Skips (Some next))

  pub edges_few : (b : Block) (p k next : ℕ) → length (edges_of (places_of p k b next)) ≤ counts b + 4 * block_atoms b
  edges_few Empty p k next = omega arith
  edges_few (Then st b) p k next =
      let first = places p k st (entry (p + width st) b next) in
      let second = places_of (p + width st) (k + count st) b next in
      omega (
        arith,
        edges_of-append first second,
        stmt_edges_few st p k (entry (p + width st) b next),
        edges_few b
            (p + width st) (k + count st) next,
      )

-- ---- heads

heads_of-append : (xs ys : List Place) → length (heads_of (xs ++ ys)) ≡ length (heads_of xs) + length (heads_of ys)
heads_of-append [] ys = omega arith
heads_of-append (l ∷ xs) ys =
    let a = length-append (own_heads l.point l.stmt) (heads_of (xs ++ ys)) in
    let b = length-append (own_heads l.point l.stmt) (heads_of xs) in
    let i = heads_of-append xs ys in omega (arith, a, b, i)

mutual
  stmt_heads_few : (st : Stmt) (p k next : ℕ) → length (heads_of (places p k st next)) ≤ count st
  stmt_heads_few (If c a b) p k next =
      let first = places_of (p + 1 + inner (test c)) (k + 1) a next in
      let second = places_of (p + 1 + inner (test c) + widths a) (k + 1 + counts a) b next in
      omega (
        arith,
        heads_of-append first second,
        heads_few a (p + 1 + inner (test c)) (k + 1) next,
        heads_few b
            (p + 1 + inner (test c) + widths a) (k + 1 + counts a) next,
      )
  stmt_heads_few (While c a) p k next = omega (arith, heads_few a (p + 1 + inner (test c)) (k + 1) p)
  stmt_heads_few (Assume c) p k next = omega arith
  stmt_heads_few (Set x t) p k next = omega arith
  stmt_heads_few (Havoc x) p k next = omega arith
  stmt_heads_few (Assert c) p k next = omega arith
  stmt_heads_few Skip p k next = omega arith

  pub heads_few : (b : Block) (p k next : ℕ) → length (heads_of (places_of p k b next)) ≤ counts b
  heads_few Empty p k next = omega arith
  heads_few (Then st b) p k next =
      let first = places p k st (entry (p + width st) b next) in
      let second = places_of (p + width st) (k + count st) b next in
      let later = heads_few b (p + width st) (k + count st) next in
      omega (arith, heads_of-append first second, stmt_heads_few st p k (entry (p + width st) b next), later)
