-- Every edge leads to a point of the graph; every edge that does not lead to a head leads to a higher point; and no
-- edge enters a loop but at its head.
-- Index: Without, IsLoop, edges_stay, edges_rise, edges_go_up, loops_enter_at_heads.
use Rattle.std.proofs.Common.{◌≡◌, ℕ, ◌+◌, ◌<◌, ◌≤◌, ◌⊎◌, inl, inr, ⊎_elim, List, [], ◌∷◌, ◌++◌, refl, sym, ap, ◌∙◌, subst, arith, Contains}
use Rattle.std.proofs.lemmas.List.Elements.{Contains-append_left, Contains-append_right}
use Rattle.prog_theory.specs.Statements.{Stmt, Set, Havoc, Assume, Assert, If, While, Skip, Block, Empty, Then, Program}
use Rattle.prog_theory.specs.Numbering.{count, counts}
use Rattle.prog_theory.specs.Tests.{inner, test}
use Rattle.prog_theory.specs.Edges.{Edge}
use Rattle.prog_theory.specs.Places.{width, widths, entry, Place, places, places_of}
use Rattle.prog_theory.specs.Graph.{own_edges, program_places, edges}
use Rattle.prog_theory.specs.Heads.{own_heads, heads_of, heads}
use Rattle.prog_theory.proofs.Elements.{Includes, Includes-self, Includes-left, Includes-right, Includes-tail, Contains-cases, Contains-none, Contains-here}
use Rattle.prog_theory.proofs.Graphs.{edge_place, own_sources}
use Rattle.prog_theory.proofs.Fits.{own_place}
use Rattle.prog_theory.proofs.Extents.{own_width, If_cases, While_cases, Then_cases, only, LiesIn, stmt_extent, block_extent, entry_cases, LeadsTo, follows, returns, goes_on, own_leads, Clear, clear_at, own_clear}

-- an edge of the place m
abbrev EdgeOf : Place → Edge → Type 0
EdgeOf m e = Contains (own_edges m.point m.stmt m.next) e

edge_of : (m : Place) (p k : ℕ) (st : Stmt) (next : ℕ) (e : Edge)
    → m ≡ record { point = p; number = k; stmt = st; next = next } → EdgeOf m e → Contains (own_edges p st next) e
edge_of m p k st next e i h = subst (λ (v : Place). EdgeOf v e) i h

-- the edge leads to what follows a stretch of w points from p, or into it
abbrev Ranges : ℕ → ℕ → ℕ → ℕ → Type 0
Ranges p w next x = (x ≡ next) ⊎ ((p ≤ x) × (x < p + w))

own_ranges : (st : Stmt) (p next : ℕ) (e : Edge) → Contains (own_edges p st next) e → Ranges p (width st) next e.to
own_ranges st p next e h = go (own_leads st p next e h)
  where
    go : LeadsTo p st next e → Ranges p (width st) next e.to
    go (follows i) = inl i
    go (returns i j) = let w = own_width st in inr (omega arith, omega arith)
    go (goes_on i j l) = inr (omega arith, j)

ranges_wider : (p w q v next x : ℕ) → q ≤ p → p + w ≤ q + v → Ranges p w next x → Ranges q v next x
ranges_wider p w q v next x a b h = ⊎_elim (λ i. inl i) (λ i. inr (omega (arith, i.0), omega (arith, i.1))) h

mutual
  stmt_ranges : (st : Stmt) (p k next : ℕ) (m : Place) → Contains (places p k st next) m → (e : Edge) → EdgeOf m e
      → Ranges p (width st) next e.to
  stmt_ranges (If c a b) p k next m d e h =
      ⊎_elim
      (λ i. own_ranges (If c a b) p next e (edge_of m p k (If c a b) next e i h))
      (λ i. ⊎_elim
      (λ j. ranges_wider (p + 1 + inner (test c)) (widths a) p (width (If c a b)) next e.to (omega arith) (omega arith)
      (block_ranges a (p + 1 + inner (test c)) (k + 1) next m j e h))
      (λ j. ranges_wider (p + 1 + inner (test c) + widths a) (widths b) p (width (If c a b)) next e.to (omega arith)
      (omega arith) (block_ranges b (p + 1 + inner (test c) + widths a) (k + 1 + counts a) next m j e h))
      i)
      (If_cases p k c a b next m d)
  stmt_ranges (While c a) p k next m d e h =
      ⊎_elim
      (λ i. own_ranges (While c a) p next e (edge_of m p k (While c a) next e i h))
      (λ j. ⊎_elim (λ g. inr (omega arith, omega arith)) (λ g. inr (omega (arith, g.0), omega (arith, g.1)))
      (block_ranges a (p + 1 + inner (test c)) (k + 1) p m j e h))
      (While_cases p k c a next m d)
  stmt_ranges (Set x t) p k next m d e h = own_ranges (Set x t) p next e (edge_of m p k (Set x t) next e (only _ m d) h)
  stmt_ranges (Havoc x) p k next m d e h = own_ranges (Havoc x) p next e (edge_of m p k (Havoc x) next e (only _ m d) h)
  stmt_ranges (Assume c) p k next m d e h = own_ranges (Assume c) p next e
      (edge_of m p k (Assume c) next e (only _ m d) h)
  stmt_ranges (Assert c) p k next m d e h = own_ranges (Assert c) p next e
      (edge_of m p k (Assert c) next e (only _ m d) h)
  stmt_ranges Skip p k next m d e h = own_ranges Skip p next e (edge_of m p k Skip next e (only _ m d) h)

  block_ranges : (b : Block) (p k next : ℕ) (m : Place) → Contains (places_of p k b next) m → (e : Edge) → EdgeOf m e
      → Ranges p (widths b) next e.to
  block_ranges Empty p k next m d e h = absurd (Contains-none m d)
  block_ranges (Then st b) p k next m d e h =
      ⊎_elim
      (λ i. ⊎_elim
      (λ j. ⊎_elim (λ g. inl (j ∙ g)) (λ g. inr (omega (arith, j, g.0), omega (arith, j, g.0, g.1)))
      (entry_cases b (p + width st) next))
      (λ j. inr (j.0, omega (arith, j.1)))
      (stmt_ranges st p k (entry (p + width st) b next) m i e h))
      (λ i. ranges_wider (p + width st) (widths b) p (widths (Then st b)) next e.to (omega arith) (omega arith)
      (block_ranges b (p + width st) (k + count st) next m i e h))
      (Then_cases p k st b next m d)

-- x is beside a stretch of w points from p, or its first point
abbrev Beside : ℕ → ℕ → ℕ → Type 0
Beside p w x = (x ≤ p) ⊎ (p + w ≤ x)

beside_clear : (p w x : ℕ) (l : Place) → Beside p w x → LiesIn p w l → Clear l x
beside_clear p w x l h r = ⊎_elim (λ i. inl (omega (arith, r.from))) (λ i. inr (omega (arith, r.to))) h

ranges_clear : (p w next x : ℕ) (l : Place) → Ranges p w next x → Clear l next
    → (l.point + width l.stmt ≤ p) ⊎ (p + w ≤ l.point) → Clear l x
ranges_clear p w next x l r c b =
    ⊎_elim
    (λ i. clear_at l x next i c)
    (λ i. ⊎_elim (λ j. inr (omega (arith, i.0))) (λ j. inl (omega (arith, i.1))) b) r

-- the point x is outside the stretch of l
abbrev pub Without : Place → ℕ → Type 0
Without l x = (x < l.point) ⊎ (l.point + width l.stmt ≤ x)

-- an edge of m begins in a stretch that m lies in
inside : (p w : ℕ) (m : Place) (e : Edge) → EdgeOf m e → LiesIn p w m → (p ≤ e.from) × (e.from < p + w)
inside p w m e h r =
    let s = own_sources m.stmt m.point m.next e h in
    let o = own_width m.stmt in
    (omega (arith, s.0, r.from), omega (arith, s.1, r.to))

not_without : (l : Place) (p k : ℕ) (st : Stmt) (next x : ℕ)
    → l ≡ record { point = p; number = k; stmt = st; next = next } → p ≤ x → x < p + width st → Without l x → ⊥
not_without l p k st next x i a b h =
    let y : l.point ≡ p = ap (λ (v : Place). v.point) i in
    let z : width l.stmt ≡ width st = ap (λ (v : Place). width v.stmt) i in
    ⊎_elim (λ j. omega arith) (λ j. omega arith) h

mutual
  stmt_pairs : (st : Stmt) (p k next : ℕ) → Beside p (width st) next → (l : Place) → Contains (places p k st next) l
      → (m : Place) → Contains (places p k st next) m → (e : Edge) → EdgeOf m e → Without l e.from → Clear l e.to
  stmt_pairs (If c a b) p k next side l dl m dm e h out =
      let q = p + 1 + inner (test c) in
      let in_a = λ (z : Place) (i : Contains (places_of (p + 1 + inner (test c)) (k + 1) a next) z). block_extent a
      (p + 1 + inner (test c)) (k + 1) next z i in
      let in_b = λ (z : Place) (i : Contains (places_of (p + 1 + inner (test c) + widths a) (k + 1 + counts a) b next)
      z). block_extent b (p + 1 + inner (test c) + widths a) (k + 1 + counts a) next z i in
      let all = λ (z : Place) (i : Contains (places p k (If c a b) next) z). stmt_extent (If c a b) p k next z i in
      let free = beside_clear p (width (If c a b)) next l side (all l dl) in
      ⊎_elim
      (λ i. let s = inside p (width (If c a b)) m e h (all m dm) in absurd
      (not_without l p k (If c a b) next e.from i s.0 s.1 out))
      (λ il. ⊎_elim
      (λ i. own_clear (If c a b) p k next e (edge_of m p k (If c a b) next e i h) l dl
      (⊎_elim (λ j. let r = in_a l j in omega (arith, r.from)) (λ j. let r = in_b l j in omega (arith, r.from)) il)
      free)
      (λ im. ⊎_elim
      (λ j. ⊎_elim
      (λ g. block_pairs a (p + 1 + inner (test c)) (k + 1) next
      (⊎_elim (λ f. inl (omega arith)) (λ f. inr (omega arith)) side) l j m g e h out)
      (λ g. let r = in_a l j in ranges_clear (p + 1 + inner (test c) + widths a) (widths b) next e.to l
      (block_ranges b (p + 1 + inner (test c) + widths a) (k + 1 + counts a) next m g e h) free
      (inl (omega (arith, r.to))))
      im)
      (λ j. ⊎_elim
      (λ g. let r = in_b l j in ranges_clear (p + 1 + inner (test c)) (widths a) next e.to l
      (block_ranges a (p + 1 + inner (test c)) (k + 1) next m g e h) free (inr (omega (arith, r.from))))
      (λ g. block_pairs b (p + 1 + inner (test c) + widths a) (k + 1 + counts a) next
      (⊎_elim (λ f. inl (omega arith)) (λ f. inr (omega arith)) side) l j m g e h out)
      im) il)
      (If_cases p k c a b next m dm))
      (If_cases p k c a b next l dl)
  stmt_pairs (While c a) p k next side l dl m dm e h out =
      let all = λ (z : Place) (i : Contains (places p k (While c a) next) z). stmt_extent (While c a) p k next z i in
      let free = beside_clear p (width (While c a)) next l side (all l dl) in
      ⊎_elim
      (λ i. let s = inside p (width (While c a)) m e h (all m dm) in absurd
      (not_without l p k (While c a) next e.from i s.0 s.1 out))
      (λ il. ⊎_elim
      (λ i. own_clear (While c a) p k next e (edge_of m p k (While c a) next e i h) l dl
      (let r = block_extent a (p + 1 + inner (test c)) (k + 1) p l il in omega (arith, r.from)) free)
      (λ im. block_pairs a (p + 1 + inner (test c)) (k + 1) p (inl (omega arith)) l il m im e h out)
      (While_cases p k c a next m dm))
      (While_cases p k c a next l dl)
  stmt_pairs (Set x t) p k next side l dl m dm e h out =
      let s = inside p 1 m e h (stmt_extent (Set x t) p k next m dm) in absurd
      (not_without l p k (Set x t) next e.from (only _ l dl) s.0 s.1 out)
  stmt_pairs (Havoc x) p k next side l dl m dm e h out =
      let s = inside p 1 m e h (stmt_extent (Havoc x) p k next m dm) in absurd
      (not_without l p k (Havoc x) next e.from (only _ l dl) s.0 s.1 out)
  stmt_pairs (Assume c) p k next side l dl m dm e h out =
      let s = inside p (width (Assume c)) m e h (stmt_extent (Assume c) p k next m dm) in absurd
      (not_without l p k (Assume c) next e.from (only _ l dl) s.0 s.1 out)
  stmt_pairs (Assert c) p k next side l dl m dm e h out =
      let s = inside p 1 m e h (stmt_extent (Assert c) p k next m dm) in absurd
      (not_without l p k (Assert c) next e.from (only _ l dl) s.0 s.1 out)
  stmt_pairs Skip p k next side l dl m dm e h out =
      let s = inside p 1 m e h (stmt_extent Skip p k next m dm) in absurd
      (not_without l p k Skip next e.from (only _ l dl) s.0 s.1 out)

  block_pairs : (b : Block) (p k next : ℕ) → Beside p (widths b) next → (l : Place) → Contains (places_of p k b next) l
      → (m : Place) → Contains (places_of p k b next) m → (e : Edge) → EdgeOf m e → Without l e.from → Clear l e.to
  block_pairs Empty p k next side l dl m dm e h out = absurd (Contains-none l dl)
  block_pairs (Then st b) p k next side l dl m dm e h out =
      let free = beside_clear p (widths (Then st b)) next l side (block_extent (Then st b) p k next l dl) in
      ⊎_elim
      (λ il. ⊎_elim
      (λ im. stmt_pairs st p k (entry (p + width st) b next)
      (⊎_elim (λ j. ⊎_elim (λ f. inl (omega (arith, j))) (λ f. inr (omega (arith, j))) side)
      (λ j. inr (omega (arith, j.0))) (entry_cases b (p + width st) next)) l il m im e h out)
      (λ im. let r = stmt_extent st p k (entry (p + width st) b next) l il in
      ranges_clear (p + width st) (widths b) next e.to l (block_ranges b (p + width st) (k + count st) next m im e h)
      free (inl r.to))
      (Then_cases p k st b next m dm))
      (λ il. ⊎_elim
      (λ im. let r = block_extent b (p + width st) (k + count st) next l il in
      ranges_clear p (width st) (entry (p + width st) b next) e.to l
      (stmt_ranges st p k (entry (p + width st) b next) m im e h)
      (⊎_elim (λ j. clear_at l (entry (p + width st) b next) next j free) (λ j. inl (omega (arith, j.0, r.from)))
      (entry_cases b (p + width st) next)) (inr r.from))
      (λ im. block_pairs b (p + width st) (k + count st) next
      (⊎_elim (λ f. inl (omega arith)) (λ f. inr (omega arith)) side) l il m im e h out)
      (Then_cases p k st b next m dm))
      (Then_cases p k st b next l dl)

-- ---- heads

while_head : (ls : List Place) (p k : ℕ) (c : _) (a : Block) (next : ℕ)
    → Contains ls (record { point = p; number = k; stmt = While c a; next = next }) → Contains (heads_of ls) p
while_head [] p k c a next h = absurd (Contains-none _ h)
while_head (x ∷ ls) p k c a next h =
    ⊎_elim
    (λ i. Contains-append_left (own_heads x.point x.stmt) (heads_of ls) p
    (subst (λ (v : Place). Contains (own_heads v.point v.stmt) p) i (Contains-here p [])))
    (λ i. Contains-append_right (own_heads x.point x.stmt) (heads_of ls) p (while_head ls p k c a next i))
    (Contains-cases x ls (record { point = p; number = k; stmt = While c a; next = next }) h)

own_head : (ls : List Place) (st : Stmt) (p k next x : ℕ)
    → Contains ls (record { point = p; number = k; stmt = st; next = next }) → Contains (own_heads p st) x → x ≡ p
    → Contains (heads_of ls) x
own_head ls (While c a) p k next x h g e = subst (λ (v : ℕ). Contains (heads_of ls) v) (sym e)
    (while_head ls p k c a next h)
own_head ls (Set y t) p k next x h g e = absurd (Contains-none x g)
own_head ls (Havoc y) p k next x h g e = absurd (Contains-none x g)
own_head ls (Assume c) p k next x h g e = absurd (Contains-none x g)
own_head ls (Assert c) p k next x h g e = absurd (Contains-none x g)
own_head ls (If c a b) p k next x h g e = absurd (Contains-none x g)
own_head ls Skip p k next x h g e = absurd (Contains-none x g)

-- a loop among the places whose stretch has the point x, and whose point is y
pub record IsLoop (ls : List Place) (x y : ℕ) : Type 0 where
  pub loop : Place
  pub is_place : Contains ls loop
  pub is_head : Contains (heads_of ls) y
  pub at : loop.point ≡ y
  pub from : loop.point ≤ x
  pub below : x < loop.point + width loop.stmt

-- what follows a statement is above it, or the loop that it stands in
abbrev Rises : List Place → ℕ → ℕ → Type 0
Rises all x y = (x < y) ⊎ IsLoop all x y

-- each point of a stretch of w points from p rises to `next`
abbrev Follows : List Place → ℕ → ℕ → ℕ → Type 0
Follows all p w next = (x : ℕ) → p ≤ x → x < p + w → Rises all x next

own_rises : (all : List Place) (st : Stmt) (p k next : ℕ) → Includes all (places p k st next)
    → Follows all p (width st) next → (e : Edge) → Contains (own_edges p st next) e → Rises all e.from e.to
own_rises all st p k next i f e h = go (own_leads st p next e h)
  where
    go : LeadsTo p st next e → Rises all e.from e.to
    go (follows j) =
        let s = own_sources st p next e h in
        let o = own_width st in
        subst (λ (v : ℕ). Rises all e.from v) (sym j) (f e.from s.0 (omega (arith, s.1)))
    go (returns g j) =
        let s = own_sources st p next e h in
        let o = own_width st in
        inr (record {
          loop = record { point = p; number = k; stmt = st; next = next };
          is_place = own_place all p k st next i;
          is_head = own_head all st p k next e.to (own_place all p k st next i) g j;
          at = sym j;
          from = s.0;
          below = omega (arith, s.1);
        })
    go (goes_on a b c) = inl c

mutual
  stmt_rises : (all : List Place) (st : Stmt) (p k next : ℕ) → Includes all (places p k st next)
      → Follows all p (width st) next → (m : Place) → Contains (places p k st next) m → (e : Edge) → EdgeOf m e
      → Rises all e.from e.to
  stmt_rises all (If c a b) p k next i f m d e h =
      let first = places_of (p + 1 + inner (test c)) (k + 1) a next in
      let second = places_of (p + 1 + inner (test c) + widths a) (k + 1 + counts a) b next in
      let parts = Includes-tail all _ (first ++ second) i in
      ⊎_elim
      (λ j. own_rises all (If c a b) p k next i f e (edge_of m p k (If c a b) next e j h))
      (λ j. ⊎_elim
      (λ g. block_rises all a (p + 1 + inner (test c)) (k + 1) next (Includes-left all first second parts)
      (λ x y z. f x (omega arith) (omega arith)) m g e h)
      (λ g. block_rises all b (p + 1 + inner (test c) + widths a) (k + 1 + counts a) next
      (Includes-right all first second parts) (λ x y z. f x (omega arith) (omega arith)) m g e h) j)
      (If_cases p k c a b next m d)
  stmt_rises all (While c a) p k next i f m d e h =
      let own = own_place all p k (While c a) next i in
      ⊎_elim
      (λ j. own_rises all (While c a) p k next i f e (edge_of m p k (While c a) next e j h))
      (λ g. block_rises all a (p + 1 + inner (test c)) (k + 1) p
      (Includes-tail all _ (places_of (p + 1 + inner (test c)) (k + 1) a p) i)
      (λ x y z. inr (record {
        loop = record { point = p; number = k; stmt = While c a; next = next };
        is_place = own;
        is_head = while_head all p k c a next own;
        at = refl;
        from = omega arith;
        below = omega arith;
      })) m g e h)
      (While_cases p k c a next m d)
  stmt_rises all (Set y t) p k next i f m d e h = own_rises all (Set y t) p k next i f e
      (edge_of m p k (Set y t) next e (only _ m d) h)
  stmt_rises all (Havoc y) p k next i f m d e h = own_rises all (Havoc y) p k next i f e
      (edge_of m p k (Havoc y) next e (only _ m d) h)
  stmt_rises all (Assume c) p k next i f m d e h = own_rises all (Assume c) p k next i f e
      (edge_of m p k (Assume c) next e (only _ m d) h)
  stmt_rises all (Assert c) p k next i f m d e h = own_rises all (Assert c) p k next i f e
      (edge_of m p k (Assert c) next e (only _ m d) h)
  stmt_rises all Skip p k next i f m d e h = own_rises all Skip p k next i f e
      (edge_of m p k Skip next e (only _ m d) h)

  block_rises : (all : List Place) (b : Block) (p k next : ℕ) → Includes all (places_of p k b next)
      → Follows all p (widths b) next → (m : Place) → Contains (places_of p k b next) m → (e : Edge) → EdgeOf m e
      → Rises all e.from e.to
  block_rises all Empty p k next i f m d e h = absurd (Contains-none m d)
  block_rises all (Then st b) p k next i f m d e h =
      let first = places p k st (entry (p + width st) b next) in
      let second = places_of (p + width st) (k + count st) b next in
      ⊎_elim
      (λ g. stmt_rises all st p k (entry (p + width st) b next) (Includes-left all first second i)
      (λ x y z. ⊎_elim
      (λ j. subst (λ (v : ℕ). Rises all x v) (sym j) (f x y (omega arith)))
      (λ j. inl (omega (arith, j.0))) (entry_cases b (p + width st) next)) m g e h)
      (λ g. block_rises all b (p + width st) (k + count st) next (Includes-right all first second i)
      (λ x y z. f x (omega arith) (omega arith)) m g e h)
      (Then_cases p k st b next m d)

module _ (P : Program) where
  -- every edge leads to a point of the graph, the last of which is the exit
  pub edges_stay : (e : Edge) → Contains (edges P) e → (e.from < widths P.body) × (e.to ≤ widths P.body)
  edges_stay e d =
      let m = edge_place (program_places P) e d in
      let s = inside 0 (widths P.body) m.0 e m.2 (block_extent P.body 0 0 (widths P.body) m.0 m.1) in (
        omega (arith, s.1),
        ⊎_elim (λ i. omega arith) (λ i. omega (arith, i.1))
            (block_ranges P.body 0 0 (widths P.body) m.0 m.1 e m.2),
      )

  -- an edge leads to a higher point, or to the head of a loop that it begins in
  pub edges_rise : (e : Edge) → Contains (edges P) e → (e.from < e.to) ⊎ IsLoop (program_places P) e.from e.to
  edges_rise e d =
      let m = edge_place (program_places P) e d in
      block_rises (program_places P) P.body 0 0 (widths P.body) (Includes-self (program_places P))
      (λ x y z. inl (omega arith)) m.0 m.1 e m.2

  -- an edge that does not lead to a head leads to a higher point
  pub edges_go_up : (e : Edge) → Contains (edges P) e → (Contains (heads P) e.to → ⊥) → e.from < e.to
  edges_go_up e d no_head = ⊎_elim (λ i. i) (λ i. absurd (no_head i.is_head)) (edges_rise e d)

  -- no edge enters a loop but at its head: where an edge e goes back, none goes from a point below its head to a point
  -- above the head and up to where e begins
  pub loops_enter_at_heads : (e f : Edge) → Contains (edges P) e → Contains (edges P) f → e.to ≤ e.from → f.from < e.to
      → e.to < f.to → f.to ≤ e.from → ⊥
  loops_enter_at_heads e f de df back below above last =
      let m = edge_place (program_places P) f df in
      ⊎_elim
      (λ i. omega arith)
      (λ i. ⊎_elim (λ j. omega (arith, i.at)) (λ j. omega (arith, i.at, i.below))
      (block_pairs P.body 0 0 (widths P.body) (inr (omega arith)) i.loop i.is_place m.0 m.1 f m.2
      (inl (omega (arith, i.at)))))
      (edges_rise e de)
