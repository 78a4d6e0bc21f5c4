-- Each step is a walk between points that the stacks fit. So each visit is a walk.
use Rattle.std.proofs.Common.{◌≡◌, ℕ, ◌+◌, ⊎_elim, true, false, [], ◌∷◌, ◌++◌, Option, Some, None, refl, sym, ap, ◌∙◌, subst, arith, slice_get, length, append-nil}
use Rattle.prog_theory.specs.States.{State}
use Rattle.prog_theory.specs.Statements.{Stmt, Set, Havoc, Assume, Assert, If, While, Skip, Block, Empty, Then, Program}
use Rattle.prog_theory.specs.Numbering.{counts, Numbered, numbered}
use Rattle.prog_theory.specs.Steps.{Stack, StepOf, Step, Arrives, begins, goes_on}
use Rattle.prog_theory.specs.Tests.{test, inner}
use Rattle.prog_theory.specs.Edges.{Skips, Sets, Havocs}
use Rattle.prog_theory.specs.Places.{widths, entry, Place, places_of}
use Rattle.prog_theory.specs.Graph.{Point, Statement, Inner, Exit, program_places, points, edges}
use Rattle.prog_theory.specs.PointVisits.{VisitsOf, Visits}
use Rattle.prog_theory.proofs.Lengths.{Walk, WalksTo}
use Rattle.prog_theory.proofs.Elements.{Includes, Includes-self, Includes-tail, Includes-left, Includes-right}
use Rattle.prog_theory.proofs.Conditions.{test_can}
use Rattle.prog_theory.proofs.Walking.{Goes, stays, joined, by_edge_to}
use Rattle.prog_theory.proofs.TestEdges.{test_goes}
use Rattle.prog_theory.proofs.Tiles.{places_of_tile, one_number}
use Rattle.prog_theory.proofs.Graphs.{edges_included, statement_place, exit_is}
use Rattle.prog_theory.proofs.Fits.{Fits, own_place, block_fits}

module _ (P : Program) where
  -- from a point and a state to where a stack fits, with a state
  record Comes (p : ℕ) (s : State) (stack : Stack) (s' : State) : Type 0 where
    at : ℕ
    fits : Fits P stack at
    goes : Goes (edges P) p s at s'

  comes : (p : ℕ) (s : State) (stack : Stack) (s' : State) (stack1 : Stack) (s1 : State) (q : ℕ) → stack ≡ stack1
      → s' ≡ s1 → Fits P stack1 q → Goes (edges P) p s q s1 → Comes p s stack s'
  comes p s stack s' stack1 s1 q e f h g = record {
    at = q;
    fits = subst (λ (x : Stack). Fits P x q) (sym e) h;
    goes = subst (λ (x : State). Goes (edges P) p s q x) (sym f) g;
  }

  step_comes : (st : Stmt) (k : ℕ) (rest : Stack) (p : ℕ) (s : State) (stack : Stack) (s' : State)
      → Fits P (record { number = k; stmt = st } ∷ rest) p → StepOf k st rest s stack s' → Comes p s stack s'
  step_comes (Set x t) k rest p s stack s' (next, i, h) g =
      let own = edges_included (program_places P) _ (own_place (program_places P) p k (Set x t) next i) in
      comes p s stack s' rest s' next g.0 refl h (by_edge_to (edges P) p (Sets x t) (Some next) next s s' own refl g.1)
  step_comes (Havoc x) k rest p s stack s' (next, i, h) g =
      let own = edges_included (program_places P) _ (own_place (program_places P) p k (Havoc x) next i) in
      comes p s stack s' rest s' next g.1 refl h (by_edge_to (edges P) p (Havocs x) (Some next) next s s' own refl
      (g.0, g.2))
  step_comes (Assert a) k rest p s stack s' (next, i, h) g =
      let own = edges_included (program_places P) _ (own_place (program_places P) p k (Assert a) next i) in
      comes p s stack s' rest s' next g.0 refl h (by_edge_to (edges P) p Skips (Some next) next s s' own refl g.1)
  step_comes Skip k rest p s stack s' (next, i, h) g =
      let own = edges_included (program_places P) _ (own_place (program_places P) p k Skip next i) in
      comes p s stack s' rest s' next g.0 refl h (by_edge_to (edges P) p Skips (Some next) next s s' own refl g.1)
  step_comes (Assume c) k rest p s stack s' (next, i, h) g =
      let own = edges_included (program_places P) _ (own_place (program_places P) p k (Assume c) next i) in
      comes p s stack s' rest s next g.1 g.2 h
      (test_goes (edges P) s (test c) p (p + 1) (Some next) None true next own (test_can s c true g.0) refl)
  step_comes (If c a b) k rest p s stack s' (next, i, h) g =
      let own = edges_included (program_places P) _ (own_place (program_places P) p k (If c a b) next i) in
      let q = p + 1 + inner (test c) in
      let first = places_of q (k + 1) a next in
      let second = places_of (q + widths a) (k + 1 + counts a) b next in
      let parts = Includes-tail (program_places P) _ (first ++ second) i in
      ⊎_elim
      (λ t. comes p s stack s' (numbered (k + 1) a ++ rest) s (entry q a next) t.1 t.2
      (block_fits P a q (k + 1) next rest (Includes-left (program_places P) first second parts) h)
      (test_goes (edges P) s (test c) p (p + 1) (Some (entry q a next)) (Some (entry (q + widths a) b next)) true
      (entry q a next) own (test_can s c true t.0) refl))
      (λ t. comes p s stack s' (numbered (k + 1 + counts a) b ++ rest) s (entry (q + widths a) b next) t.1 t.2
      (block_fits P b (q + widths a) (k + 1 + counts a) next rest
      (Includes-right (program_places P) first second parts) h)
      (test_goes (edges P) s (test c) p (p + 1) (Some (entry q a next)) (Some (entry (q + widths a) b next)) false
      (entry (q + widths a) b next) own (test_can s c false t.0) refl))
      g
  step_comes (While c a) k rest p s stack s' (next, i, h) g =
      let own = edges_included (program_places P) _ (own_place (program_places P) p k (While c a) next i) in
      let q = p + 1 + inner (test c) in
      let top : Numbered = record { number = k; stmt = While c a } in
      ⊎_elim
      (λ t. comes p s stack s' (numbered (k + 1) a ++ top ∷ rest) s (entry q a p) t.1 t.2
      (block_fits P a q (k + 1) p (top ∷ rest) (Includes-tail (program_places P) _ (places_of q (k + 1) a p) i)
      (next, i, h))
      (test_goes (edges P) s (test c) p (p + 1) (Some (entry q a p)) (Some next) true (entry q a p) own
      (test_can s c true t.0) refl))
      (λ t. comes p s stack s' rest s next t.1 t.2 h
      (test_goes (edges P) s (test c) p (p + 1) (Some (entry q a p)) (Some next) false next own
      (test_can s c false t.0) refl))
      g

  -- a walk from point 0 comes to where the stack fits
  pub record Stands (stack : Stack) (s : State) : Type 0 where
    pub at : ℕ
    pub fits : Fits P stack at
    pub start : State
    pub wide : length start ≡ P.vars
    pub goes : Goes (edges P) 0 start at s

  step_stands : (before : Stack) (s : State) (after : Stack) (s' : State) → Stands before s → Step before s after s'
      → Stands after s'
  step_stands [] s after s' h g = absurd g
  step_stands (top ∷ rest) s after s' h g =
      let c = step_comes top.stmt top.number rest h.at s after s' h.fits g in
      record {
        at = c.at;
        fits = c.fits;
        start = h.start;
        wide = h.wide;
        goes = joined (edges P) 0 h.start h.at s c.at
            s' h.goes c.goes;
      }

  -- the whole program stands at point 0
  pub begins_fit : (b : Block) (n : ℕ) → n ≡ widths P.body → Includes (program_places P) (places_of 0 0 b n)
      → n ≡ widths b → Fits P (numbered 0 b) 0
  begins_fit Empty n e i w = sym w ∙ e
  begins_fit (Then st b) n e i w =
      subst (λ (x : Stack). Fits P x 0) (append-nil (numbered 0 (Then st b))) (block_fits P (Then st b) 0 0 n [] i e)

  pub program_fits : Fits P (numbered 0 P.body) 0
  program_fits = begins_fit P.body (widths P.body) refl (Includes-self (program_places P)) refl

  pub arrives_stands : (stack : Stack) (s : State) → Arrives P stack s → Stands stack s
  arrives_stands stack s (begins t w) =
      record { at = 0; fits = program_fits; start = t; wide = w; goes = stays (edges P) 0 t }
  arrives_stands stack s (goes_on before t after u a g) = step_stands before t after u (arrives_stands before t a) g

  stands_reaches : (stack : Stack) (s : State) (p : ℕ) (h : Stands stack s) → h.at ≡ p → WalksTo P p s
  stands_reaches stack s p h e = (
    h.start,
    h.wide,
    h.goes.count,
    subst
        (λ (x : ℕ). Walk (edges P) h.goes.count 0 h.start x s) e h.goes.walk,
  )

  -- the place of a statement on top is where its number stands
  pub top_place : (p k at : ℕ) (st : Stmt) (rest : Stack) → slice_get (points P) p ≡ Some (Statement k)
      → Fits P (record { number = k; stmt = st } ∷ rest) at → at ≡ p
  top_place p k at st rest e f =
      let t = places_of_tile 0 0 P.body (widths P.body) in
      let l = statement_place 0 0 (program_places P) (0 + widths P.body) (0 + counts P.body) t p k e in
      let m : Place = record { point = at; number = k; stmt = st; next = f.0 } in
      let same : l.0 ≡ m = one_number 0 0 (program_places P) (0 + widths P.body) (0 + counts P.body) t l.0 m l.1
      (own_place (program_places P) at k st f.0 f.1) l.3 in
      let point : l.0.point ≡ at = ap (λ (v : Place). v.point) same in
      omega (arith, l.2)

  pub exit_place : (p at : ℕ) → slice_get (points P) p ≡ Some Exit → Fits P [] at → at ≡ p
  exit_place p at e f =
      let x = exit_is 0 0 (program_places P) (0 + widths P.body) (0 + counts P.body)
      (places_of_tile 0 0 P.body (widths P.body)) p e in
      omega arith

  -- each visit is a walk
  pub visits_reach : (p : ℕ) (s : State) → Visits P p s → WalksTo P p s
  visits_reach p s v = go (slice_get (points P) p) refl v
    where
      go : (o : Option Point) → slice_get (points P) p ≡ o → VisitsOf P o s → WalksTo P p s
      go None e v = absurd v
      go (Some Inner) e v = absurd v
      go (Some Exit) e v = let h = arrives_stands [] s v in stands_reaches [] s p h (exit_place p h.at e h.fits)
      go (Some (Statement k)) e (st, rest, a) =
          let h = arrives_stands (record { number = k; stmt = st } ∷ rest) s a in
          stands_reaches (record { number = k; stmt = st } ∷ rest) s p h (top_place p k h.at st rest e h.fits)
