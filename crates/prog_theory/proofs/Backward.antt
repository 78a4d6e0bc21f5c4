-- A walk that ends at no inner point is a list of stretches, each of which is a step. So each walk to the point of a
-- statement or to the exit is a visit.
-- Index: Outside, top_point, end_point, reach_visits.
use Rattle.std.proofs.Common.{◌≡◌, ℕ, zero, suc, ◌+◌, ◌<◌, ◌≤◌, ◌⊎◌, inl, inr, ⊎_elim, Bool, true, false, List, [], ◌∷◌, ◌++◌, Option, Some, None, refl, sym, ap, ◌∙◌, subst, arith, Contains, slice_get}
use Rattle.std.proofs.lemmas.Bool.{cases_lt}
use Rattle.prog_theory.specs.States.{State}
use Rattle.prog_theory.specs.Statements.{Stmt, Set, Havoc, Assume, Assert, If, While, Skip, Program}
use Rattle.prog_theory.specs.Numbering.{counts, Numbered, numbered}
use Rattle.prog_theory.specs.Steps.{Stack, StepOf, Arrives, begins, goes_on}
use Rattle.prog_theory.specs.Tests.{Test, test, inner}
use Rattle.prog_theory.specs.Edges.{Op, Skips, Sets, Havocs, Edge, edge_to, test_edges}
use Rattle.prog_theory.specs.Places.{own_inner, widths, entry, Place, places, places_of}
use Rattle.prog_theory.specs.Graph.{Point, Statement, Inner, Exit, own_edges, program_places, points, edges}
use Rattle.prog_theory.specs.PointVisits.{VisitsOf, Visits, IsOuterPoint, IsOuter}
use Rattle.prog_theory.specs.Walks.{Leads}
use Rattle.prog_theory.proofs.Lengths.{Walk, WalksTo}
use Rattle.prog_theory.proofs.Elements.{Includes, Includes-tail, Includes-left, Includes-right}
use Rattle.prog_theory.proofs.Conditions.{Can, test_from}
use Rattle.prog_theory.proofs.TestEdges.{target}
use Rattle.prog_theory.proofs.TestExits.{edge_to_is, Leaves, test_leaves}
use Rattle.prog_theory.proofs.Tiles.{IsIn, places_of_tile, within, one_place}
use Rattle.prog_theory.proofs.Graphs.{edge_place, own_sources, statement_place, exit_is, exit_point, point_of_place}
use Rattle.prog_theory.proofs.Fits.{Fits, own_place, block_fits}
use Rattle.prog_theory.proofs.Forward.{program_fits}

le_or_lt : (a b : ℕ) → (a ≤ b) ⊎ (b < a)
le_or_lt a b = ⊎_elim (λ h. inr h) (λ h. inl h) (cases_lt b a)

module _ (P : Program) where
  -- an edge that begins in a place is an edge of the place
  own_edge : (l : Place) → Contains (program_places P) l → (e : Edge) → Contains (edges P) e → IsIn l e.from
      → Contains (own_edges l.point l.stmt l.next) e
  own_edge l c e d i =
      let r = edge_place (program_places P) e d in
      let src = own_sources r.0.stmt r.0.point r.0.next e r.2 in
      let same : r.0 ≡ l = one_place 0 0 (program_places P) (0 + widths P.body) (0 + counts P.body)
      (places_of_tile 0 0 P.body (widths P.body)) r.0 l e.from r.1 c (record { from = src.0; below = src.1 }) i in
      subst (λ (v : Place). Contains (own_edges v.point v.stmt v.next) e) same r.2

  -- the point is no inner point
  pub record Outside (q : ℕ) : Type 0 where
    pub beside : (l : Place) → Contains (program_places P) l → (q < l.point + 1) ⊎ (l.point + 1 + own_inner l.stmt ≤ q)

  -- the walk does a step, and at most n edges are left of it
  record Steps (k : ℕ) (st : Stmt) (rest : Stack) (s : State) (n q : ℕ) (s' : State) : Type 0 where
    stack : Stack
    state : State
    step : StepOf k st rest s stack state
    at : ℕ
    fits : Fits P stack at
    left : ℕ
    fewer : left ≤ n
    walk : Walk (edges P) left at state q s'

  -- a statement with one edge
  record Moves (op : Op) (next : ℕ) (s : State) (n q : ℕ) (s' : State) : Type 0 where
    state : State
    leads : Leads op s state
    walk : Walk (edges P) n next state q s'

  moves : (l : Place) (op : Op) (n q : ℕ) (s s' : State) → Contains (program_places P) l
      → ((e : Edge) → Contains (own_edges l.point l.stmt l.next) e → Contains (edge_to l.point op (Some l.next)) e)
      → Walk (edges P) (suc n) l.point s q s' → Moves op l.next s n q s'
  moves l op n q s s' c f w =
      let i = edge_to_is l.point op (Some l.next) w.0 (f w.0
      (own_edge l c w.0 w.1 (record { from = omega (arith, w.2); below = omega (arith, w.2) }))) in
      let to : l.next ≡ w.0.to = cc in
      record {
        state = w.3;
        leads = subst (λ (o : Op). Leads o s w.3) i.op w.4;
        walk = subst (λ (x : ℕ). Walk (edges P) n x w.3 q s') (sym to) w.5;
      }

  -- a statement with a condition
  exits : (l : Place) (t : Test) (hit miss : Option ℕ) (n q : ℕ) (s s' : State) → Contains (program_places P) l
      → own_inner l.stmt ≡ inner t → own_edges l.point l.stmt l.next ≡ test_edges t l.point (l.point + 1) hit miss
      → Outside q → Walk (edges P) (suc n) l.point s q s' → Leaves (edges P) t hit miss s n q s'
  exits l t hit miss n q s s' c size own out w =
      test_leaves (edges P) t l.point (l.point + 1) hit miss s n q s' (omega arith)
      (record {
        own = λ e d b. subst (λ (x : List Edge). Contains x e) own (own_edge l c e d (record {
          from = ⊎_elim (λ i. omega arith) (λ i. omega (arith, i.0)) b;
          below = ⊎_elim (λ i. omega arith) (λ i. omega (arith, i.1)) b;
        }));
      })
      (⊎_elim (λ i. inl i) (λ i. inr (omega arith)) (out.beside l c))
      w

  -- a statement without a condition, whose one edge leads to what follows
  plain : (st : Stmt) (k : ℕ) (rest : Stack) (p : ℕ) (s : State) (n q : ℕ) (s' : State) (next : ℕ) (op : Op)
      → Includes (program_places P) (places p k st next)
      → ((e : Edge) → Contains (own_edges p st next) e → Contains (edge_to p op (Some next)) e) → Fits P rest next
      → ((u : State) → Leads op s u → StepOf k st rest s rest u) → Walk (edges P) (suc n) p s q s'
      → Steps k st rest s n q s'
  plain st k rest p s n q s' next op i only h step w =
      let m = moves (record { point = p; number = k; stmt = st; next = next }) op n q s s'
      (own_place (program_places P) p k st next i) only w in
      record {
        stack = rest;
        state = m.state;
        step = step m.state m.leads;
        at = next;
        fits = h;
        left = n;
        fewer = omega arith;
        walk = m.walk;
      }

  -- the step that a test decides, where the walk leaves the test
  decided : {k : ℕ} {st : Stmt} {rest : Stack} {t : Test} {hit miss : Option ℕ} {s : State} {n q : ℕ} {s' : State}
      {x : ℕ} (stack : Stack) (l : Leaves (edges P) t hit miss s n q s') → l.at ≡ x → StepOf k st rest s stack s
      → Fits P stack x → Steps k st rest s n q s'
  decided {s = s} stack l to step h = record {
    stack = stack;
    state = s;
    step = step;
    at = l.at;
    fits = subst (λ (y : ℕ). Fits P stack y) (sym to) h;
    left = l.left;
    fewer = l.fewer;
    walk = l.walk;
  }

  advance : (st : Stmt) (k : ℕ) (rest : Stack) (p : ℕ) (s : State) (n q : ℕ) (s' : State)
      → Fits P (record { number = k; stmt = st } ∷ rest) p → Outside q → Walk (edges P) (suc n) p s q s'
      → Steps k st rest s n q s'
  advance (Set x t) k rest p s n q s' (next, i, h) out w =
      plain (Set x t) k rest p s n q s' next (Sets x t) i (λ e c. c) h (λ u l. (refl, l)) w
  advance (Havoc x) k rest p s n q s' (next, i, h) out w =
      plain (Havoc x) k rest p s n q s' next (Havocs x) i (λ e c. c) h (λ u l. (l.0, refl, l.1)) w
  advance (Assert a) k rest p s n q s' (next, i, h) out w =
      plain (Assert a) k rest p s n q s' next Skips i (λ e c. c) h (λ u l. (refl, l)) w
  advance Skip k rest p s n q s' (next, i, h) out w =
      plain Skip k rest p s n q s' next Skips i (λ e c. c) h (λ u l. (refl, l)) w
  advance (Assume c) k rest p s n q s' (next, i, h) out w =
      let l = exits (record { point = p; number = k; stmt = Assume c; next = next }) (test c) (Some next) None n q s s'
      (own_place (program_places P) p k (Assume c) next i) refl refl out w in
      go l l.value l.can l.is_target
    where
      go : (l : Leaves (edges P) (test c) (Some next) None s n q s') (b : Bool) → Can (test c) s b
          → target b (Some next) None ≡ Some l.at → Steps k (Assume c) rest s n q s'
      go l true can e =
          let to : l.at ≡ next = cc in
          decided rest l to (test_from s c true can, refl, refl) h
      go l false can e = cc
  advance (If c a b) k rest p s n q s' (next, i, h) out w =
      let l = exits (record { point = p; number = k; stmt = If c a b; next = next }) (test c) (Some first)
      (Some second) n q s s' (own_place (program_places P) p k (If c a b) next i) refl refl out w in
      go l l.value l.can l.is_target
    where
      x : ℕ
      x = p + 1 + inner (test c)

      first : ℕ
      first = entry (p + 1 + inner (test c)) a next

      second : ℕ
      second = entry (p + 1 + inner (test c) + widths a) b next

      parts : Includes (program_places P) (places_of (p + 1 + inner (test c)) (k + 1) a next ++ places_of
          (p + 1 + inner (test c) + widths a) (k + 1 + counts a) b next)
      parts = Includes-tail (program_places P) _ _ i

      go : (l : Leaves (edges P) (test c) (Some first) (Some second) s n q s') (v : Bool) → Can (test c) s v
          → target v (Some first) (Some second) ≡ Some l.at → Steps k (If c a b) rest s n q s'
      go l true can e =
          let to : l.at ≡ first = cc in
          decided (numbered (k + 1) a ++ rest) l to (inl (test_from s c true can, refl, refl))
          (block_fits P a (p + 1 + inner (test c)) (k + 1) next rest (Includes-left (program_places P) _ _ parts) h)
      go l false can e =
          let to : l.at ≡ second = cc in
          decided (numbered (k + 1 + counts a) b ++ rest) l to (inr (test_from s c false can, refl, refl))
          (block_fits P b (p + 1 + inner (test c) + widths a) (k + 1 + counts a) next rest
          (Includes-right (program_places P) (places_of (p + 1 + inner (test c)) (k + 1) a next) _ parts) h)
  advance (While c a) k rest p s n q s' (next, i, h) out w =
      let l = exits (record { point = p; number = k; stmt = While c a; next = next }) (test c) (Some first) (Some next)
      n q s s' (own_place (program_places P) p k (While c a) next i) refl refl out w in
      go l l.value l.can l.is_target
    where
      first : ℕ
      first = entry (p + 1 + inner (test c)) a p

      top : Numbered
      top = record { number = k; stmt = While c a }

      go : (l : Leaves (edges P) (test c) (Some first) (Some next) s n q s') (v : Bool) → Can (test c) s v
          → target v (Some first) (Some next) ≡ Some l.at → Steps k (While c a) rest s n q s'
      go l true can e =
          let to : l.at ≡ first = cc in
          decided (numbered (k + 1) a ++ top ∷ rest) l to (inl (test_from s c true can, refl, refl))
          (block_fits P a (p + 1 + inner (test c)) (k + 1) p (top ∷ rest) (Includes-tail (program_places P) _ _ i)
          (next, i, h))
      go l false can e =
          let to : l.at ≡ next = cc in
          decided rest l to (inr (test_from s c false can, refl, refl)) h

  -- a configuration of the program that fits the point
  record Found (q : ℕ) (s : State) : Type 0 where
    stack : Stack
    fits : Fits P stack q
    arrives : Arrives P stack s

  -- no edge begins at the exit
  no_exit_edge : (e : Edge) → Contains (edges P) e → e.from ≡ widths P.body → ⊥
  no_exit_edge e d f =
      let r = edge_place (program_places P) e d in
      let src = own_sources r.0.stmt r.0.point r.0.next e r.2 in
      let w = within 0 0 (program_places P) (0 + widths P.body) (0 + counts P.body)
      (places_of_tile 0 0 P.body (widths P.body)) r.0 r.1 in
      omega (arith, src.1, w.1)

  found_at : (fuel n : ℕ) → n ≤ fuel → (stack : Stack) (p : ℕ) (s : State) (q : ℕ) (s' : State) → Fits P stack p
      → Arrives P stack s → Outside q → Walk (edges P) n p s q s' → Found q s'
  found_at fuel zero le stack p s q s' f a out w =
      record {
        stack = stack;
        fits = subst (λ (x : ℕ). Fits P stack x) w.0 f;
        arrives = subst
            (λ (x : State). Arrives P stack x) w.1 a;
      }
  found_at zero (suc n) le stack p s q s' f a out w = absurd (omega arith)
  found_at (suc fuel) (suc n) le [] p s q s' f a out w = absurd (no_exit_edge w.0 w.1 (w.2 ∙ f))
  found_at (suc fuel) (suc n) le (top ∷ rest) p s q s' f a out w =
      let m = advance top.stmt top.number rest p s n q s' f out w in
      found_at fuel m.left (omega (arith, m.fewer)) m.stack m.at m.state q s' m.fits
      (goes_on (top ∷ rest) s m.stack m.state a m.step) out m.walk

  statement_outside : (p k : ℕ) → slice_get (points P) p ≡ Some (Statement k) → Outside p
  statement_outside p k e =
      let t = places_of_tile 0 0 P.body (widths P.body) in
      let m = statement_place 0 0 (program_places P) (0 + widths P.body) (0 + counts P.body) t p k e in
      record {
        beside = λ l c. ⊎_elim
            (λ far. inr far)
            (λ near. ⊎_elim
            (λ past.
            let same : l ≡ m.0 = one_place 0 0 (program_places P) (0 + widths P.body) (0 + counts P.body) t l m.0 p c
            m.1 (record { from = omega arith; below = near }) (record
            { from = omega (arith, m.2); below = omega (arith, m.2) }) in
            let point : l.point ≡ m.0.point = ap (λ (v : Place). v.point) same in
            inl (omega (arith, m.2)))
            (λ before. inl before)
            (le_or_lt (l.point + 1) p))
            (le_or_lt (l.point + 1 + own_inner l.stmt) p);
      }

  exit_outside : (p : ℕ) → slice_get (points P) p ≡ Some Exit → Outside p
  exit_outside p e =
      let t = places_of_tile 0 0 P.body (widths P.body) in
      let x = exit_is 0 0 (program_places P) (0 + widths P.body) (0 + counts P.body) t p e in
      record {
        beside = λ l c. let w = within 0 0 (program_places P) (0 + widths P.body) (0 + counts P.body) t l c in
            inr (omega (arith, w.1));
      }

  found_visits : (p : ℕ) (s : State) → Outside p → WalksTo P p s → Found p s
  found_visits p s out (start, wide, n, w) =
      found_at n n (omega arith) (numbered 0 P.body) 0 start p s (program_fits P) (begins start wide) out w

  -- what stands on a stack that fits a point
  pub top_point : (p : ℕ) (top : Numbered) (rest : Stack) → Fits P (top ∷ rest) p
      → slice_get (points P) p ≡ Some (Statement top.number)
  top_point p top rest f =
      point_of_place 0 0 (program_places P) (0 + widths P.body) (0 + counts P.body)
      (places_of_tile 0 0 P.body (widths P.body))
      (record { point = p; number = top.number; stmt = top.stmt; next = f.0 })
      (own_place (program_places P) p top.number top.stmt f.0 f.1) p (omega arith)

  pub end_point : (p : ℕ) → Fits P [] p → slice_get (points P) p ≡ Some Exit
  end_point p f =
      exit_point 0 0 (program_places P) (0 + widths P.body) (0 + counts P.body)
      (places_of_tile 0 0 P.body (widths P.body)) p (omega arith)

  at_exit : (p : ℕ) (s : State) (stack : Stack) → slice_get (points P) p ≡ Some Exit → Fits P stack p
      → Arrives P stack s → Arrives P [] s
  at_exit p s [] e f a = a
  at_exit p s (top ∷ rest) e f a = let g = top_point p top rest f in cc

  at_statement : (p k : ℕ) (s : State) (stack : Stack) → slice_get (points P) p ≡ Some (Statement k) → Fits P stack p
      → Arrives P stack s → VisitsOf P (Some (Statement k)) s
  at_statement p k s [] e f a = let g = end_point p f in cc
  at_statement p k s (top ∷ rest) e f a =
      let g = top_point p top rest f in
      let same : top.number ≡ k = cc in
      (top.stmt, rest, subst (λ (x : ℕ). Arrives P (record { number = x; stmt = top.stmt } ∷ rest) s) same a)

  -- each walk to an outer point is a visit
  pub reach_visits : (p : ℕ) (s : State) → IsOuter P p → WalksTo P p s → Visits P p s
  reach_visits p s o r = go (slice_get (points P) p) refl o
    where
      go : (x : Option Point) → slice_get (points P) p ≡ x → IsOuterPoint x → VisitsOf P x s
      go None e o = absurd o
      go (Some Inner) e o = absurd o
      go (Some Exit) e o = let f = found_visits p s (exit_outside p e) r in at_exit p s f.stack e f.fits f.arrives
      go (Some (Statement k)) e o = let f = found_visits p s (statement_outside p k e) r in at_statement p k s f.stack
          e f.fits f.arrives
