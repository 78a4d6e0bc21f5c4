-- A walk that begins where the edges of a test begin, and ends at no inner point of it, comes to one of its targets
-- with a truth value that the test can have, and goes on from there with no more edges.
-- Index: IsEdgeTo, edge_to_is, Begins, test_sources, Owns, Leaves, test_leaves.
use Rattle.std.proofs.Common.{◌≡◌, ℕ, zero, suc, ◌+◌, ◌<◌, ◌≤◌, ◌⊎◌, inl, inr, ⊎_elim, Bool, true, false, List, [], ◌++◌, Option, Some, None, sym, ap, subst, arith, Contains}
use Rattle.std.proofs.lemmas.List.Elements.{Contains-append_cases}
use Rattle.prog_theory.specs.States.{State, Term}
use Rattle.prog_theory.specs.Tests.{Test, Choice, Guard, Negated, Both, Either, above, inner}
use Rattle.prog_theory.specs.Edges.{Op, Skips, Guards, Edge, edge_to, test_edges}
use Rattle.prog_theory.specs.Walks.{Leads}
use Rattle.prog_theory.proofs.Lengths.{Walk}
use Rattle.prog_theory.proofs.Elements.{Contains-cases, Contains-none}
use Rattle.prog_theory.proofs.Conditions.{Can}
use Rattle.prog_theory.proofs.TestEdges.{target}

-- an edge of a single target
pub record IsEdgeTo (f : ℕ) (act : Op) (o : Option ℕ) (e : Edge) : Type 0 where
  pub from : e.from ≡ f
  pub op : e.op ≡ act
  pub to : o ≡ Some e.to

pub edge_to_is : (f : ℕ) (op : Op) (o : Option ℕ) (e : Edge) → Contains (edge_to f op o) e → IsEdgeTo f op o e
edge_to_is f op None e c = absurd (Contains-none e c)
edge_to_is f op (Some t) e c =
    ⊎_elim
    (λ h. record {
      from = ap (λ (x : Edge). x.from) h;
      op = ap (λ (x : Edge). x.op) h;
      to = sym
          (ap (λ (x : Edge). Some x.to) h);
    })
    (λ h. absurd (Contains-none e h))
    (Contains-cases (record { from = f; to = t; op = op }) [] e c)

-- a point is where the edges of the test begin, or an inner point of it
abbrev pub Begins : Test → ℕ → ℕ → ℕ → Type 0
Begins t f m p = (p ≡ f) ⊎ ((m ≤ p) × (p < m + inner t))

pub test_sources : (t : Test) (f m : ℕ) (hit miss : Option ℕ) (e : Edge) → Contains (test_edges t f m hit miss) e
    → Begins t f m e.from
test_sources Choice f m hit miss e c =
    inl (⊎_elim (λ h. (edge_to_is f Skips hit e h).from) (λ h. (edge_to_is f Skips miss e h).from)
    (Contains-append_cases (edge_to f Skips hit) (edge_to f Skips miss) e c))
test_sources (Guard l r) f m hit miss e c =
    inl (⊎_elim (λ h. (edge_to_is f (Guards l r) hit e h).from)
    (λ h. (edge_to_is f (Guards (above r) l) miss e h).from)
    (Contains-append_cases (edge_to f (Guards l r) hit) (edge_to f (Guards (above r) l) miss) e c))
test_sources (Negated a) f m hit miss e c = test_sources a f m miss hit e c
test_sources (Both a b) f m hit miss e c =
    ⊎_elim
    (λ h. ⊎_elim (λ k. inl k) (λ k. inr (k.0, omega (arith, k.1))) (test_sources a f m (Some (m + inner a)) miss e h))
    (λ h. inr (⊎_elim (λ k. (omega arith, omega arith)) (λ k. (omega (arith, k.0), omega (arith, k.1)))
    (test_sources b (m + inner a) (m + inner a + 1) hit miss e h)))
    (Contains-append_cases (test_edges a f m (Some (m + inner a)) miss)
    (test_edges b (m + inner a) (m + inner a + 1) hit miss) e c)
test_sources (Either a b) f m hit miss e c =
    ⊎_elim
    (λ h. ⊎_elim (λ k. inl k) (λ k. inr (k.0, omega (arith, k.1))) (test_sources a f m hit (Some (m + inner a)) e h))
    (λ h. inr (⊎_elim (λ k. (omega arith, omega arith)) (λ k. (omega (arith, k.0), omega (arith, k.1)))
    (test_sources b (m + inner a) (m + inner a + 1) hit miss e h)))
    (Contains-append_cases (test_edges a f m hit (Some (m + inner a)))
    (test_edges b (m + inner a) (m + inner a + 1) hit miss) e c)

-- every edge that begins in the test is one of its own
pub record Owns (es : List Edge) (t : Test) (f m : ℕ) (hit miss : Option ℕ) : Type 0 where
  pub own : (e : Edge) → Contains es e → Begins t f m e.from → Contains (test_edges t f m hit miss) e

-- the walk leaves the test with a truth value, at a target, and at most n edges are left of it
pub record Leaves (es : List Edge) (t : Test) (hit miss : Option ℕ) (s : State) (n q : ℕ) (s' : State) : Type 0 where
  pub value : Bool
  pub at : ℕ
  pub left : ℕ
  pub fewer : left ≤ n
  pub can : Can t s value
  pub is_target : target value hit miss ≡ Some at
  pub walk : Walk es left at s q s'

module _ (es : List Edge) where
  -- the edges of a test without inner points
  leaves_at : (t : Test) (hit miss : Option ℕ) (s : State) (n q : ℕ) (s' : State) (b : Bool) (e : Edge) (u : State)
      → Can t s b → target b hit miss ≡ Some e.to → u ≡ s → Walk es n e.to u q s' → Leaves es t hit miss s n q s'
  leaves_at t hit miss s n q s' b e u c i k w =
      record {
        value = b;
        at = e.to;
        left = n;
        fewer = omega arith;
        can = c;
        is_target = i;
        walk = subst
            (λ (x : State). Walk es n e.to x q s') k w;
      }

  -- the same way out, as one of another test and with more room
  left_as : {t u : Test} {hit miss more other : Option ℕ} {s s' : State} {k n q : ℕ}
      (l : Leaves es t hit miss s k q s') (b : Bool) → k ≤ n → Can u s b → target b more other ≡ Some l.at
      → Leaves es u more other s n q s'
  left_as l b le can is_target = record {
    value = b;
    at = l.at;
    left = l.left;
    fewer = omega (arith, l.fewer);
    can = can;
    is_target = is_target;
    walk = l.walk;
  }

  negated : (a : Test) (hit miss : Option ℕ) (s : State) (n q : ℕ) (s' : State) → Leaves es a miss hit s n q s'
      → Leaves es (Negated a) hit miss s n q s'
  negated a hit miss s n q s' l = go l.value l.can l.is_target
    where
      go : (b : Bool) → Can a s b → target b miss hit ≡ Some l.at → Leaves es (Negated a) hit miss s n q s'
      go true c i = left_as l false (omega arith) c i
      go false c i = left_as l true (omega arith) c i

  leads_skip : (op : Op) (s u : State) → op ≡ Skips → Leads op s u → u ≡ s
  leads_skip op s u e l = subst (λ (o : Op). Leads o s u) e l

  leads_guard : (op : Op) (x y : Term) (s u : State) → op ≡ Guards x y → Leads op s u → Leads (Guards x y) s u
  leads_guard op x y s u e l = subst (λ (o : Op). Leads o s u) e l

  -- the edges of the first part, and of the second part, of a test of two parts
  owns_left : (a b : Test) (f m : ℕ) (h1 m1 h2 m2 : Option ℕ) → f < m
      → ((e : Edge) → Contains es e → (e.from ≡ f) ⊎ ((m ≤ e.from) × (e.from < m + (inner a + 1 + inner b))) → Contains
      (test_edges a f m h1 m1 ++ test_edges b (m + inner a) (m + inner a + 1) h2 m2) e)
      → Owns es a f m h1 m1
  owns_left a b f m h1 m1 h2 m2 below o = record {
    own = λ e c i. ⊎_elim
        (λ h. h)
        (λ h. absurd (⊎_elim
        (λ k. ⊎_elim (λ j. omega arith) (λ j. omega (arith, j.1)) i)
        (λ k. ⊎_elim (λ j. omega (arith, k.0)) (λ j. omega (arith, j.1, k.0)) i)
        (test_sources b (m + inner a) (m + inner a + 1) h2 m2 e h)))
        (Contains-append_cases (test_edges a f m h1 m1) (test_edges b (m + inner a) (m + inner a + 1) h2 m2) e
        (o e c (⊎_elim (λ j. inl j) (λ j. inr (j.0, omega (arith, j.1))) i)));
  }

  owns_right : (a b : Test) (f m : ℕ) (h1 m1 h2 m2 : Option ℕ) → f < m
      → ((e : Edge) → Contains es e → (e.from ≡ f) ⊎ ((m ≤ e.from) × (e.from < m + (inner a + 1 + inner b))) → Contains
      (test_edges a f m h1 m1 ++ test_edges b (m + inner a) (m + inner a + 1) h2 m2) e)
      → Owns es b (m + inner a) (m + inner a + 1) h2 m2
  owns_right a b f m h1 m1 h2 m2 below o = record {
    own = λ e c i. ⊎_elim
        (λ h. absurd (⊎_elim
        (λ k. ⊎_elim (λ j. omega arith) (λ j. omega (arith, j.0)) i)
        (λ k. ⊎_elim (λ j. omega (arith, k.1)) (λ j. omega (arith, j.0, k.1)) i)
        (test_sources a f m h1 m1 e h)))
        (λ h. h)
        (Contains-append_cases (test_edges a f m h1 m1) (test_edges b (m + inner a) (m + inner a + 1) h2 m2) e
        (o e c (⊎_elim (λ j. inr (omega arith, omega arith)) (λ j. inr (omega (arith, j.0), omega (arith, j.1)))
        i)));
  }

  -- the walk goes on in the second part
  through : (b : Test) (hit miss : Option ℕ) (s : State) (k q : ℕ) (s' : State) (x : ℕ) → (x ≡ q → ⊥)
      → ((n : ℕ) → Walk es (suc n) x s q s' → Leaves es b hit miss s n q s') → Walk es k x s q s'
      → Leaves es b hit miss s k q s'
  through b hit miss s zero q s' x ne go w = absurd (ne w.0)
  through b hit miss s (suc n) q s' x ne go w =
      let l = go n w in
      left_as l l.value (omega arith) l.can l.is_target

  both_right : (a c : Test) (hit miss : Option ℕ) (s : State) (n k q : ℕ) (s' : State) → k ≤ n → Can a s true
      → Leaves es c hit miss s k q s' → Leaves es (Both a c) hit miss s n q s'
  both_right a c hit miss s n k q s' le first l = go l.value l.can l.is_target
    where
      go : (b : Bool) → Can c s b → target b hit miss ≡ Some l.at → Leaves es (Both a c) hit miss s n q s'
      go true can i = left_as l true le (first, can) i
      go false can i = left_as l false le (inr can) i

  either_right : (a c : Test) (hit miss : Option ℕ) (s : State) (n k q : ℕ) (s' : State) → k ≤ n → Can a s false
      → Leaves es c hit miss s k q s' → Leaves es (Either a c) hit miss s n q s'
  either_right a c hit miss s n k q s' le first l = go l.value l.can l.is_target
    where
      go : (b : Bool) → Can c s b → target b hit miss ≡ Some l.at → Leaves es (Either a c) hit miss s n q s'
      go true can i = left_as l true le (inr can) i
      go false can i = left_as l false le (first, can) i

  both_left : (a c : Test) (m : ℕ) (hit miss : Option ℕ) (s : State) (n q : ℕ) (s' : State)
      → ((k : ℕ) → Walk es k m s q s' → Leaves es c hit miss s k q s') → Leaves es a (Some m) miss s n q s'
      → Leaves es (Both a c) hit miss s n q s'
  both_left a c m hit miss s n q s' rest l = go l.value l.can l.is_target
    where
      go : (b : Bool) → Can a s b → target b (Some m) miss ≡ Some l.at → Leaves es (Both a c) hit miss s n q s'
      go true can i =
          let same : l.at ≡ m = cc in
          both_right a c hit miss s n l.left q s' l.fewer can
          (rest l.left (subst (λ (x : ℕ). Walk es l.left x s q s') same l.walk))
      go false can i = left_as l false (omega arith) (inl can) i

  either_left : (a c : Test) (m : ℕ) (hit miss : Option ℕ) (s : State) (n q : ℕ) (s' : State)
      → ((k : ℕ) → Walk es k m s q s' → Leaves es c hit miss s k q s') → Leaves es a hit (Some m) s n q s'
      → Leaves es (Either a c) hit miss s n q s'
  either_left a c m hit miss s n q s' rest l = go l.value l.can l.is_target
    where
      go : (b : Bool) → Can a s b → target b hit (Some m) ≡ Some l.at → Leaves es (Either a c) hit miss s n q s'
      go false can i =
          let same : l.at ≡ m = cc in
          either_right a c hit miss s n l.left q s' l.fewer can
          (rest l.left (subst (λ (x : ℕ). Walk es l.left x s q s') same l.walk))
      go true can i = left_as l true (omega arith) (inl can) i

  pub test_leaves : (t : Test) (f m : ℕ) (hit miss : Option ℕ) (s : State) (n q : ℕ) (s' : State) → f < m
      → Owns es t f m hit miss → (q < m) ⊎ (m + inner t ≤ q) → Walk es (suc n) f s q s' → Leaves es t hit miss s n q s'
  test_leaves Choice f m hit miss s n q s' below o out w =
      ⊎_elim
      (λ h. let i = edge_to_is f Skips hit w.0 h in leaves_at Choice hit miss s n q s' true w.0 w.3 tt i.to
      (leads_skip w.0.op s w.3 i.op w.4) w.5)
      (λ h. let i = edge_to_is f Skips miss w.0 h in leaves_at Choice hit miss s n q s' false w.0 w.3 tt i.to
      (leads_skip w.0.op s w.3 i.op w.4) w.5)
      (Contains-append_cases (edge_to f Skips hit) (edge_to f Skips miss) w.0 (o.own w.0 w.1 (inl w.2)))
  test_leaves (Guard l r) f m hit miss s n q s' below o out w =
      ⊎_elim
      (λ h. let i = edge_to_is f (Guards l r) hit w.0 h in
      let d = leads_guard w.0.op l r s w.3 i.op w.4 in
      leaves_at (Guard l r) hit miss s n q s' true w.0 w.3 d.0 i.to d.1 w.5)
      (λ h. let i = edge_to_is f (Guards (above r) l) miss w.0 h in
      let d = leads_guard w.0.op (above r) l s w.3 i.op w.4 in
      leaves_at (Guard l r) hit miss s n q s' false w.0 w.3 d.0 i.to d.1 w.5)
      (Contains-append_cases (edge_to f (Guards l r) hit) (edge_to f (Guards (above r) l) miss) w.0
      (o.own w.0 w.1 (inl w.2)))
  test_leaves (Negated a) f m hit miss s n q s' below o out w =
      negated a hit miss s n q s' (test_leaves a f m miss hit s n q s' below (record { own = o.own }) out w)
  test_leaves (Both a c) f m hit miss s n q s' below o out w =
      both_left a c (m + inner a) hit miss s n q s'
      (λ k v. through c hit miss s k q s' (m + inner a) (λ e. ⊎_elim (λ j. omega arith) (λ j. omega arith) out)
      (λ i u. test_leaves c (m + inner a) (m + inner a + 1) hit miss s i q s' (omega arith)
      (owns_right a c f m (Some (m + inner a)) miss hit miss below o.own)
      (⊎_elim (λ j. inl (omega arith)) (λ j. inr (omega arith)) out) u) v)
      (test_leaves a f m (Some (m + inner a)) miss s n q s' below
      (owns_left a c f m (Some (m + inner a)) miss hit miss below o.own)
      (⊎_elim (λ j. inl j) (λ j. inr (omega arith)) out) w)
  test_leaves (Either a c) f m hit miss s n q s' below o out w =
      either_left a c (m + inner a) hit miss s n q s'
      (λ k v. through c hit miss s k q s' (m + inner a) (λ e. ⊎_elim (λ j. omega arith) (λ j. omega arith) out)
      (λ i u. test_leaves c (m + inner a) (m + inner a + 1) hit miss s i q s' (omega arith)
      (owns_right a c f m hit (Some (m + inner a)) hit miss below o.own)
      (⊎_elim (λ j. inl (omega arith)) (λ j. inr (omega arith)) out) u) v)
      (test_leaves a f m hit (Some (m + inner a)) s n q s' below
      (owns_left a c f m hit (Some (m + inner a)) hit miss below o.own)
      (⊎_elim (λ j. inl j) (λ j. inr (omega arith)) out) w)
