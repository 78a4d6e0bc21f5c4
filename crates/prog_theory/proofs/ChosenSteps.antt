-- Each configuration of the chosen run follows the last by a step.
-- Index: look_can, picked_step, run_head, run_steps, chosen_steps.
use Rattle.std.proofs.Common.{◌≡◌, ℕ, zero, suc, ◌+◌, ◌⊎◌, inl, inr, ⊎_elim, ℤ, ◌≤ℤ◌, ◌<ℤ◌, int_lt, int_le, ◌&&◌, not, Bool, true, false, List, [], ◌∷◌, ◌++◌, Option, Some, None, refl, sym, ap, subst, T, arith}
use Rattle.std.proofs.lemmas.Int.{ints}
use Rattle.std.specs.Int.Signed.{lt_z, le_z, lt_z_yes, le_z_yes}
use Rattle.prog_theory.specs.States.{State, value, changed}
use Rattle.prog_theory.specs.Conditions.{Cmp, Le, Lt, Ge, Gt, Eq, Ne, Cond, Any, Atom, Not, And, Or, Compares, CanBe}
use Rattle.prog_theory.specs.Statements.{Stmt, Set, Havoc, Assume, Assert, If, While, Skip, Program}
use Rattle.prog_theory.specs.Numbering.{counts, numbered}
use Rattle.prog_theory.specs.Steps.{Stack, StepOf, Step}
use Rattle.prog_theory.specs.Looks.{compares, Look, look_not, look_on, look_second, look}
use Rattle.prog_theory.specs.Runs.{Config, StepsTo, AreSteps}
use Rattle.prog_theory.proofs.Conditions.{le_both}
use Rattle.prog_theory.specs.Chosen.{Picked, Ends, Goes, pick_truth, pick_branch, pick_true, pick_assume, picked, Run, run_on, run_from, chosen_run}

-- a comparison has the truth value that it computes
abbrev Says : Bool → Type 0 → Type 0
Says true A = A
Says false A = A → ⊥

by_test : (b : Bool) (A : Type 0) (c : Bool) → c ≡ b → (T c → A) → (A → T c) → Says b A
by_test true A c e f g = f (subst T (sym e) tt)
by_test false A c e f g = λ h. subst T e (g h)

le_says : (x y : ℤ) → Says (int_le x y) (x ≤ℤ y)
le_says x y = by_test (le_z x y) (x ≤ℤ y) (le_z x y) refl (λ h. le_z_yes h) (λ h. h.le)

lt_says : (x y : ℤ) → Says (int_lt x y) (x <ℤ y)
lt_says x y = by_test (lt_z x y) (x <ℤ y) (lt_z x y) refl (λ h. lt_z_yes h) (λ h. h.lt)

le_same : (x y : ℤ) → x ≡ y → x ≤ℤ y
le_same x y e = omega (arith, ints)

same_says : (a b : Bool) (x y : ℤ) → Says a (x ≤ℤ y) → Says b (y ≤ℤ x) → Says (a && b) (x ≡ y)
same_says true true x y h g = le_both x y h g
same_says true false x y h g = λ e. g (le_same y x (sym e))
same_says false true x y h g = λ e. h (le_same x y e)
same_says false false x y h g = λ e. h (le_same x y e)

not_says : (b : Bool) (A : Type 0) → Says b A → Says (not b) (A → ⊥)
not_says true A h = λ n. n h
not_says false A h = h

compares_says : (c : Cmp) (x y : ℤ) → Says (compares c x y) (Compares c x y)
compares_says Le x y = le_says x y
compares_says Lt x y = lt_says x y
compares_says Ge x y = le_says y x
compares_says Gt x y = lt_says y x
compares_says Eq x y = same_says (int_le x y) (int_le y x) x y (le_says x y) (le_says y x)
compares_says Ne x y = not_says (int_le x y && int_le y x) (x ≡ y)
    (same_says (int_le x y) (int_le y x) x y (le_says x y) (le_says y x))

module _ (s : State) where
  atom_can : (b : Bool) (l r : _) (c : Cmp) → Says b (Compares c (value l s) (value r s)) → CanBe (Atom l c r) s b
  atom_can true l r c h = h
  atom_can false l r c h = h

  not_can : (a : Cond) (o : Option Look) (k : Look) → ((l : Look) → o ≡ Some l → CanBe a s l.truth)
      → look_not o ≡ Some k → CanBe (Not a) s k.truth
  not_can a None k h e = cc
  not_can a (Some l) k h e =
      let t : not l.truth ≡ k.truth = ap (λ (x : Look). x.truth) (same_some e) in
      subst (λ (b : Bool). CanBe a s (not b)) t (go l.truth (h l refl))
    where
      same_some : {x y : Look} → Some x ≡ Some y → x ≡ y
      same_some e = cc

      go : (b : Bool) → CanBe a s b → CanBe a s (not (not b))
      go true h = h
      go false h = h

  -- What a look sees, a condition J of two parts A and B can be: the first part stops the look with one truth value,
  -- and with the other one the second part decides.
  both_can : (on : Bool) (A B J : Bool → Type 0) → (A (not on) → J (not on)) → ((t : Bool) → A on → B t → J t)
      → (o : Option Look) (right : List ℤ → Option Look) (k : Look) → ((l : Look) → o ≡ Some l → A l.truth)
      → ((cs : List ℤ) (l : Look) → right cs ≡ Some l → B l.truth) → look_second on o right ≡ Some k → J k.truth
  both_can on A B J stops goes None right k h g e = cc
  both_can on A B J stops goes (Some l) right k h g e = go on l.truth stops goes (h l refl) e
    where
      seen : (t : Bool) → Some (record { truth = t; left = l.left }) ≡ Some k → t ≡ k.truth
      seen t e = ap (λ (x : Option Look). elim x [ None ↦ false | Some y ↦ y.truth ]) e

      go : (on t : Bool) → (A (not on) → J (not on)) → ((t : Bool) → A on → B t → J t) → A t
          → look_on on l.left right t ≡ Some k → J k.truth
      go true true stops goes c e = goes k.truth c (g l.left k e)
      go false false stops goes c e = goes k.truth c (g l.left k e)
      go true false stops goes c e = subst J (seen false e) (stops c)
      go false true stops goes c e = subst J (seen true e) (stops c)

  and_can : (a b : Cond) (t : Bool) → CanBe a s true → CanBe b s t → CanBe (And a b) s t
  and_can a b true x y = (x, y)
  and_can a b false x y = inr y

  or_can : (a b : Cond) (t : Bool) → CanBe a s false → CanBe b s t → CanBe (Or a b) s t
  or_can a b true x y = inr y
  or_can a b false x y = (x, y)

  pub look_can : (c : Cond) (cs : List ℤ) (l : Look) → look c s cs ≡ Some l → CanBe c s l.truth
  look_can Any cs l e = tt
  look_can (Atom p c q) cs l e =
      let t : compares c (value p s) (value q s) ≡ l.truth = ap
      (λ (x : Option Look). elim x [ None ↦ false | Some y ↦ y.truth ]) e in
      subst (λ (x : Bool). CanBe (Atom p c q) s x) t (atom_can (compares c (value p s) (value q s)) p q c
      (compares_says c (value p s) (value q s)))
  look_can (Not a) cs l e = not_can a (look a s cs) l (λ k d. look_can a cs k d) e
  look_can (And a b) cs l e =
      both_can true (CanBe a s) (CanBe b s) (CanBe (And a b) s) (λ c. inl c) (and_can a b) (look a s cs) (look b s) l
      (λ k d. look_can a cs k d) (λ ds k d. look_can b ds k d) e
  look_can (Or a b) cs l e =
      both_can false (CanBe a s) (CanBe b s) (CanBe (Or a b) s) (λ c. inl c) (or_can a b) (look a s cs) (look b s) l
      (λ k d. look_can a cs k d) (λ ds k d. look_can b ds k d) e

-- what a branch that is picked says of the look
record Branches (o : Option Look) (c d x : Config) : Type 0 where
  seen : Look
  is_seen : o ≡ Some seen
  where_to : ((seen.truth ≡ true) × (c ≡ x)) ⊎ ((seen.truth ≡ false) × (d ≡ x))

branches : (o : Option Look) (c d x : Config) (left : List ℤ) → pick_branch o c d ≡ Goes x left → Branches o c d x
branches None c d x left e = cc
branches (Some l) c d x left e = record { seen = l; is_seen = refl; where_to = go l.truth refl e }
  where
    go : (b : Bool) → l.truth ≡ b → pick_truth b l.left c d ≡ Goes x left
        → ((l.truth ≡ true) × (c ≡ x)) ⊎ ((l.truth ≡ false) × (d ≡ x))
    go true t e = inl (t, cc)
    go false t e = inr (t, cc)

assumes : (o : Option Look) (c x : Config) (left : List ℤ) → pick_assume o c ≡ Goes x left
    → (l : Look) × (o ≡ Some l) × (l.truth ≡ true) × (c ≡ x)
assumes None c x left e = cc
assumes (Some l) c x left e = go l.truth refl e
  where
    go : (b : Bool) → l.truth ≡ b → pick_true b l.left c ≡ Goes x left
        → (k : Look) × (Some l ≡ Some k) × (k.truth ≡ true) × (c ≡ x)
    go true t e = (l, refl, t, cc)
    go false t e = cc

module _ (k : ℕ) (rest : Stack) (s : State) where
  at_config : (st : Stmt) (c x : Config) → c ≡ x → StepOf k st rest s c.stack c.state
      → StepOf k st rest s x.stack x.state
  at_config st c x e h = subst (λ (y : Config). StepOf k st rest s y.stack y.state) e h

  looked : (c : Cond) (cs : List ℤ) (l : Look) (b : Bool) → look c s cs ≡ Some l → l.truth ≡ b → CanBe c s b
  looked c cs l b e t = subst (λ (x : Bool). CanBe c s x) t (look_can s c cs l e)

  -- what is picked is a step
  pub picked_step : (st : Stmt) (cs : List ℤ) (x : Config) (left : List ℤ) → picked k st rest s cs ≡ Goes x left
      → StepOf k st rest s x.stack x.state
  picked_step (Set y t) cs x left e = at_config (Set y t) (record { stack = rest; state = changed s y (value t s) }) x
      (cc) (refl, refl)
  picked_step (Havoc y) [] x left e = cc
  picked_step (Havoc y) (v ∷ cs) x left e = at_config (Havoc y) (record { stack = rest; state = changed s y v }) x (cc)
      (v, refl, refl)
  picked_step (Assume c) cs x left e =
      let a = assumes (look c s cs) (record { stack = rest; state = s }) x left e in
      at_config (Assume c) (record { stack = rest; state = s }) x a.3 (looked c cs a.0 true a.1 a.2, refl, refl)
  picked_step (Assert a) cs x left e = at_config (Assert a) (record { stack = rest; state = s }) x (cc) (refl, refl)
  picked_step Skip cs x left e = at_config Skip (record { stack = rest; state = s }) x (cc) (refl, refl)
  picked_step (If c a b) cs x left e =
      let first : Config = record { stack = numbered (k + 1) a ++ rest; state = s } in
      let second : Config = record { stack = numbered (k + 1 + counts a) b ++ rest; state = s } in
      let r = branches (look c s cs) first second x left e in
      ⊎_elim
      (λ i. at_config (If c a b) first x i.1 (inl (looked c cs r.seen true r.is_seen i.0, refl, refl)))
      (λ i. at_config (If c a b) second x i.1 (inr (looked c cs r.seen false r.is_seen i.0, refl, refl)))
      r.where_to
  picked_step (While c a) cs x left e =
      let first : Config = record {
        stack = numbered (k + 1) a ++ record { number = k; stmt = While c a } ∷ rest;
        state
            = s;
      } in
      let second : Config = record { stack = rest; state = s } in
      let r = branches (look c s cs) first second x left e in
      ⊎_elim
      (λ i. at_config (While c a) first x i.1 (inl (looked c cs r.seen true r.is_seen i.0, refl, refl)))
      (λ i. at_config (While c a) second x i.1 (inr (looked c cs r.seen false r.is_seen i.0, refl, refl)))
      r.where_to

run_on_head : (p : Picked) (c : Config) (more : Config → List ℤ → Run)
    → (rest : List Config) × ((run_on p c more).configs ≡ c ∷ rest)
run_on_head (Ends e) c more = ([], refl)
run_on_head (Goes d left) c more = ((more d left).configs, refl)

-- a run begins with its first configuration
pub run_head : (turns : ℕ) (stack : Stack) (s : State) (cs : List ℤ)
    → (rest : List Config) × ((run_from turns stack s cs).configs ≡ record { stack = stack; state = s } ∷ rest)
run_head turns [] s cs = ([], refl)
run_head zero (top ∷ rest) s cs = ([], refl)
run_head (suc turns) (top ∷ rest) s cs =
    run_on_head (picked top.number top.stmt rest s cs) (record { stack = top ∷ rest; state = s })
    (λ c left. run_from turns c.stack c.state left)

steps_on : (c : Config) (p : Picked) (more : Config → List ℤ → Run)
    → ((d : Config) (left : List ℤ) → p ≡ Goes d left → Step c.stack c.state d.stack d.state)
    → ((d : Config) (left : List ℤ) → (rest : List Config) × ((more d left).configs ≡ d ∷ rest))
    → ((d : Config) (left : List ℤ) → AreSteps (more d left).configs) → AreSteps (run_on p c more).configs
steps_on c (Ends e) more step head steps = (tt, tt)
steps_on c (Goes d left) more step head steps =
    (subst (λ (ds : List Config). StepsTo c ds) (sym (head d left).1) (step d left refl), steps d left)

pub run_steps : (turns : ℕ) (stack : Stack) (s : State) (cs : List ℤ) → AreSteps (run_from turns stack s cs).configs
run_steps turns [] s cs = (tt, tt)
run_steps zero (top ∷ rest) s cs = (tt, tt)
run_steps (suc turns) (top ∷ rest) s cs =
    steps_on (record { stack = top ∷ rest; state = s }) (picked top.number top.stmt rest s cs)
    (λ c left. run_from turns c.stack c.state left)
    (λ d left e. picked_step top.number rest s top.stmt cs d left e)
    (λ d left. run_head turns d.stack d.state left)
    (λ d left. run_steps turns d.stack d.state left)

-- each configuration of the chosen run follows the last by a step
pub chosen_steps : (P : Program) (s : State) (cs : List ℤ) (turns : ℕ) → AreSteps (chosen_run P s cs turns).configs
chosen_steps P s cs turns = run_steps turns (numbered 0 P.body) s cs
