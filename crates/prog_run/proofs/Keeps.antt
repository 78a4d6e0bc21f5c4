-- What a step of the chosen run keeps: each statement that is to come can be computed, the state has one number for
-- each variable, and no number has grown by more than the greatest number of a program.
-- Index: numbered_ready, append_ready, Leaves and look_leaves (choices that are left), goes_is, branch_goes,
-- assume_goes, step_leaves, Holds, step_keeps.
use Rattle.std.proofs.Common.{◌≡◌, ℕ, suc, ◌+◌, ◌<◌, ◌≤◌, ◌^◌, ℤ, unsigned_abs, Bool, true, false, not, List, [], ◌∷◌, ◌++◌, Option, Some, None, length, refl, sym, ap, ◌∙◌, subst, arith}
use Rattle.prog_theory.specs.States.{State, value, changed}
use Rattle.prog_theory.specs.Conditions.{Cond, Any, Atom, Not, And, Or}
use Rattle.prog_theory.specs.Statements.{Stmt, Set, Havoc, Assume, Assert, If, While, Skip, Block, Empty, Then}
use Rattle.prog_theory.specs.Numbering.{count, counts, Numbered, numbered}
use Rattle.prog_theory.specs.Steps.{Stack}
use Rattle.prog_theory.specs.Each.{EachBlock}
use Rattle.prog_theory.specs.Fits.{FitsBlock}
use Rattle.prog_theory.specs.Within.{IsNumberWithin}
use Rattle.prog_theory.specs.Looks.{compares, is_choice_true, Look, look_not, look_on, look_second, look}
use Rattle.prog_theory.specs.Runs.{Config}
use Rattle.prog_theory.specs.Chosen.{Picked, Ends, Goes, pick_truth, pick_branch, pick_true, pick_assume, picked}
use Rattle.prog_run.specs.Shown.{config}
use Rattle.prog_run.specs.Ready.{AreWithin, IsAnything, IsReady, AreReady}
use Rattle.prog_run.proofs.Values.{value_within, more_within, changed_within, changed_length}

pub numbered_ready : (vars k : ℕ) (b : Block) → FitsBlock vars b → EachBlock IsAnything (IsNumberWithin (2 ^ 31)) b
    → k + counts b < 2 ^ 32 → AreReady vars (numbered k b)
numbered_ready vars k Empty f s h = tt
numbered_ready vars k (Then st b) f s h = (
  record { fits = f.0; small = s.0; numbers = omega arith },
  numbered_ready vars (k + count st) b f.1 s.1 (omega arith),
)

append_ready : (vars : ℕ) (ns ms : Stack) → AreReady vars ns → AreReady vars ms → AreReady vars (ns ++ ms)
append_ready vars [] ms h g = g
append_ready vars (n ∷ ns) ms h g = (h.0, append_ready vars ns ms h.1 g)

-- ---- choices that are left

tail_within : (n : ℕ) (c : ℤ) (cs : List ℤ) → AreWithin n (c ∷ cs) → AreWithin n cs
tail_within n c cs h = λ k d l. h (suc k) d (omega arith)

-- whatever holds of the choices, and of what is left where one is taken, holds of those that a look leaves
module _ (Q : List ℤ → Type 0) (tail : (c : ℤ) (cs : List ℤ) → Q (c ∷ cs) → Q cs) where
  abbrev Leaves : Option Look → Type 0
  Leaves o = (l : Look) → o ≡ Some l → Q l.left

  leaves_is : (k : Look) → Q k.left → Leaves (Some k)
  leaves_is k q l e = subst Q (ap (λ (o : Option Look). elim o [ None ↦ k.left | Some y ↦ y.left ]) e) q

  leaves_not : (o : Option Look) → Leaves o → Leaves (look_not o)
  leaves_not None h l e = cc
  leaves_not (Some k) h l e = leaves_is (record { truth = not k.truth; left = k.left }) (h k refl) l e

  leaves_on : (on : Bool) (cs : List ℤ) (right : List ℤ → Option Look) (b : Bool) → Q cs
      → ((ds : List ℤ) → Q ds → Leaves (right ds)) → Leaves (look_on on cs right b)
  leaves_on true cs right true q h = h cs q
  leaves_on true cs right false q h = leaves_is (record { truth = false; left = cs }) q
  leaves_on false cs right true q h = leaves_is (record { truth = true; left = cs }) q
  leaves_on false cs right false q h = h cs q

  leaves_second : (on : Bool) (o : Option Look) (right : List ℤ → Option Look) → Leaves o
      → ((ds : List ℤ) → Q ds → Leaves (right ds)) → Leaves (look_second on o right)
  leaves_second on None right h g l e = cc
  leaves_second on (Some k) right h g l e = leaves_on on k.left right k.truth (h k refl) g l e

  pub look_leaves : (c : Cond) (s : State) (cs : List ℤ) → Q cs → Leaves (look c s cs)
  look_leaves Any s [] q l e = cc
  look_leaves Any s (c ∷ cs) q l e = leaves_is (record { truth = is_choice_true c; left = cs }) (tail c cs q) l e
  look_leaves (Atom p c r) s cs q l e =
      leaves_is (record { truth = compares c (value p s) (value r s); left = cs }) q l e
  look_leaves (Not a) s cs q l e = leaves_not (look a s cs) (look_leaves a s cs q) l e
  look_leaves (And a b) s cs q l e =
      leaves_second true (look a s cs) (look b s) (look_leaves a s cs q) (λ ds p. look_leaves b s ds p) l e
  look_leaves (Or a b) s cs q l e =
      leaves_second false (look a s cs) (look b s) (look_leaves a s cs q) (λ ds p. look_leaves b s ds p) l e

  -- ---- what goes on

  module _ (P : Config → Type 0) where
    goes_is : (d x : Config) (cs left : List ℤ) → Goes d cs ≡ Goes x left → P d → Q cs → P x × Q left
    goes_is d x cs left e p q = (subst P (cc) p, subst Q (cc) q)

    branch_goes : (o : Option Look) (c d x : Config) (left : List ℤ) → pick_branch o c d ≡ Goes x left → P c → P d
        → Leaves o → P x × Q left
    branch_goes None c d x left e p r h = cc
    branch_goes (Some l) c d x left e p r h = go l.truth e
      where
        go : (b : Bool) → pick_truth b l.left c d ≡ Goes x left → P x × Q left
        go true e = goes_is c x l.left left e p (h l refl)
        go false e = goes_is d x l.left left e r (h l refl)

    assume_goes : (o : Option Look) (c x : Config) (left : List ℤ) → pick_assume o c ≡ Goes x left → P c → Leaves o
        → P x × Q left
    assume_goes None c x left e p h = cc
    assume_goes (Some l) c x left e p h = go l.truth e
      where
        go : (b : Bool) → pick_true b l.left c ≡ Goes x left → P x × Q left
        go true e = goes_is c x l.left left e p (h l refl)
        go false e = cc

  -- the choices that a step leaves
  abbrev Anything : Config → Type 0
  Anything c = Unit {0}

  pub step_leaves : (k : ℕ) (st : Stmt) (rest : Stack) (s : State) (cs : List ℤ) (x : Config) (left : List ℤ) → Q cs
      → picked k st rest s cs ≡ Goes x left → Q left
  step_leaves k (Set y t) rest s cs x left q e =
      let g = goes_is Anything (config rest (changed s y (value t s))) x cs left e tt q in g.1
  step_leaves k (Havoc y) rest s [] x left q e = cc
  step_leaves k (Havoc y) rest s (v ∷ cs) x left q e =
      let g = goes_is Anything (config rest (changed s y v)) x cs left e tt (tail v cs q) in g.1
  step_leaves k (Assume c) rest s cs x left q e =
      let g = assume_goes Anything (look c s cs) (config rest s) x left e tt (look_leaves c s cs q) in g.1
  step_leaves k (Assert c) rest s cs x left q e = let g = goes_is Anything (config rest s) x cs left e tt q in g.1
  step_leaves k Skip rest s cs x left q e = let g = goes_is Anything (config rest s) x cs left e tt q in g.1
  step_leaves k (If c a b) rest s cs x left q e =
      let g = branch_goes Anything (look c s cs) (config (numbered (k + 1) a ++ rest) s)
      (config (numbered (k + 1 + counts a) b ++ rest) s) x left e tt tt (look_leaves c s cs q) in g.1
  step_leaves k (While c a) rest s cs x left q e =
      let g = branch_goes Anything (look c s cs) (config
      (numbered (k + 1) a ++ record { number = k; stmt = While c a } ∷ rest) s) (config rest s) x left e tt tt
      (look_leaves c s cs q) in g.1

-- ---- a step

pub record Holds (vars n : ℕ) (c : Config) : Type 0 where
  pub width : length c.state ≡ vars
  pub ready : AreReady vars c.stack
  pub within : AreWithin n c.state

module _ (vars n k : ℕ) (rest : Stack) (s : State) (width : length s ≡ vars) (below : AreReady vars rest)
    (within : AreWithin n s) where
  abbrev P : Config → Type 0
  P c = Holds vars (n + 2 ^ 31) c

  abbrev Q : List ℤ → Type 0
  Q cs = AreWithin n cs

  same_state : (ns : Stack) → AreReady vars ns → P (config ns s)
  same_state ns h = record { width = width; ready = h; within = more_within n (n + 2 ^ 31) s (omega arith) within }

  new_state : (x : ℕ) (v : ℤ) → unsigned_abs v ≤ n + 2 ^ 31 → P (config rest (changed s x v))
  new_state x v h = record {
    width = changed_length s x v ∙ width;
    ready = below;
    within = changed_within (n + 2 ^ 31) s x v (more_within n (n + 2 ^ 31) s (omega arith) within) h;
  }

  tail : (c : ℤ) (cs : List ℤ) → Q (c ∷ cs) → Q cs
  tail c cs h = tail_within n c cs h

  pub step_keeps : (st : Stmt) (cs : List ℤ) (x : Config) (left : List ℤ) →
      IsReady vars (record { number = k; stmt = st })
      → AreWithin n cs → picked k st rest s cs ≡ Goes x left → P x × Q left
  step_keeps (Set y t) cs x left r q e =
      goes_is Q tail P (config rest (changed s y (value t s))) x cs left e
      (new_state y (value t s) (value_within n (2 ^ 31) s t within (subst (λ (w : ℕ). t.coord ≤ w) (sym width) r.fits.1)
      r.small.1)) q
  step_keeps (Havoc y) [] x left r q e = cc
  step_keeps (Havoc y) (v ∷ cs) x left r q e =
      goes_is Q tail P (config rest (changed s y v)) x cs left e
      (let h = q 0 v (omega arith) in new_state y v (omega arith)) (tail v cs q)
  step_keeps (Assume c) cs x left r q e =
      assume_goes Q tail P (look c s cs) (config rest s) x left e (same_state rest below) (look_leaves Q tail c s cs q)
  step_keeps (Assert c) cs x left r q e = goes_is Q tail P (config rest s) x cs left e (same_state rest below) q
  step_keeps Skip cs x left r q e = goes_is Q tail P (config rest s) x cs left e (same_state rest below) q
  step_keeps (If c a b) cs x left r q e =
      let ns = r.numbers in
      branch_goes Q tail P (look c s cs) (config (numbered (k + 1) a ++ rest) s)
      (config (numbered (k + 1 + counts a) b ++ rest) s) x left e
      (same_state (numbered (k + 1) a ++ rest) (append_ready vars (numbered (k + 1) a) rest
      (numbered_ready vars (k + 1) a r.fits.1 r.small.1 (omega arith)) below))
      (same_state (numbered (k + 1 + counts a) b ++ rest)
      (append_ready vars (numbered (k + 1 + counts a) b) rest
      (numbered_ready vars (k + 1 + counts a) b r.fits.2 r.small.2 (omega arith)) below))
      (look_leaves Q tail c s cs q)
  step_keeps (While c a) cs x left r q e =
      let ns = r.numbers in
      let again : Stack = record { number = k; stmt = While c a } ∷ rest in
      branch_goes Q tail P (look c s cs) (config (numbered (k + 1) a ++ again) s) (config rest s) x left e
      (same_state (numbered (k + 1) a ++ again) (append_ready vars (numbered (k + 1) a) again
      (numbered_ready vars (k + 1) a r.fits.1 r.small.1 (omega arith)) (r, below)))
      (same_state rest below) (look_leaves Q tail c s cs q)
