-- Each run ends for its cause.
-- Index: branch_ends, assume_ends, ends_cause (a step that is not taken), Caused, Suffix, at_once, caused_on, caused,
-- chosen_trace.
use Rattle.std.proofs.Common.{◌≡◌, ℕ, zero, suc, ◌+◌, ◌-◌, ◌<◌, ◌≤◌, ℤ, Bool, true, false, List, [], ◌∷◌, ◌++◌, map, Option, Some, None, length, refl, sym, ap, ◌∙◌, subst, append_assoc, arith}
use Rattle.prog_theory.specs.States.{State}
use Rattle.prog_theory.specs.Conditions.{Cond}
use Rattle.prog_theory.specs.Statements.{Stmt, Set, Havoc, Assume, Assert, If, While, Skip, Program}
use Rattle.prog_theory.specs.Numbering.{Numbered, numbered}
use Rattle.prog_theory.specs.Steps.{Stack}
use Rattle.prog_theory.specs.Looks.{Look, look}
use Rattle.prog_theory.specs.Runs.{Config, AreSteps}
use Rattle.prog_theory.specs.Chosen.{End, Finished, TurnsSpent, OutOfChoices, AssumeFailed, Picked, Ends, Goes, pick_truth, pick_branch, pick_true, pick_assume, picked, Run, run_on, run_from, chosen_run}
use Rattle.prog_theory.proofs.ChosenSteps.{run_head, chosen_steps}
use Rattle.prog_run.specs.Shown.{shown, config}
use Rattle.prog_run.specs.Causes.{NeedsChoice, FailsAssume, IsTopCause, IsCause}
use Rattle.prog_run.specs.Traces.{IsRun, IsTrace}
use Rattle.prog_run.proofs.Keeps.{step_leaves}

-- ---- a step that is not taken

same_end : (e f : End) → Ends e ≡ Ends f → e ≡ f
same_end e f p = cc

branch_ends : (o : Option Look) (c d : Config) (e : End) → pick_branch o c d ≡ Ends e → (e ≡ OutOfChoices) × (o ≡ None)
branch_ends None c d e p = (cc, refl)
branch_ends (Some l) c d e p = go l.truth p
  where
    go : (b : Bool) → pick_truth b l.left c d ≡ Ends e → (e ≡ OutOfChoices) × (Some l ≡ None)
    go true p = cc
    go false p = cc

false_look : (l : Look) → l.truth ≡ false → Some l ≡ Some (record { truth = false; left = l.left })
false_look l e = ap (λ (b : Bool). Some (record { truth = b; left = l.left })) e

-- an assume ends a run in one of two ways
assume_ends : (t : ℕ) (k : Cond) (s : State) (cs : List ℤ) (o : Option Look) (c : Config) (e : End) → 0 < t →
    look k s cs ≡ o
    → pick_assume o c ≡ Ends e → IsTopCause e t (Assume k) s cs
assume_ends t k s cs None c e l q p =
    let f : e ≡ OutOfChoices = cc in subst (λ (x : End). IsTopCause x t (Assume k) s cs) (sym f) (l, q)
assume_ends t k s cs (Some seen) c e l q p = go seen.truth refl p
  where
    go : (b : Bool) → seen.truth ≡ b → pick_true b seen.left c ≡ Ends e → IsTopCause e t (Assume k) s cs
    go true w p = cc
    go false w p =
        let f : e ≡ AssumeFailed = cc in
        subst (λ (x : End). IsTopCause x t (Assume k) s cs) (sym f) (l, (seen.left, q ∙ false_look seen w))

ends_cause : (t k : ℕ) (st : Stmt) (rest : Stack) (s : State) (cs : List ℤ) (e : End) → 0 < t →
    picked k st rest s cs ≡ Ends e
    → IsTopCause e t st s cs
ends_cause t k (Set x v) rest s cs e l p = cc
ends_cause t k (Havoc x) rest s [] e l p =
    let f : e ≡ OutOfChoices = cc in subst (λ (y : End). IsTopCause y t (Havoc x) s []) (sym f) (l, refl)
ends_cause t k (Havoc x) rest s (c ∷ cs) e l p = cc
ends_cause t k (Assume c) rest s cs e l p = assume_ends t c s cs (look c s cs) (config rest s) e l refl p
ends_cause t k (Assert c) rest s cs e l p = cc
ends_cause t k Skip rest s cs e l p = cc
ends_cause t k (If c a b) rest s cs e l p =
    let h = branch_ends (look c s cs) _ _ e p in subst (λ (y : End). IsTopCause y t (If c a b) s cs) (sym h.0) (l, h.1)
ends_cause t k (While c a) rest s cs e l p =
    let h = branch_ends (look c s cs) _ _ e p in subst (λ (y : End). IsTopCause y t (While c a) s cs) (sym h.0) (l, h.1)

-- ---- a run

record Caused (turns : ℕ) (given : List ℤ) (r : Run) : Type 0 where
  before : List Config
  last : Config
  taken : List ℤ
  left : List ℤ
  configs : r.configs ≡ before ++ last ∷ []
  choices : given ≡ taken ++ left
  few : length before ≤ turns
  cause : IsCause r.ended (turns - length before) last.stack last.state left

-- what a step leaves of the choices is their end
abbrev Suffix : List ℤ → List ℤ → Type 0
Suffix cs left = (taken : List ℤ) × (cs ≡ taken ++ left)

suffix_tail : (cs : List ℤ) (c : ℤ) (ds : List ℤ) → Suffix cs (c ∷ ds) → Suffix cs ds
suffix_tail cs c ds h = (h.0 ++ c ∷ [], h.1 ∙ sym (append_assoc h.0 (c ∷ []) ds))

-- a run of one configuration, which ends there
at_once : (turns : ℕ) (stack : Stack) (s : State) (cs : List ℤ) (e : End) → IsCause e (turns - 0) stack s cs →
    Caused turns cs (record { configs = config stack s ∷ []; ended = e })
at_once turns stack s cs e cause = record {
  before = [];
  last = config stack s;
  taken = [];
  left = cs;
  configs = refl;
  choices = refl;
  few = omega arith;
  cause = cause;
}

caused_on : (turns : ℕ) (top : Numbered) (rest : Stack) (s : State) (cs : List ℤ) (p : Picked) →
    picked top.number top.stmt rest s cs ≡ p
    → ((c : Config) (left : List ℤ) → Caused turns left (run_from turns c.stack c.state left))
    → Caused (suc turns) cs (run_on p (config (top ∷ rest) s) (λ c left. run_from turns c.stack c.state left))
caused_on turns top rest s cs (Ends e) q h = at_once (suc turns) (top ∷ rest) s cs e
    (ends_cause (suc turns - 0) top.number top.stmt rest s cs e (omega arith) q)
caused_on turns top rest s cs (Goes c left) q h =
    let g = h c left in
    let suffix : Suffix cs left = step_leaves (Suffix cs) (suffix_tail cs) top.number top.stmt rest s cs c left
    ([], refl) q in
    let fewer : turns - length g.before ≡ suc turns - suc (length g.before) = omega arith in
    record {
      before = config (top ∷ rest) s ∷ g.before;
      last = g.last;
      taken = suffix.0 ++ g.taken;
      left = g.left;
      configs = ap (λ (x : List Config). config (top ∷ rest) s ∷ x) g.configs;
      choices = suffix.1 ∙ ap (λ (x : List ℤ). suffix.0 ++ x) g.choices ∙ sym (append_assoc suffix.0 g.taken g.left);
      few = omega (arith, g.few);
      cause = subst (λ (x : ℕ). IsCause (run_from turns c.stack c.state left).ended x g.last.stack g.last.state g.left)
          fewer g.cause;
    }

caused : (turns : ℕ) (stack : Stack) (s : State) (cs : List ℤ) → Caused turns cs (run_from turns stack s cs)
caused turns [] s cs = at_once turns [] s cs Finished refl
caused zero (top ∷ rest) s cs = at_once zero (top ∷ rest) s cs TurnsSpent (omega arith)
caused (suc turns) (top ∷ rest) s cs =
    caused_on turns top rest s cs (picked top.number top.stmt rest s cs) refl
    (λ c left. caused turns c.stack c.state left)

-- the chosen run is a trace
pub chosen_trace : (P : Program) (s : State) (cs : List ℤ) (turns : ℕ)
    → IsTrace P s cs turns (map shown (chosen_run P s cs turns).configs) (chosen_run P s cs turns).ended
chosen_trace P s cs turns =
    let g = caused turns (numbered 0 P.body) s cs in
    let head = run_head turns (numbered 0 P.body) s cs in
    record {
      before = g.before;
      last = g.last;
      taken = g.taken;
      left = g.left;
      shows = ap (map shown) g.configs;
      run = record {
        rest = head.0;
        begins = sym g.configs ∙ head.1;
        steps = subst (λ (x : List Config). AreSteps x) g.configs (chosen_steps P s cs turns);
      };
      choices = g.choices;
      turns = g.few;
      cause = g.cause;
    }
