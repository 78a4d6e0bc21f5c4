-- A run on its way: what was shown and what is still to come are the whole run.
-- Index: turn_is, goes_run, ends_run, spent_run, Going, begins, begins_with, is_ready, is_within, keeps, goes_on,
-- is_last, ends_here, spent; over, on, at_the_end, written_back (of what the code holds).
use Rattle.std.proofs.Common.{◌≡◌, ℕ, zero, suc, ◌+◌, ◌-◌, ◌*◌, ◌<◌, ◌≤◌, ◌^◌, ℤ, List, [], ◌∷◌, ◌++◌, map, take, drop, length, refl, sym, ap, ◌∙◌, subst, append_assoc, append-nil, arith}
use Rattle.std.proofs.Math.Seq.{take-append_seam}
use Rattle.prog_theory.specs.States.{State}
use Rattle.prog_theory.specs.Statements.{Program}
use Rattle.prog_theory.specs.Numbering.{counts, numbered}
use Rattle.prog_theory.specs.Steps.{Stack}
use Rattle.prog_theory.specs.Runs.{Config}
use Rattle.prog_theory.specs.Chosen.{End, Picked, Ends, Goes, Run, run_more, run_ends, run_on, run_from, chosen_run}
use Rattle.prog_run.specs.Shown.{Shown, shown, config}
use Rattle.prog_run.specs.Ready.{AreWithin, AreReady}
use Rattle.prog_run.specs.Traces.{pick, end_without_turns}
use Rattle.prog_run.specs.Views.{end_of, picked_of}
use Rattle.prog_run.specs.declared.configs.End as ends
use Rattle.prog_run.specs.declared.steps.Picked as steps
use Rattle.prog_run.specs.declared.steps.Picked.TheVariants as variants
use Rattle.prog_run.proofs.Values.{more_within}
use Rattle.prog_run.proofs.Keeps.{Holds, step_keeps}

-- ---- one turn of a run

turn_is : (t : ℕ) (stack : Stack) (s : State) (cs : List ℤ)
    → run_from (suc t) stack s cs ≡ run_on (pick stack s cs) (config stack s)
    (λ c left. run_from t c.stack c.state left)
turn_is t [] s cs = refl
turn_is t (top ∷ rest) s cs = refl

goes_run : (t : ℕ) (stack : Stack) (s : State) (cs : List ℤ) (c : Config) (left : List ℤ) →
    pick stack s cs ≡ Goes c left
    → run_from (suc t) stack s cs ≡ run_more (config stack s) (run_from t c.stack c.state left)
goes_run t stack s cs c left e =
    turn_is t stack s cs ∙ ap (λ (p : Picked). run_on p (config stack s) (λ c left. run_from t c.stack c.state left)) e

ends_run : (t : ℕ) (stack : Stack) (s : State) (cs : List ℤ) (e : End) → pick stack s cs ≡ Ends e
    → run_from (suc t) stack s cs ≡ run_ends (config stack s) e
ends_run t stack s cs e p =
    turn_is t stack s cs ∙ ap (λ (p : Picked). run_on p (config stack s) (λ c left. run_from t c.stack c.state left)) p

spent_run : (stack : Stack) (s : State) (cs : List ℤ) →
    run_from 0 stack s cs ≡ run_ends (config stack s) (end_without_turns stack)
spent_run [] s cs = refl
spent_run (top ∷ rest) s cs = refl

-- ---- after so many turns

abbrev bound : ℕ → ℕ
bound i = 2 ^ 40 + i * 2 ^ 31

pub record Going (P : Program) (start : State) (choices : List ℤ) (turns i : ℕ) (lines : List Shown) (stack : Stack)
    (s : State) (left : List ℤ) : Type 0 where
  pub width : length s ≡ P.vars
  pub ready : AreReady P.vars stack
  pub within : AreWithin (bound i) s
  pub small : AreWithin (bound i) left
  pub shows : lines ++ map shown (run_from (turns - i) stack s left).configs ≡ map shown
      (chosen_run P start choices turns).configs
  pub ends : (run_from (turns - i) stack s left).ended ≡ (chosen_run P start choices turns).ended

module _ (P : Program) (start : State) (choices : List ℤ) (turns : ℕ) where
  abbrev whole : Run
  whole = chosen_run P start choices turns

  pub begins : length start ≡ P.vars → AreReady P.vars (numbered 0 P.body) → AreWithin (2 ^ 40) start →
      AreWithin (2 ^ 40) choices
      → Going P start choices turns 0 [] (numbered 0 P.body) start choices
  begins w r h g =
      let e : turns ≡ turns - 0 = omega arith in
      record {
        width = w;
        ready = r;
        within = more_within (2 ^ 40) (bound 0) start (omega arith) h;
        small = more_within (2 ^ 40) (bound 0) choices (omega arith) g;
        shows = ap (λ (t : ℕ). map shown (run_from t (numbered 0 P.body) start choices).configs) (sym e);
        ends = ap (λ (t : ℕ). (run_from t (numbered 0 P.body) start choices).ended) (sym e);
      }

  -- the same, of what the code holds
  pub begins_with : (lines : List Shown) (stack : Stack) (s : State) → lines ≡ [] → stack ≡ numbered 0 P.body →
      s ≡ start
      → length start ≡ P.vars → AreReady P.vars (numbered 0 P.body) → AreWithin (2 ^ 40) start →
      AreWithin (2 ^ 40) choices
      → Going P start choices turns 0 lines stack s choices
  begins_with lines stack s e f k w r h g =
      subst (λ (x : List Shown). Going P start choices turns 0 x stack s choices) (sym e)
      (subst (λ (x : Stack). Going P start choices turns 0 [] x s choices) (sym f)
      (subst (λ (x : State). Going P start choices turns 0 [] (numbered 0 P.body) x choices) (sym k) (begins w r h g)))

  module _ (i : ℕ) (lines : List Shown) (stack : Stack) (s : State) (left : List ℤ)
      (going : Going P start choices turns i lines stack s left) where
    pub is_ready : AreReady (length s) stack
    is_ready = subst (λ (w : ℕ). AreReady w stack) (sym going.width) going.ready

    pub is_within : i < turns → turns ≤ 10000 → AreWithin (2 ^ 62) s
    is_within l m = more_within (bound i) (2 ^ 62) s (omega arith) going.within

    keeps : (ns : Stack) (c : Config) (rest : List ℤ) → ns ≡ stack → pick ns s left ≡ Goes c rest →
        Holds P.vars (bound i + 2 ^ 31) c × AreWithin (bound i) rest
    keeps [] c rest e p = cc
    keeps (top ∷ below) c rest e p =
        let r : AreReady P.vars (top ∷ below) = subst (λ (x : Stack). AreReady P.vars x) (sym e) going.ready in
        step_keeps P.vars (bound i) top.number below s going.width r.1 going.within top.stmt left c rest r.0 going.small
        p

    now_shown : (more : List Shown) → lines ++ shown (config stack s) ∷ more ≡ (lines ++ shown (config stack s) ∷ [])
        ++ more
    now_shown more = sym (append_assoc lines (shown (config stack s) ∷ []) more)

    pub goes_on : (j : ℕ) (after : List Shown) (ns : Stack) (t : State) (rest : List ℤ) → j ≡ i + 1 → i < turns
        → after ≡ lines ++ shown (config stack s) ∷ [] → pick stack s left ≡ Goes (config ns t) rest
        → Going P start choices turns j after ns t rest
    goes_on j after ns t rest f l e p =
        let k = keeps stack (config ns t) rest refl p in
        let n : turns - i ≡ suc (turns - j) = omega arith in
        let run = ap (λ (x : ℕ). run_from x stack s left) n ∙ goes_run (turns - j) stack s left (config ns t) rest p in
        record {
          width = k.0.width;
          ready = k.0.ready;
          within = more_within (bound i + 2 ^ 31) (bound j) t (omega arith) k.0.within;
          small = more_within (bound i) (bound j) rest (omega arith) k.1;
          shows =
              ap (λ (x : List Shown). x ++ map shown (run_from (turns - j) ns t rest).configs) e
              ∙ sym (now_shown (map shown (run_from (turns - j) ns t rest).configs))
              ∙ ap (λ (r : Run). lines ++ map shown r.configs) (sym run)
              ∙ going.shows;
          ends = ap (λ (r : Run). r.ended) (sym run) ∙ going.ends;
        }

    is_last : (after : List Shown) (e : End) → run_from (turns - i) stack s left ≡ run_ends (config stack s) e
        → after ≡ lines ++ shown (config stack s) ∷ [] → (after ≡ map shown whole.configs) × (e ≡ whole.ended)
    is_last after e run a = (
      a ∙ ap (λ (r : Run). lines ++ map shown r.configs) (sym run) ∙ going.shows,
      ap (λ (r : Run). r.ended) (sym run) ∙ going.ends,
    )

    pub ends_here : (after : List Shown) (e : End) → i < turns → after ≡ lines ++ shown (config stack s) ∷ [] →
        pick stack s left ≡ Ends e
        → (after ≡ map shown whole.configs) × (e ≡ whole.ended)
    ends_here after e l a p =
        let n : turns - i ≡ suc (turns - (i + 1)) = omega arith in
        is_last after e (ap (λ (x : ℕ). run_from x stack s left) n ∙ ends_run (turns - (i + 1)) stack s left e p) a

    pub spent : (after : List Shown) (e : End) → i ≡ turns → after ≡ lines ++ shown (config stack s) ∷ [] →
        e ≡ end_without_turns stack
        → (after ≡ map shown whole.configs) × (e ≡ whole.ended)
    spent after e l a p =
        let n : turns - i ≡ 0 = omega arith in
        is_last after e
        (ap (λ (x : ℕ). run_from x stack s left) n ∙ spent_run stack s left
        ∙ ap (λ (x : End). run_ends (config stack s) x) (sym p)) a

    -- ---- the same, of what the code holds

    module _ (seen : State) (same : seen ≡ s) (after : List Shown)
        (lines_are : after ≡ lines ++ shown (config stack seen) ∷ []) where
      now_lines : after ≡ lines ++ shown (config stack s) ∷ []
      now_lines = subst (λ (x : State). after ≡ lines ++ shown (config stack x) ∷ []) same lines_are

      module _ (p : steps.Picked) (ns : Stack) (t : State) (is : pick stack seen left ≡ picked_of p ns t)
          (l : i < turns) where
        now_picked : (q : steps.Picked) → p ≡ q → pick stack s left ≡ picked_of q ns t
        now_picked q e =
            subst (λ (x : State). pick stack x left ≡ picked_of q ns t) same
            (is ∙ ap (λ (x : steps.Picked). picked_of x ns t) e)

        pub over : (e : ends.End) → p ≡ variants.Ends e → (after ≡ map shown whole.configs) × (end_of e ≡ whole.ended)
        over e h = ends_here after (end_of e) l now_lines (now_picked (variants.Ends e) h)

        pub on : (rest : _) (j : ℕ) (next : State) → p ≡ variants.Goes rest → j ≡ i + 1 → next ≡ t
            → Going P start choices turns j after ns next rest.now
        on rest j next h f e =
            subst (λ (x : State). Going P start choices turns j after ns x rest.now) (sym e)
            (goes_on j after ns t rest.now f l now_lines (now_picked (variants.Goes rest) h))

      pub at_the_end : (e : End) → i ≡ turns → e ≡ end_without_turns stack →
          (after ≡ map shown whole.configs) × (e ≡ whole.ended)
      at_the_end e l h = spent after e l now_lines h

-- what is written back into the state is the state
pub written_back : (n : ℕ) (new old : List ℤ) → n ≡ length new → take n (new ++ drop (length new) old) ≡ new
written_back n new old e =
    ap (λ (m : ℕ). take m (new ++ drop (length new) old)) e ∙ take-append_seam new (drop (length new) old)
