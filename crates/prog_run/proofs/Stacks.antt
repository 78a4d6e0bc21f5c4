-- Stacks as lists of rests.
use Rattle.std.proofs.Common.{◌≡◌, ◌+◌, ◌<◌, ◌^◌, ℕ, List, [], ◌∷◌, ◌++◌, refl, sym, ap, ◌∙◌, subst, length, append_assoc, append-nil, arith}
use Rattle.prog_theory.specs.Statements.{Block}
use Rattle.prog_theory.specs.Numbering.{Numbered, count, numbered}
use Rattle.prog_theory.specs.Steps.{Stack}
use Rattle.prog_tree.specs.Stmts.{stmt_of, block_of}
use Rattle.prog_tree.specs.declared.block.Stmt.{Stmt}
use Rattle.prog_run.specs.declared.stack.Rest.{Rest}
use Rattle.prog_run.specs.Stacks.{rest_of, stack_of}
use Rattle.prog_run.specs.Ready.{IsReady, AreReady, AreNumbered}

pub stack_of_push : (rs : List Rest) (r : Rest) → stack_of (rs ++ r ∷ []) ≡ rest_of r ++ stack_of rs
stack_of_push [] r = sym (append-nil (rest_of r))
stack_of_push (q ∷ rs) r =
    ap (λ (z : Stack). z ++ rest_of q) (stack_of_push rs r) ∙ append_assoc (rest_of r) (stack_of rs) (rest_of q)

-- a block on an empty stack
pub whole_stack : (stack : Stack) (rs : List Rest) (b whole : Block) → stack ≡ numbered 0 b ++ stack_of rs → rs ≡ [] →
    b ≡ whole
    → stack ≡ numbered 0 whole
whole_stack stack rs b whole e f g =
    e ∙ ap (λ (x : List Rest). numbered 0 b ++ stack_of x) f ∙ append-nil (numbered 0 b)
    ∙ ap (λ (x : Block). numbered 0 x) g

-- what is ready has small numbers
pub ready_numbered : (vars : ℕ) (ns : Stack) → AreReady vars ns → AreNumbered ns
ready_numbered vars [] h = tt
ready_numbered vars (n ∷ ns) h = (h.0.numbers, ready_numbered vars ns h.1)

-- what is on top is ready
pub top_ready : (vars : ℕ) (ns ms : Stack) (n : Numbered) → ns ≡ n ∷ ms → AreReady vars ns → IsReady vars n
top_ready vars ns ms n e h = let g = subst (λ (x : Stack). AreReady vars x) e h in g.0

-- ---- the last rest is taken off

module _ (olds news : List Rest) (r : Rest) (all : Stack) (is : stack_of olds ≡ all)
    (taken : olds ≡ news ++ r ∷ []) where
  taken_off : rest_of r ++ stack_of news ≡ all
  taken_off = sym (stack_of_push news r) ∙ ap stack_of (sym taken) ∙ is

  -- it had no statement
  pub emptied : length r.stmts.now ≡ 0 → stack_of news ≡ all
  emptied e =
      ap (λ (ss : List Stmt). numbered r.number (block_of ss) ++ stack_of news) (sym (none r.stmts.now e)) ∙ taken_off
    where
      none : (ss : List Stmt) → length ss ≡ 0 → ss ≡ []
      none [] h = refl
      none (st ∷ ss) h = absurd (omega arith)

  module _ (st : Stmt) (others : List Stmt) (first : r.stmts.now ≡ st ∷ others) where
    abbrev next : Numbered
    next = record { number = r.number; stmt = stmt_of st }

    -- its first statement is on top
    on_top : all ≡ next ∷ (numbered (r.number + count (stmt_of st)) (block_of others) ++ stack_of news)
    on_top = sym taken_off ∙ ap (λ (ss : List Stmt). numbered r.number (block_of ss) ++ stack_of news) first

    pub top_small : AreNumbered all → r.number + count (stmt_of st) < 2 ^ 32
    top_small h = let g = subst (λ (x : Stack). AreNumbered x) on_top h in g.0

    pub popped : (n : ℕ) (after : Stack) → n ≡ count (stmt_of st)
        → after ≡ numbered (r.number + n) (block_of others) ++ stack_of news → all ≡ next ∷ after
    popped n after e f =
        on_top ∙ ap (λ (ns : Stack). next ∷ ns)
        (ap (λ (m : ℕ). numbered (r.number + m) (block_of others) ++ stack_of news) (sym e) ∙ sym f)
