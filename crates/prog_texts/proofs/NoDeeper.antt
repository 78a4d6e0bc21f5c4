-- A printed program is nested no deeper than any text of it.
-- Index: many_keeps, chain_keeps, braces_keep, else_keeps, and_then_keeps, claim_keeps, condition_nests, block_nests.
use Rattle.std.proofs.Common.{◌≤◌, ℕ, zero, suc, Bool, true, false, Option, List, codes, Result, sym, subst, arith}
use Rattle.trop_text.specs.declared.fault.FaultKind.{FaultKind}
use Rattle.shape_grammar.specs.Texts.{Maybe, LeftOut, Written, Many, NoMore, OneMore}
use Rattle.prog_theory.specs.Conditions.{Cond, Any, Atom, Not, And, Or}
use Rattle.prog_theory.specs.Statements.{Side, Claim, Stmt, Set, Havoc, Assume, Assert, If, While, Skip, Block}
use Rattle.prog_theory.specs.Statements as tree
use Rattle.prog_theory.specs.Limits.{Limits}
use Rattle.prog_texts.specs.AssertRule.{AssertRule}
use Rattle.prog_texts.specs.Words.{Counted, skipped}
use Rattle.prog_texts.specs.Judges.{goes_on}
use Rattle.prog_texts.specs.Conditions.{Start, Bang, Bracket, Ask, Compare, IsChain, IsConditionOf, IsNegationRest, IsNegation, IsCondition, Nowhere}
use Rattle.prog_texts.specs.Claims.{IsSide, IsClaim}
use Rattle.prog_theory.specs.Blocks.{and_then}
use Rattle.prog_texts.specs.Statements.{Verb, Havocs, Assumes, Asserts, Asks, Loops, Skips, Sets, IsBlock, IsStatementRest, AreStatements}
use Rattle.prog_theory.specs.Nesting.{Loose, Tight, Single}
use Rattle.prog_theory.specs.Nesting.{cond_nesting, stmt_nesting, block_nesting}

-- a condition is nested no deeper where it binds more loosely
levels : (c : Cond) → (cond_nesting Loose c ≤ cond_nesting Tight c)
    × (cond_nesting Tight c ≤ cond_nesting Single c) × (cond_nesting Single c ≤ suc (cond_nesting Loose c))
levels Any = (omega arith, omega arith, omega arith)
levels (Atom a c b) = (omega arith, omega arith, omega arith)
levels (Not c) = (omega arith, omega arith, omega arith)
levels (And a b) = (omega arith, omega arith, omega arith)
levels (Or a b) = (omega arith, omega arith, omega arith)

-- what each step keeps holds at the end
pub many_keeps : {A V : Type 0} {J : V → Counted → Option (Result A FaultKind)} {S : V → A → List Counted → V → Type 0}
    (P : V → Type 0) → ((x : V) (a : A) (us : List Counted) (y : V) → P x → S x a us y → P y) →
    (x : V) (us : List Counted) (y : V) → P x → Many skipped J S x us y → P y
many_keeps P step x us y h (NoMore none is) = subst P (sym is) h
many_keeps P step x us y h (OneMore t a vs ws zs z e j whole k m) = many_keeps P step z zs y (step x a ws z h k) m

pub chain_keeps : {R : List Counted → Cond → Type 0} (word : List ℕ) (join : Cond → Cond → Cond) (P Q : Cond → Type 0) →
    ((us : List Counted) (c : Cond) → R us c → P c) → ((c : Cond) → P c → Q c) →
    ((a b : Cond) → Q a → P b → Q (join a b)) → (us : List Counted) (c : Cond) → IsChain word join R us c → Q c
chain_keeps word join P Q part up both us c h =
    many_keeps Q (λ x a ws y q k. subst Q (sym k.second.is) (both x k.value q (part k.front k.value k.first))) h.value
    h.back c (up h.value (part h.front h.value h.first)) h.second

-- what is kept of the blocks of a part is kept of a block in braces, and of one behind `else` that may be left out
pub braces_keep : (room : Bool) (Inner : List Counted → Block → Type 0) (P : Block → Type 0) →
    ((us : List Counted) (b : Block) → Inner us b → P b) → (us : List Counted) (b : Block) →
    IsBlock room Inner us b → P b
braces_keep room Inner P part us b h =
    let m = h.second in subst P (sym m.second.second.is) (part m.front m.value m.first)

pub else_keeps : (room : Bool) (Inner : List Counted → Block → Type 0) (P : Block → Type 0) → P tree.Empty →
    ((us : List Counted) (b : Block) → Inner us b → P b) → (us : List Counted) (b : Block) →
    Maybe skipped (goes_on (codes "else")) tree.Empty (λ u. IsBlock room Inner) us b → P b
else_keeps room Inner P none part us b (LeftOut e is) = subst P (sym is) none
else_keeps room Inner P none part us b (Written t a vs e k h) = braces_keep room Inner P part vs b h

-- what holds of each statement of a block holds of those of a block with one more
pub and_then_keeps : (P : Block → Type 0) (Q : Stmt → Type 0) → P tree.Empty →
    ((x : Stmt) (xs : Block) → Q x → P xs → P (tree.Then x xs)) →
    ((x : Stmt) (xs : Block) → P (tree.Then x xs) → (Q x × P xs)) → (xs : Block) (x : Stmt) → P xs → Q x →
    P (and_then xs x)
and_then_keeps P Q none join parts tree.Empty x h k = join x tree.Empty k none
and_then_keeps P Q none join parts (tree.Then y ys) x h k =
    let p = parts y ys h in join y (and_then ys x) p.0 (and_then_keeps P Q none join parts ys x p.1 k)

-- what holds of each side holds of both sides of a claim
pub claim_keeps : (L : Limits) (rule : AssertRule) (names : List (List ℕ)) (P : Side → Type 0) →
    ((us : List Counted) (x : Side) → IsSide L rule names us x → P x) → (us : List Counted) (c : Claim) →
    IsClaim L rule names us c → P c.left × P c.right
claim_keeps L rule names P part us c h = let m = h.second.second in
    subst (λ (z : Claim). P z.left × P z.right) (sym m.second.is)
    (part h.front h.value h.first, part m.front m.value m.first)

condition_of_nests : (d : ℕ) {R : List Counted → Cond → Type 0} →
    ((us : List Counted) (c : Cond) → R us c → cond_nesting Single c ≤ d) → (us : List Counted) (c : Cond) →
    IsConditionOf R us c → cond_nesting Loose c ≤ d
condition_of_nests d {R} part us c h =
    chain_keeps (codes "||") Or (λ c. cond_nesting Tight c ≤ d) (λ c. cond_nesting Loose c ≤ d)
    (chain_keeps (codes "&&") And (λ c. cond_nesting Single c ≤ d) (λ c. cond_nesting Tight c ≤ d) part
    (λ c k. omega (arith, k, (levels c).1)) (λ a b k m. omega (arith, k, m)))
    (λ c k. omega (arith, k, (levels c).0)) (λ a b k m. omega (arith, k, m)) us c h

module _ (L : Limits) (names : List (List ℕ)) where
  none_inside : (s : Start) (us : List Counted) (c : Cond) → IsNegationRest L names Nowhere s us c →
      cond_nesting Single c ≤ 0
  none_inside Bang us c h = absurd h.first
  none_inside Bracket us c h = absurd h.first.first.first
  none_inside Ask us c h = subst (λ z. cond_nesting Single z ≤ 0) (sym h.is) (omega arith)
  none_inside (Compare f) us c h = subst (λ z. cond_nesting Single z ≤ 0) (sym h.second.second.second.is) (omega arith)

  some_inside : (d : ℕ) → ((us : List Counted) (c : Cond) → IsNegation L names d us c → cond_nesting Single c ≤ d) →
      (s : Start) (us : List Counted) (c : Cond) → IsNegationRest L names (IsNegation L names d) s us c →
      cond_nesting Single c ≤ suc d
  some_inside d part Bang us c h = let k = part h.front h.value h.first in
      subst (λ z. cond_nesting Single z ≤ suc d) (sym h.second.is) (omega (arith, k))
  some_inside d part Bracket us c h = let k = condition_of_nests d part h.front h.value h.first in
      subst (λ z. cond_nesting Single z ≤ suc d) (sym h.second.second.is) (omega (arith, k, (levels h.value).2))
  some_inside d part Ask us c h = subst (λ z. cond_nesting Single z ≤ suc d) (sym h.is) (omega arith)
  some_inside d part (Compare f) us c h = subst (λ z. cond_nesting Single z ≤ suc d) (sym h.second.second.second.is)
      (omega arith)

  negation_nests : (d : ℕ) (us : List Counted) (c : Cond) → IsNegation L names d us c → cond_nesting Single c ≤ d
  unfolding IsNegation
  negation_nests zero us c h = none_inside h.value h.back c h.second
  negation_nests (suc d) us c h = some_inside d (negation_nests d) h.value h.back c h.second

  -- a condition that is spelled inside d signs is printed inside d at most
  pub condition_nests : (d : ℕ) (us : List Counted) (c : Cond) → IsCondition L names d us c → cond_nesting Loose c ≤ d
  condition_nests d us c h = condition_of_nests d (negation_nests d) us c h

and_then-nests : (d : ℕ) (xs : Block) (x : Stmt) → block_nesting xs ≤ d → stmt_nesting x ≤ d →
    block_nesting (and_then xs x) ≤ d
and_then-nests d tree.Empty x h k = omega (arith, k)
and_then-nests d (tree.Then y ys) x h k = let h0 : block_nesting ys ≤ d = omega (arith, h) in
    omega (arith, h, and_then-nests d ys x h0 k)

module _ (L : Limits) (rule : AssertRule) (names : List (List ℕ)) where
  abbrev Nests : ℕ → Block → Type 0
  Nests d b = block_nesting b ≤ d

  -- where no block may stand
  none_in : (v : Verb) (us : List Counted) (x : Stmt) → IsStatementRest L rule names 0 false Nowhere v us x →
      stmt_nesting x ≤ 0
  none_in Havocs us x h = subst (λ z. stmt_nesting z ≤ 0) (sym h.second.second.is) (omega arith)
  none_in Assumes us x h = let k = condition_nests L names 0 h.front h.value h.first in
      subst (λ z. stmt_nesting z ≤ 0) (sym h.second.second.is) (omega (arith, k))
  none_in Asserts us x h = subst (λ z. stmt_nesting z ≤ 0) (sym h.second.second.is) (omega arith)
  none_in Asks us x h = absurd h.second.first.second.first
  none_in Loops us x h = absurd h.second.first.second.first
  none_in Skips us x h = subst (λ z. stmt_nesting z ≤ 0) (sym h.second.is) (omega arith)
  none_in (Sets i) us x h = subst (λ z. stmt_nesting z ≤ 0) (sym h.second.second.second.is) (omega arith)

  some_in : (d : ℕ) → ((us : List Counted) (b : Block) → AreStatements L rule names d us b → Nests d b) →
      (v : Verb) (us : List Counted) (x : Stmt) → IsStatementRest L rule names (suc d) true
      (AreStatements L rule names d) v us x → stmt_nesting x ≤ suc d
  some_in d part Havocs us x h = subst (λ z. stmt_nesting z ≤ suc d) (sym h.second.second.is) (omega arith)
  some_in d part Assumes us x h = let k = condition_nests L names (suc d) h.front h.value h.first in
      subst (λ z. stmt_nesting z ≤ suc d) (sym h.second.second.is) (omega (arith, k))
  some_in d part Asserts us x h = subst (λ z. stmt_nesting z ≤ suc d) (sym h.second.second.is) (omega arith)
  some_in d part Asks us x h =
      let k = condition_nests L names (suc d) h.front h.value h.first in
      let m = h.second in
      let a = braces_keep true (AreStatements L rule names d) (Nests d) part m.front m.value m.first in
      let b = else_keeps true (AreStatements L rule names d) (Nests d) (omega arith) part m.second.front
      m.second.value m.second.first in
      subst (λ z. stmt_nesting z ≤ suc d) (sym m.second.second.is) (omega (arith, k, a, b))
  some_in d part Loops us x h =
      let k = condition_nests L names (suc d) h.front h.value h.first in
      let m = h.second in
      let a = braces_keep true (AreStatements L rule names d) (Nests d) part m.front m.value m.first in
      subst (λ z. stmt_nesting z ≤ suc d) (sym m.second.is) (omega (arith, k, a))
  some_in d part Skips us x h = subst (λ z. stmt_nesting z ≤ suc d) (sym h.second.is) (omega arith)
  some_in d part (Sets i) us x h = subst (λ z. stmt_nesting z ≤ suc d) (sym h.second.second.second.is) (omega arith)

  -- a block that is spelled inside d signs is printed inside d at most
  pub block_nests : (d : ℕ) (us : List Counted) (b : Block) → AreStatements L rule names d us b → block_nesting b ≤ d
  unfolding AreStatements
  block_nests zero us b h = many_keeps (Nests 0) (λ xs v ws ys q k. subst (Nests 0) (sym k.second.is)
      (and_then-nests 0 xs k.value q (none_in v k.front k.value k.first))) tree.Empty us b (omega arith) h
  block_nests (suc d) us b h = many_keeps (Nests (suc d))
      (λ xs v ws ys q k. subst (Nests (suc d)) (sym k.second.is)
      (and_then-nests (suc d) xs k.value q (some_in d (block_nests d) v k.front k.value k.first))) tree.Empty us b
      (omega arith) h
