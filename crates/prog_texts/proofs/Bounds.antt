-- The coordinates and the numbers of what is spelled are in bounds, and its sides are whole.
-- Index: many_judged, block_holds, known_place, operand_coordinate, sized_at_most, number_at_most, abs_neg,
-- operand_number, suits_block.
use Rattle.std.proofs.Common.{◌≡◌, ◌≤◌, ◌<◌, ℕ, zero, suc, pos, neg_ℤ, Bool, true, false, cond, Option, Some, None, List, [], ◌∷◌, length, codes, Result, Ok, Err, refl, sym, ap, subst, arith, nat_le}
use Rattle.std.specs.Prelude.{All, unsigned_abs}
use Rattle.std.proofs.lemmas.Bool.Decides.{nat_tests}
use Rattle.std.specs.Str.{bytes_eq}
use Rattle.std.proofs.lemmas.List.Elements.{All-nil, All-cons, All-append}
use Rattle.std.proofs.lemmas.List.Quantifiers.{position-Some}
use Rattle.trop_text.specs.Digits.{number_of}
use Rattle.trop_text.specs.Names.{place_of}
use Rattle.trop_text.specs.declared.fault.FaultKind.{FaultKind}
use Rattle.trop_text.specs.declared.fault.FaultKind.TheVariants.{Syntax, NumberRange, TooManyStatements, TooManyAtoms, AssertMode}
use Rattle.shape_grammar.specs.Texts.{Maybe, LeftOut, Written, Many, NoMore, OneMore}
use Rattle.prog_theory.specs.States.{Term}
use Rattle.prog_theory.specs.Conditions.{Cond, And, Or}
use Rattle.prog_theory.specs.Statements.{SideWord, One, Greatest, Least, Side, Claim, Stmt, Block}
use Rattle.prog_theory.specs.Statements as tree
use Rattle.prog_theory.specs.Limits.{Limits}
use Rattle.prog_theory.specs.Blocks.{and_then}
use Rattle.prog_theory.specs.Each.{EachTerm, EachStmt, EachBlock, EachClaim, EachClaims}
use Rattle.prog_theory.specs.Within.{IsSide, IsClaim}
use Rattle.prog_texts.specs.AssertRule.{AssertRule, is_against}
use Rattle.prog_texts.specs.Words.{Counted, text, skipped, says, is_digits, is_variable, begins_operand}
use Rattle.prog_texts.specs.Judges.{passed, sized, number, coordinate, known, goes_on, is_one_too_many, is_atom_too_many}
use Rattle.prog_texts.specs.Operands.{Way, Plus, Minus, by, First, Value, Negative, Variable, first, IsOperandRest, IsOperand}
use Rattle.prog_texts.specs.Conditions.{Start, Bang, Bracket, Ask, Compare, opening, start, IsConditionOf, IsNegationRest, IsNegation, IsCondition, Nowhere}
use Rattle.prog_texts.specs.Claims.{SideStart, Single, Listed, side_start, AreTerms, IsSideRest, IsSide as IsSideText, IsClaim as IsClaimText}
use Rattle.prog_texts.specs.Statements.{Verb, Havocs, Assumes, Asserts, Asks, Loops, Skips, Sets, verb, IsBlock, IsStatementRest, AreStatements}
use Rattle.prog_texts.specs.Suits.{SuitsSide, SuitsStmt, SuitsBlock}
use Rattle.prog_texts.proofs.NoDeeper.{many_keeps, chain_keeps, braces_keep, else_keeps, and_then_keeps, claim_keeps}
use Rattle.prog_texts.proofs.Judged.{begin_is, first_is, verb_is}

-- ---- what was judged

single_first : (a b p q : Bool) (v : Result First FaultKind) (f : First) →
    cond a (cond p (Err AssertMode) (Ok (Listed Greatest)))
    (cond b (cond q (Err AssertMode) (Ok (Listed Least))) (passed Single v)) ≡ Ok (Single f) → v ≡ Ok f
single_first true b true q v f e = absurd cc
single_first true b false q v f e = absurd cc
single_first false true p true v f e = absurd cc
single_first false true p false v f e = absurd cc
single_first false false p q (Ok g) f e = let same : g ≡ f = cc in ap Ok same
single_first false false p q (Err w) f e = absurd cc

named_known : (b : Bool) (v : Result ℕ FaultKind) (i : ℕ) → cond b v (Err Syntax) ≡ Ok i → v ≡ Ok i
named_known true v i e = e
named_known false v i e = absurd cc

-- what each step keeps holds at the end, where the judge's word is known
pub many_judged : {A V : Type 0} {J : V → Counted → Option (Result A FaultKind)} {S : V → A → List Counted → V → Type 0}
    (P : V → Type 0) → ((x : V) (t : Counted) (a : A) (us : List Counted) (y : V) → P x → J x t ≡ Some (Ok a) →
    S x a us y → P y) → (x : V) (us : List Counted) (y : V) → P x → Many skipped J S x us y → P y
many_judged P step x us y h (NoMore none is) = subst P (sym is) h
many_judged P step x us y h (OneMore t a vs ws zs z e j whole k m) = many_judged P step z zs y (step x t a ws z h j k) m

-- ---- of each term and each variable

module _ (L : Limits) (rule : AssertRule) (names : List (List ℕ)) (V : ℕ → Type 0) (T : Term → Type 0)
    (variables : (t : Counted) (i : ℕ) → known names t ≡ Ok i → V i)
    (operands : (t : Counted) (f : First) (us : List Counted) (x : Term) → first L names t ≡ Ok f →
    IsOperandRest L f us x → T x) where
  operand_holds : (us : List Counted) (x : Term) → IsOperand L names us x → T x
  operand_holds us x h = operands h.first.token h.value h.back x h.first.is h.second

  abbrev E : Cond → Type 0
  E c = EachTerm T c

  condition_holds : {R : List Counted → Cond → Type 0} → ((us : List Counted) (c : Cond) → R us c → E c) →
      (us : List Counted) (c : Cond) → IsConditionOf R us c → E c
  condition_holds part us c h = chain_keeps (codes "||") Or E E
      (chain_keeps (codes "&&") And E E part (λ c k. k) (λ a b k m. (k, m))) (λ c k. k) (λ a b k m. (k, m)) us c h

  rest_holds : {Inner : List Counted → Cond → Type 0} → ((us : List Counted) (c : Cond) → Inner us c → E c) →
      (room : Bool) (t : Counted) (s : Start) (us : List Counted) (c : Cond) → start L names room t ≡ Ok s →
      IsNegationRest L names Inner s us c → E c
  rest_holds part room t Bang us c e h = subst E (sym h.second.is) (part h.front h.value h.first)
  rest_holds part room t Bracket us c e h = subst E (sym h.second.second.is)
      (condition_holds part h.front h.value h.first)
  rest_holds part room t Ask us c e h = subst E (sym h.is) tt
  rest_holds part room t (Compare f) us c e h =
      let right = h.second.second in
      subst E (sym right.second.is) (
        operands t f h.front h.value
            (begin_is (says (codes "!") t) (says (codes "(") t) (says (codes "?") t) (begins_operand t) room
            (is_atom_too_many L t) (first L names t) (Compare f) e).told h.first,
        operand_holds right.front right.value right.first,
      )

  negation_holds : (n : ℕ) (us : List Counted) (c : Cond) → IsNegation L names n us c → E c
  unfolding IsNegation
  negation_holds zero us c h = rest_holds (λ us c h. absurd h) false h.first.token h.value h.back c h.first.is h.second
  negation_holds (suc n) us c h = rest_holds (negation_holds n) true h.first.token h.value h.back c h.first.is h.second

  all_one : (x : Term) → T x → All T (x ∷ [])
  all_one x h = All-cons T x [] h (All-nil T)

  terms_hold : (us : List Counted) (xs : List Term) → AreTerms L names us xs → All T xs
  terms_hold us xs h = many_keeps (λ ys. All T ys)
      (λ ys a ws z q k. subst (λ zs. All T zs) (sym k.second.is)
      (All-append T ys (k.value ∷ []) q (all_one k.value (operand_holds k.front k.value k.first))))
      (h.value ∷ []) h.back xs (all_one h.value (operand_holds h.front h.value h.first)) h.second

  abbrev EachSide : Side → Type 0
  EachSide s = All T s.terms

  side_rest_holds : (t : Counted) (s : SideStart) (us : List Counted) (x : Side) → side_start L rule names t ≡ Ok s →
      IsSideRest L names s us x → EachSide x
  side_rest_holds t (Single f) us x e h = subst EachSide (sym h.second.is)
      (all_one h.value (operands t f h.front h.value
      (single_first (says (codes "max") t) (says (codes "min") t) (is_against rule (text t)) (is_against rule (text t))
      (first L names t) f e) h.first))
  side_rest_holds t (Listed word) us x e h = let m = h.second in
      subst EachSide (sym m.second.second.is) (terms_hold m.front m.value m.first)

  side_holds : (us : List Counted) (x : Side) → IsSideText L rule names us x → EachSide x
  side_holds us x h = side_rest_holds h.first.token h.value h.back x h.first.is h.second

  abbrev Good : Block → Type 0
  Good b = EachBlock V T b

  abbrev GoodStmt : Stmt → Type 0
  GoodStmt x = EachStmt V T x

  module _ (d : ℕ) (room : Bool) (Inner : List Counted → Block → Type 0)
      (part : (us : List Counted) (b : Block) → Inner us b → Good b) where
    condition_at_holds : (us : List Counted) (c : Cond) → IsCondition L names d us c → E c
    condition_at_holds us c h = condition_holds (negation_holds d) us c h

    stmt_holds : (t : Counted) (v : Verb) (us : List Counted) (x : Stmt) → verb L names t ≡ Some (Ok v) →
        IsStatementRest L rule names d room Inner v us x → GoodStmt x
    stmt_holds t Havocs us x e h = subst GoodStmt (sym h.second.second.is)
        (variables h.first.token h.value (named_known (is_variable h.first.token)
        (known names h.first.token) h.value h.first.is))
    stmt_holds t Assumes us x e h = subst GoodStmt (sym h.second.second.is) (condition_at_holds h.front h.value h.first)
    stmt_holds t Asserts us x e h = subst GoodStmt (sym h.second.second.is)
        (claim_keeps L rule names EachSide side_holds h.front h.value h.first)
    stmt_holds t Asks us x e h =
        let m = h.second in
        subst GoodStmt (sym m.second.second.is) (
          condition_at_holds h.front h.value h.first,
          braces_keep room Inner Good part m.front m.value m.first,
          else_keeps room Inner Good tt part m.second.front m.second.value m.second.first,
        )
    stmt_holds t Loops us x e h = let m = h.second in
        subst GoodStmt (sym m.second.is) (
          condition_at_holds h.front h.value h.first,
          braces_keep room Inner Good part m.front m.value m.first,
        )
    stmt_holds t Skips us x e h = subst GoodStmt (sym h.second.is) tt
    stmt_holds t (Sets i) us x e h = let m = h.second in
        subst GoodStmt (sym m.second.second.is) (
          variables t i
              (verb_is (says (codes "havoc") t) (says (codes "assume") t) (says (codes "assert") t)
              (says (codes "if") t)
              (says (codes "while") t) (says (codes "skip") t) (is_variable t) (is_one_too_many L t) (known names t)
              (Sets i) e).told,
          operand_holds m.front m.value m.first,
        )

  pub block_holds : (d : ℕ) (us : List Counted) (b : Block) → AreStatements L rule names d us b → Good b
  unfolding AreStatements
  block_holds zero us b h = many_judged Good (λ xs t v ws ys q j k. subst Good (sym k.second.is)
      (and_then_keeps Good GoodStmt tt (λ x xs h k. (h, k)) (λ x xs h. h) xs k.value q
      (stmt_holds 0 false Nowhere (λ us b h. absurd h) t v k.front k.value j k.first)))
      tree.Empty us b tt h
  block_holds (suc d) us b h = many_judged Good (λ xs t v ws ys q j k. subst Good (sym k.second.is)
      (and_then_keeps Good GoodStmt tt (λ x xs h k. (h, k)) (λ x xs h. h) xs k.value q
      (stmt_holds (suc d) true (AreStatements L rule names d)
      (block_holds d) t v k.front k.value j k.first))) tree.Empty us b tt h

-- ---- coordinates and numbers

pub known_place : (names : List (List ℕ)) (t : Counted) (i : ℕ) → known names t ≡ Ok i → (0 < i) × (i ≤ length names)
known_place names t i e = at (place_of (text t) names) refl e
  where
    at : (o : Option ℕ) → place_of (text t) names ≡ o → coordinate o ≡ Ok i → (0 < i) × (i ≤ length names)
    at (Some j) k h = let same : suc j ≡ i = cc in let p = (position-Some (bytes_eq (text t)) names j [] k).0 in
        (omega (arith, same), omega (arith, same, p))
    at None k h = absurd cc

-- the term is one of these names
pub operand_coordinate : (L : Limits) (names : List (List ℕ)) (t : Counted) (f : First) (us : List Counted) (x : Term) →
    first L names t ≡ Ok f → IsOperandRest L f us x → x.coord ≤ length names
operand_coordinate L names t (Value n) us x e h = let k = ap (λ (z : Term). z.coord) h.is in omega (arith, k)
operand_coordinate L names t Negative us x e h = let k = ap (λ (z : Term). z.coord) h.second.is in omega (arith, k)
operand_coordinate L names t (Variable i) us x e (LeftOut none is) =
    let k = ap (λ (z : Term). z.coord) is in let p =
    (known_place names t i (first_is (is_digits t) (says (codes "-") t) (is_variable t) (sized L.number t)
    (known names t) (Variable i) e)).1 in omega (arith, k, p)
operand_coordinate L names t (Variable i) us x e (Written u a vs q j h) =
    let k = ap (λ (z : Term). z.coord) h.second.is in let p =
    (known_place names t i (first_is (is_digits t) (says (codes "-") t) (is_variable t) (sized L.number t)
    (known names t) (Variable i) e)).1 in omega (arith, k, p)

pub sized_at_most : (bound : ℕ) (t : Counted) (n : ℕ) → sized bound t ≡ Ok n → n ≤ bound
sized_at_most bound t n e = at (nat_le (number_of (text t)) bound) refl e
  where
    at : (b : Bool) → nat_le (number_of (text t)) bound ≡ b →
        cond b (Ok (number_of (text t))) (Err NumberRange) ≡ Ok n → n ≤ bound
    at true k h = let same : number_of (text t) ≡ n = cc in let le : number_of (text t) ≤ bound =
        grind (arith, nat_tests) in omega (arith, same, le)
    at false k h = absurd cc

pub number_at_most : (bound : ℕ) (t : Counted) (n : ℕ) → number bound t ≡ Ok n → n ≤ bound
number_at_most bound t n e = at (is_digits t) e
  where
    at : (b : Bool) → cond b (sized bound t) (Err Syntax) ≡ Ok n → n ≤ bound
    at true h = sized_at_most bound t n h
    at false h = absurd cc

pub abs_neg : (n : ℕ) → unsigned_abs (neg_ℤ (pos n)) ≡ n
abs_neg zero = refl
abs_neg (suc n) = refl

abs_by : (w : Way) (n : ℕ) → unsigned_abs (by w n) ≡ n
abs_by Plus n = refl
abs_by Minus n = abs_neg n

-- its number is at most the bound
pub operand_number : (L : Limits) (names : List (List ℕ)) (t : Counted) (f : First) (us : List Counted) (x : Term) →
    first L names t ≡ Ok f → IsOperandRest L f us x → unsigned_abs x.add ≤ L.number
operand_number L names t (Value n) us x e h =
    let k = ap (λ (z : Term). unsigned_abs z.add) h.is in let p =
    sized_at_most L.number t n (first_is (is_digits t) (says (codes "-") t) (is_variable t) (sized L.number t)
    (known names t) (Value n) e) in omega (arith, k, p)
operand_number L names t Negative us x e h =
    let k = ap (λ (z : Term). unsigned_abs z.add) h.second.is in let p =
    number_at_most L.number h.first.token h.value h.first.is in omega (arith, k, p, abs_neg h.value)
operand_number L names t (Variable i) us x e (LeftOut none is) = let k = ap (λ (z : Term). unsigned_abs z.add) is in
    omega (arith, k)
operand_number L names t (Variable i) us x e (Written u a vs q j h) =
    let k = ap (λ (z : Term). unsigned_abs z.add) h.second.is in let p =
    number_at_most L.number h.first.token h.value h.first.is in omega (arith, k, p, abs_by a h.value)

-- ---- sides

suits_side : (rule : AssertRule) (word : SideWord) (xs : List Term) → SuitsSide rule word xs → IsSide word xs
suits_side rule One [] h = absurd h
suits_side rule One (x ∷ []) h = refl
suits_side rule One (x ∷ y ∷ xs) h = absurd h
suits_side rule Greatest [] h = absurd h
suits_side rule Greatest (x ∷ xs) h = omega arith
suits_side rule Least [] h = absurd h
suits_side rule Least (x ∷ xs) h = omega arith

mutual
  suits_stmt : (rule : AssertRule) (x : Stmt) → SuitsStmt rule x → EachClaim IsClaim x
  suits_stmt rule (tree.Assert c) h = (
    suits_side rule c.left.word c.left.terms h.0,
    suits_side rule c.right.word c.right.terms h.1,
  )
  suits_stmt rule (tree.If c a b) h = (suits_block rule a h.0, suits_block rule b h.1)
  suits_stmt rule (tree.While c a) h = suits_block rule a h
  suits_stmt rule (tree.Set i t) h = tt
  suits_stmt rule (tree.Havoc i) h = tt
  suits_stmt rule (tree.Assume c) h = tt
  suits_stmt rule tree.Skip h = tt

  -- sides that suit a rule are whole
  pub suits_block : (rule : AssertRule) (b : Block) → SuitsBlock rule b → EachClaims IsClaim b
  suits_block rule tree.Empty h = tt
  suits_block rule (tree.Then x xs) h = (suits_stmt rule x h.0, suits_block rule xs h.1)
