-- Printed claims and statements are spelled as they were, inside as many signs as they are printed with.
-- Index: side_spelled, claim_spelled, block_spelled.
use Rattle.std.proofs.Common.{◌≡◌, ◌≤◌, ℕ, zero, suc, Bool, true, false, cond, Option, Some, None, List, [], ◌∷◌, ◌++◌, codes, Result, Ok, Err, refl, sym, ap, subst, ◌∙◌, append_assoc, arith}
use Rattle.std.specs.Str.{bytes_eq}
use Rattle.std.proofs.lemmas.List.{append-nil}
use Rattle.trop_text.specs.Name.{is_name}
use Rattle.trop_text.specs.declared.fault.FaultKind.{FaultKind}
use Rattle.trop_text.specs.declared.fault.FaultKind.TheVariants.{AssertMode, TooManyStatements}
use Rattle.trop_grammar.specs.Grammar.{Then, Empty}
use Rattle.trop_grammar.specs.Lists.{Passes}
use Rattle.shape_grammar.specs.Past.{past}
use Rattle.shape_grammar.specs.Texts.{One, Maybe, LeftOut, Written, Many, NoMore, OneMore}
use Rattle.shape_grammar.proofs.Pasts.{gap, past-append}
use Rattle.shape_grammar.proofs.TokenLaws.{at_token, token_whole, regroup}
use Rattle.prog_theory.specs.States.{Term}
use Rattle.prog_theory.specs.Conditions.{Cond}
use Rattle.prog_theory.specs.Statements.{Rel, AtMost, AtLeast, Same, SideWord, Greatest, Least, Side, Claim, Stmt, Set, Havoc, Assume, Assert, If, While, Skip, Block}
use Rattle.prog_theory.specs.Statements as tree
use Rattle.prog_theory.specs.Limits.{Limits}
use Rattle.prog_texts.specs.AssertRule.{AssertRule, is_against}
use Rattle.prog_texts.specs.Words.{Counted, text, skipped, says, is_variable}
use Rattle.prog_texts.specs.Judges.{passed, wanted, relation_of, goes_on, known, variable, is_one_too_many}
use Rattle.prog_texts.specs.Shapes.{language}
use Rattle.prog_texts.specs.Operands.{First, first, IsSaid, IsOperand}
use Rattle.prog_texts.specs.Conditions.{IsCondition, Nowhere}
use Rattle.prog_texts.specs.Claims.{Single, Listed, side_of, side_start, AreTerms, IsSideRest, IsSide, IsClaim}
use Rattle.prog_theory.specs.Blocks.{and_then}
use Rattle.prog_texts.specs.Statements.{Verb, Havocs, Assumes, Asserts, Asks, Loops, Skips, Sets, one_more, verb, block_sign, IsBlock, IsStatementRest, AreStatements}
use Rattle.prog_texts.specs.Inks.{Ink, Says, Name, Blank, Feed}
use Rattle.prog_texts.specs.Inked.{AreInks}
use Rattle.prog_theory.specs.Nesting.{Loose}
use Rattle.prog_texts.specs.Printed.{term_inks, cond_inks, rel_text, more_inks, terms_inks, side_inks, claim_inks, indent, closing, else_inks, stmt_inks, block_inks}
use Rattle.prog_theory.specs.Nesting.{cond_nesting, stmt_nesting, block_nesting}
use Rattle.prog_texts.specs.Suits.{SuitsSide, SuitsStmt, SuitsBlock}
use Rattle.prog_texts.proofs.Signs.{text_is}
use Rattle.prog_texts.proofs.PrintedParts.{other_word, not_of, Then_begun, Then_all, the_empty, a_one, said_ink, said_then, split, operand_begun, operand_spelled}
use Rattle.prog_texts.proofs.PrintedConditions.{goes, room, condition_spelled}

rel_back : (r : Rel) → relation_of (rel_text r) ≡ Some r
rel_back AtMost = refl
rel_back AtLeast = refl
rel_back Same = refl

wanted_rel : (r : Rel) (t : Counted) → says (rel_text r) t ≡ true → wanted (relation_of (text t)) ≡ Ok r
wanted_rel r t e = ap (λ x. wanted (relation_of x)) (text_is (rel_text r) t e) ∙ ap wanted (rel_back r)

-- one alternative of two
skips : {A : Type 0} (a : Bool) (x w : A) → a ≡ false → cond a x w ≡ w
skips false x w e = refl
skips true x w e = absurd cc

takes : {A : Type 0} (a : Bool) (x w : A) → a ≡ true → cond a x w ≡ x
takes true x w e = refl
takes false x w e = absurd cc

Then_back : {A : Type 0} {R : List Counted → A → Type 0} (us : List Counted) (y : A) → Then R (λ x. Empty x) us y →
    R us y
Then_back {R = R} us y h = subst (λ z. R z y) (sym
    (h.whole ∙ ap (λ (z : List Counted). h.front ++ z) h.second.none ∙ append-nil h.front))
    (subst (λ z. R h.front z) (sym h.second.is) h.first)

-- a block and more of them
abbrev joined : Block → Block → Block
joined xs tree.Empty = xs
joined xs (tree.Then y ys) = joined (and_then xs y) ys

joined-first : (z : Stmt) (zs b : Block) → joined (tree.Then z zs) b ≡ tree.Then z (joined zs b)
joined-first z zs tree.Empty = refl
joined-first z zs (tree.Then y ys) = joined-first z (and_then zs y) ys

joined-none : (b : Block) → joined tree.Empty b ≡ b
joined-none tree.Empty = refl
joined-none (tree.Then y ys) = joined-first y tree.Empty ys ∙ ap (λ z. tree.Then y z) (joined-none ys)

module _ (L : Limits) (rule : AssertRule) (names : List (List ℕ)) where
  -- ---- claims

  more_spelled : (xs ts : List Term) (us : List Counted) → AreInks L names (more_inks ts) us →
      Many skipped (λ (xs : List Term). goes_on (codes ","))
      (λ xs u. Then (IsOperand L names) (λ y. Empty (xs ++ y ∷ []))) xs us (xs ++ ts)
  more_spelled xs [] us h = NoMore h (append-nil xs)
  more_spelled xs (t ∷ ts) us h =
      let k = split L names (term_inks t) (more_inks ts) h.1 h.5 in
      OneMore h.0 tt h.1 k.front k.back (xs ++ t ∷ []) h.2 (goes (codes ",") h.0 h.4.1) k.whole
      (Then_all k.front t (xs ++ t ∷ []) (operand_spelled L names t k.front k.first)
      (the_empty (xs ++ t ∷ []) [] refl))
      (subst (λ z. Many skipped (λ (xs : List Term). goes_on (codes ","))
      (λ xs u. Then (IsOperand L names) (λ y. Empty (xs ++ y ∷ []))) (xs ++ t ∷ []) k.back z)
      (append_assoc xs (t ∷ []) ts) (more_spelled (xs ++ t ∷ []) ts k.back k.second))

  terms_spelled : (t : Term) (ts : List Term) (us : List Counted) → AreInks L names (terms_inks (t ∷ ts)) us →
      AreTerms L names us (t ∷ ts)
  terms_spelled t ts us h =
      let k = split L names (term_inks t) (more_inks ts) us h in
      record {
        front = k.front;
        back = k.back;
        value = t;
        whole = k.whole;
        first =
            operand_spelled L names t k.front k.first;
        second = more_spelled (t ∷ []) ts k.back k.second;
      }

  listed_spelled : (word : SideWord) (t : Term) (ts : List Term) (us : List Counted) →
      AreInks L names (Says (codes "(") ∷ (terms_inks (t ∷ ts) ++ Says (codes ")") ∷ [])) us →
      IsSideRest L names (Listed word) us (side_of word (t ∷ ts))
  listed_spelled word t ts us h = said_then L names (codes "(") (terms_inks (t ∷ ts) ++ Says (codes ")") ∷ []) us
      (side_of word (t ∷ ts)) h
      (λ vs q. let k = split L names (terms_inks (t ∷ ts)) (Says (codes ")") ∷ []) vs q in
      record {
        front = k.front;
        back = k.back;
        value = t ∷ ts;
        whole = k.whole;
        first =
            terms_spelled t ts k.front k.first;
        second =
            Then_all k.back tt (side_of word (t ∷ ts)) (said_ink L names (codes ")") k.back k.second)
            (the_empty (side_of word (t ∷ ts)) [] refl);
      })

  start_max : (t : Counted) → says (codes "max") t ≡ true → is_against rule (codes "max") ≡ false →
      side_start L rule names t ≡ Ok (Listed Greatest)
  start_max t e k = takes (says (codes "max") t) _ _ e
      ∙ ap (λ z. cond (is_against rule z) (Err AssertMode) (Ok (Listed Greatest))) (text_is (codes "max") t e)
      ∙ skips (is_against rule (codes "max")) _ _ k

  start_min : (t : Counted) → says (codes "min") t ≡ true → is_against rule (codes "min") ≡ false →
      side_start L rule names t ≡ Ok (Listed Least)
  start_min t e k =
      skips (says (codes "max") t) _ _ (other_word (codes "min") (codes "max") t e refl)
      ∙ takes (says (codes "min") t) _ _ e
      ∙ ap (λ z. cond (is_against rule z) (Err AssertMode) (Ok (Listed Least))) (text_is (codes "min") t e)
      ∙ skips (is_against rule (codes "min")) _ _ k

  start_single : (t : Counted) (f : First) → says (codes "max") t ≡ false → says (codes "min") t ≡ false →
      first L names t ≡ Ok f → side_start L rule names t ≡ Ok (Single f)
  start_single t f e k h = skips (says (codes "max") t) _ _ e ∙ skips (says (codes "min") t) _ _ k
      ∙ ap (passed Single) h

  pub side_spelled : (word : SideWord) (ts : List Term) (us : List Counted) → SuitsSide rule word ts →
      AreInks L names (side_inks word ts) us → IsSide L rule names us (side_of word ts)
  side_spelled tree.One [] us s h = absurd s
  side_spelled tree.One (t ∷ u ∷ ts) us s h = absurd s
  side_spelled Greatest [] us s h = absurd s
  side_spelled Least [] us s h = absurd s
  side_spelled tree.One (t ∷ []) us s h =
      let o = operand_begun L names t.coord t.add us (subst (λ z. AreInks L names z us) (append-nil (term_inks t)) h) in
      Then_begun us o.token o.behind (Single o.start) (side_of tree.One (t ∷ [])) o.whole
      (start_single o.token o.start (o.other (codes "max") refl refl refl)
      (o.other (codes "min") refl refl refl) o.judged)
      (Then_all o.behind t (side_of tree.One (t ∷ [])) o.rest (the_empty (side_of tree.One (t ∷ [])) [] refl))
  side_spelled Greatest (t ∷ ts) us s h = Then_begun us h.0 h.1 (Listed Greatest) (side_of Greatest (t ∷ ts)) h.2
      (start_max h.0 h.4.1 s) (listed_spelled Greatest t ts h.1 h.5)
  side_spelled Least (t ∷ ts) us s h = Then_begun us h.0 h.1 (Listed Least) (side_of Least (t ∷ ts)) h.2
      (start_min h.0 h.4.1 s) (listed_spelled Least t ts h.1 h.5)

  pub claim_spelled : (c : Claim) (us : List Counted) → SuitsSide rule c.left.word c.left.terms →
      SuitsSide rule c.right.word c.right.terms → AreInks L names (claim_inks c) us → IsClaim L rule names us c
  claim_spelled c us s q h =
      let k = split L names (side_inks c.left.word c.left.terms)
      (Blank ∷ Says (rel_text c.rel) ∷ Blank ∷ side_inks c.right.word c.right.terms) us h in
      let m = k.second in
      record {
        front = k.front;
        back = k.back;
        value = c.left;
        whole = k.whole;
        first = side_spelled c.left.word c.left.terms k.front s k.first;
        second = Then_begun k.back m.0 m.1 c.rel c m.2 (wanted_rel c.rel m.0 m.4.1)
            (Then_all m.1 c.right c (side_spelled c.right.word c.right.terms m.1 q m.5) (the_empty c [] refl));
      }

  -- ---- statements

  unindent : (n : ℕ) (is : List Ink) (us : List Counted) → AreInks L names (indent n ++ is) us → AreInks L names is us
  unindent zero is us h = h
  unindent (suc n) is us h = unindent n is us h

  abbrev Inside : ℕ → List Counted → Block → Type 0
  Inside zero = Nowhere
  Inside (suc d) = AreStatements L rule names d

  abbrev IsRest : ℕ → Verb → List Counted → Stmt → Type 0
  IsRest d v = IsStatementRest L rule names d (room L names d) (Inside d) v

  -- a statement, by its first token
  record IsVerb (d : ℕ) (x : Stmt) (us : List Counted) : Type 0 where
    token : Counted
    behind : List Counted
    whole : past skipped us ≡ token ∷ behind
    word : Verb
    judged : verb L names token ≡ Some (Ok word)
    rest : IsRest d word behind x

  counted : (t : Counted) (v : Result Verb FaultKind) → is_one_too_many L t ≡ false → one_more L t v ≡ Some v
  counted t v e = ap (λ z. Some (cond z (Err TooManyStatements) v)) e

  -- what a text is as the first token of a statement, where it is no name
  abbrev verb_of_text : Counted → List ℕ → Option (Result Verb FaultKind)
  verb_of_text t w =
      cond (bytes_eq w (codes "havoc")) (one_more L t (Ok Havocs))
      (cond (bytes_eq w (codes "assume")) (one_more L t (Ok Assumes))
      (cond (bytes_eq w (codes "assert")) (one_more L t (Ok Asserts))
      (cond (bytes_eq w (codes "if")) (one_more L t (Ok Asks))
      (cond (bytes_eq w (codes "while")) (one_more L t (Ok Loops))
      (cond (bytes_eq w (codes "skip")) (one_more L t (Ok Skips))
      (cond (is_variable t) (one_more L t (passed Sets (known names t))) None))))))

  -- the word of a verb
  spoken : (word : List ℕ) (v : Verb) (t : Counted) → verb_of_text t word ≡ one_more L t (Ok v) →
      says word t ≡ true → is_one_too_many L t ≡ false → verb L names t ≡ Some (Ok v)
  spoken word v t is e k = ap (verb_of_text t) (text_is word t e) ∙ is ∙ counted t (Ok v) k

  is_set : (t : Counted) (i : ℕ) → is_variable t ≡ true → known names t ≡ Ok i → is_one_too_many L t ≡ false →
      verb L names t ≡ Some (Ok (Sets i))
  is_set t i e h k =
      skips (says (codes "havoc") t) _ _ (not_of is_name (codes "havoc") t refl e) ∙ skips (says (codes "assume") t) _ _
      (not_of is_name (codes "assume") t refl e)
      ∙ skips (says (codes "assert") t) _ _ (not_of is_name (codes "assert") t refl e) ∙ skips (says (codes "if") t) _ _
      (not_of is_name (codes "if") t refl e)
      ∙ skips (says (codes "while") t) _ _ (not_of is_name (codes "while") t refl e) ∙ skips (says (codes "skip") t) _ _
      (not_of is_name (codes "skip") t refl e)
      ∙ takes (is_variable t) _ _ e ∙ counted t (passed Sets (known names t)) k ∙ ap (λ z. Some (passed Sets z)) h

  -- a part and `;`
  ended_spelled : {A : Type 0} {R : List Counted → A → Type 0} (f : A → Stmt) (x : A) (is : List Ink)
      (us : List Counted) → AreInks L names (is ++ Says (codes ";") ∷ Feed ∷ []) us →
      ((vs : List Counted) → AreInks L names is vs → R vs x) →
      Then R (λ y. Then (IsSaid (codes ";")) (λ u. Empty (f y))) us (f x)
  ended_spelled f x is us h to =
      let k = split L names is (Says (codes ";") ∷ Feed ∷ []) us h in
      record {
        front = k.front;
        back = k.back;
        value = x;
        whole = k.whole;
        first = to k.front k.first;
        second =
            Then_all k.back tt (f x) (said_ink L names (codes ";") k.back k.second) (the_empty (f x) [] refl);
      }

  is_open : (t : Counted) → says (codes "{") t ≡ true → block_sign true t ≡ Ok tt
  is_open t e = rw e refl

  -- a block, and what stands behind it
  brace_then : {B : Type 0} {S : Block → List Counted → B → Type 0} (n m d : ℕ) (a : Block) (js : List Ink)
      (us : List Counted) (y : B) → ((vs : List Counted) → AreInks L names (block_inks m a) vs →
      AreStatements L rule names d vs a)
      → AreInks L names (Says (codes "{") ∷ Feed ∷ (block_inks m a ++ (indent n ++ Says (codes "}") ∷ js))) us →
      ((vs : List Counted) → AreInks L names js vs → S a vs y) →
      Then (IsBlock true (AreStatements L rule names d)) S us y
  brace_then n m d a js us y inner h more =
      let k = split L names (block_inks m a) (indent n ++ Says (codes "}") ∷ js) h.1 h.5 in
      let q = split L names (Says (codes "}") ∷ []) js k.back (unindent n (Says (codes "}") ∷ js) k.back k.second) in
      let g = gap skipped us in
      record {
        front = g.front ++ h.0 ∷ (k.front ++ q.front);
        back = q.back;
        value = a;
        whole = token_whole language us h.0 h.1 h.2 g ∙ ap (λ (z : List Counted). g.front ++ h.0 ∷ z)
            (k.whole ∙ ap (λ (z : List Counted). k.front ++ z) q.whole ∙ sym (append_assoc k.front q.front q.back))
            ∙ sym (regroup language g.front h.0 (k.front ++ q.front) q.back);
        first = Then_begun (g.front ++ h.0 ∷ (k.front ++ q.front)) h.0 (k.front ++ q.front) tt a
            (at_token language us h.0 h.1 h.2 g (k.front ++ q.front)) (is_open h.0 h.4.1)
            (record {
              front = k.front;
              back = q.front;
              value = a;
              whole = refl;
              first = inner k.front k.first;
              second =
                  Then_all q.front tt a (said_ink L names (codes "}") q.front q.first) (the_empty a [] refl);
            });
        second = more q.back q.second;
      }

  abbrev IsStep : ℕ → Block → Verb → List Counted → Block → Type 0
  IsStep d xs v = Then (IsRest d v) (λ x. Empty (and_then xs x))

  statements_are : (d : ℕ) (us : List Counted) (b : Block) →
      Many skipped (λ (xs : Block). verb L names) (IsStep d) tree.Empty us b → AreStatements L rule names d us b
  unfolding AreStatements
  statements_are zero us b h = h
  statements_are (suc d) us b h = h

  havoc_rest : (i : ℕ) (us : List Counted) → AreInks L names (Name i ∷ []) us →
      One skipped (Passes (variable names)) us i
  havoc_rest i us h = a_one us h.0 h.1 i h.2 h.5 (let e = h.4.1 in takes (is_variable h.0) _ _ e ∙ h.4.2)

  -- the second block, or none
  else_spelled : (n d : ℕ) (c : Cond) (a b : Block) (us : List Counted) →
      ((vs : List Counted) → AreInks L names (block_inks (suc n) b) vs → AreStatements L rule names d vs b)
      → AreInks L names (Says (codes "else") ∷ Blank ∷ Says (codes "{") ∷ Feed ∷
      (block_inks (suc n) b ++ (indent n ++ closing))) us →
      Then (Maybe skipped (goes_on (codes "else")) tree.Empty (λ u. IsBlock true (AreStatements L rule names d)))
      (λ ys. Empty (If c a ys)) us (If c a b)
  else_spelled n d c a b us inner h =
      Then_all us b (If c a b) (Written h.0 tt h.1 h.2 (goes (codes "else") h.0 h.4.1)
      (Then_back h.1 b (brace_then n (suc n) d b (Feed ∷ []) h.1 b inner h.5 (λ vs q. the_empty b vs q))))
      (the_empty (If c a b) [] refl)

  -- what stands behind the condition of an `if`
  if_rest : (n d : ℕ) (c : Cond) (a b : Block) (us : List Counted) →
      ((vs : List Counted) → AreInks L names (block_inks (suc n) a) vs → AreStatements L rule names d vs a) →
      ((vs : List Counted) → AreInks L names (block_inks (suc n) b) vs → AreStatements L rule names d vs b)
      → AreInks L names (Says (codes "{") ∷ Feed ∷
      (block_inks (suc n) a ++ (else_inks n b (block_inks (suc n) b) ++ (indent n ++ closing)))) us
      → Then (IsBlock true (AreStatements L rule names d))
      (λ xs. Then (Maybe skipped (goes_on (codes "else")) tree.Empty
      (λ u. IsBlock true (AreStatements L rule names d))) (λ ys. Empty (If c xs ys))) us (If c a b)
  if_rest n d c a tree.Empty us first second h = brace_then n (suc n) d a (Feed ∷ []) us (If c a tree.Empty) first h
      (λ vs q. Then_all vs tree.Empty (If c a tree.Empty) (LeftOut q refl) (the_empty (If c a tree.Empty) [] refl))
  if_rest n d c a (tree.Then x xs) us first second h =
      let b = tree.Then x xs in
      let more : List Ink = Says (codes "else") ∷ Blank ∷ Says (codes "{") ∷ Feed ∷ block_inks (suc n) b in
      let e : (indent n ++ Says (codes "}") ∷ Blank ∷ more) ++ (indent n ++ closing) ≡ indent n
      ++ Says (codes "}") ∷ Blank ∷ (more ++ (indent n ++ closing)) =
      append_assoc (indent n) (Says (codes "}") ∷ Blank ∷ more) (indent n ++ closing) in
      brace_then n (suc n) d a (Blank ∷ (more ++ (indent n ++ closing))) us (If c a b) first
      (subst (λ z. AreInks L names (Says (codes "{") ∷ Feed ∷ (block_inks (suc n) a ++ z)) us) e h)
      (λ vs q. else_spelled n d c a b vs second q)

  whole_block : (b : Block) (d : ℕ) (us : List Counted) →
      Many skipped (λ (xs : Block). verb L names) (IsStep d) tree.Empty us (joined tree.Empty b) →
      AreStatements L rule names d us b
  whole_block b d us h = statements_are d us b (subst
      (λ z. Many skipped (λ (xs : Block). verb L names) (IsStep d) tree.Empty us z) (joined-none b) h)

  -- a statement, from its first token and the rest behind it
  verb_at : (d : ℕ) (x : Stmt) (us : List Counted) (t : Counted) (vs : List Counted) (v : Verb) →
      past skipped us ≡ t ∷ vs → verb L names t ≡ Some (Ok v) → IsRest d v vs x → IsVerb d x us
  verb_at d x us t vs v e judged rest =
      record { token = t; behind = vs; whole = e; word = v; judged = judged; rest = rest }

  -- a condition, and what stands behind it
  condition_then : {B : Type 0} {S : Cond → List Counted → B → Type 0} (c : Cond) (d : ℕ) (js : List Ink)
      (us : List Counted) (y : B) → cond_nesting Loose c ≤ d → AreInks L names (cond_inks Loose c ++ js) us →
      ((vs : List Counted) → AreInks L names js vs → S c vs y) → Then (IsCondition L names d) S us y
  condition_then c d js us y le h more =
      let k = split L names (cond_inks Loose c) js us h in
      record {
        front = k.front;
        back = k.back;
        value = c;
        whole = k.whole;
        first = condition_spelled L names c d k.front le k.first;
        second = more k.back k.second;
      }

  mutual
    stmt_spelled : (x : Stmt) (n d : ℕ) (us : List Counted) → SuitsStmt rule x → stmt_nesting x ≤ d →
        AreInks L names (stmt_inks n x) us → IsVerb d x us
    stmt_spelled (Set i t) n d us s le h = verb_at d (Set i t) us h.0 h.1 (Sets i) h.2
        (is_set h.0 i h.4.1 h.4.2 h.3.one)
        (said_then L names (codes ":=") (Blank ∷ (term_inks t ++ Says (codes ";") ∷ Feed ∷ [])) h.1 (Set i t) h.5
        (λ vs q. ended_spelled (λ y. Set i y) t (term_inks t) vs q (operand_spelled L names t)))
    stmt_spelled (Havoc i) n d us s le h = verb_at d (Havoc i) us h.0 h.1 Havocs h.2
        (spoken (codes "havoc") Havocs h.0 refl h.4.1 h.3.one)
        (ended_spelled Havoc i (Name i ∷ []) h.1 h.5 (havoc_rest i))
    stmt_spelled (Assume c) n d us s le h = verb_at d (Assume c) us h.0 h.1 Assumes h.2
        (spoken (codes "assume") Assumes h.0 refl h.4.1 h.3.one)
        (ended_spelled Assume c (cond_inks Loose c) h.1 h.5 (λ vs q. condition_spelled L names c d vs le q))
    stmt_spelled (Assert c) n d us s le h = verb_at d (Assert c) us h.0 h.1 Asserts h.2
        (spoken (codes "assert") Asserts h.0 refl h.4.1 h.3.one)
        (ended_spelled Assert c (claim_inks c) h.1 h.5 (λ vs q. claim_spelled c vs s.0 s.1 q))
    stmt_spelled Skip n d us s le h = verb_at d Skip us h.0 h.1 Skips h.2
        (spoken (codes "skip") Skips h.0 refl h.4.1 h.3.one)
        (said_then L names (codes ";") (Feed ∷ []) h.1 Skip h.5 (λ vs q. the_empty Skip vs q))
    stmt_spelled (If c a b) n zero us s le h = absurd (omega arith)
    stmt_spelled (If c a b) n (suc d) us s le h =
        let le1 : block_nesting a ≤ d = omega arith in
        let le2 : block_nesting b ≤ d = omega arith in
        verb_at (suc d) (If c a b) us h.0 h.1 Asks h.2 (spoken (codes "if") Asks h.0 refl h.4.1 h.3.one)
        (condition_then c (suc d) (Blank ∷ Says (codes "{") ∷ Feed ∷
        (block_inks (suc n) a ++ (else_inks n b (block_inks (suc n) b) ++ (indent n ++ closing)))) h.1 (If c a b)
        (omega arith) h.5 (λ ws q. if_rest n d c a b ws
        (λ vs q. whole_block a d vs (many_spelled a (suc n) d tree.Empty vs s.0 le1 q))
        (λ vs q. whole_block b d vs (many_spelled b (suc n) d tree.Empty vs s.1 le2 q)) q))
    stmt_spelled (While c a) n zero us s le h = absurd (omega arith)
    stmt_spelled (While c a) n (suc d) us s le h =
        let le1 : block_nesting a ≤ d = omega arith in
        verb_at (suc d) (While c a) us h.0 h.1 Loops h.2 (spoken (codes "while") Loops h.0 refl h.4.1 h.3.one)
        (condition_then c (suc d) (Blank ∷ Says (codes "{") ∷ Feed ∷ (block_inks (suc n) a ++ (indent n ++ closing)))
        h.1 (While c a) (omega arith) h.5 (λ ws q. brace_then n (suc n) d a (Feed ∷ []) ws (While c a)
        (λ vs q. whole_block a d vs (many_spelled a (suc n) d tree.Empty vs s le1 q)) q
        (λ vs q. the_empty (While c a) vs q)))

    many_spelled : (b : Block) (n d : ℕ) (xs : Block) (us : List Counted) → SuitsBlock rule b → block_nesting b ≤ d →
        AreInks L names (block_inks n b) us → Many skipped (λ (xs : Block). verb L names) (IsStep d) xs us (joined xs b)
    many_spelled tree.Empty n d xs us s le h = NoMore h refl
    many_spelled (tree.Then x ys) n d xs us s le h =
        let k = split L names (stmt_inks n x) (block_inks n ys) us
        (unindent n (stmt_inks n x ++ block_inks n ys) us h) in
        let le0 : stmt_nesting x ≤ d = omega arith in
        let le1 : block_nesting ys ≤ d = omega arith in
        let v = stmt_spelled x n d k.front s.0 le0 k.first in
        OneMore v.token v.word (v.behind ++ k.back) v.behind k.back (and_then xs x)
        (ap (λ (z : List Counted). past skipped z) k.whole
        ∙ past-append skipped k.front v.token v.behind k.back v.whole) v.judged refl
        (Then_all v.behind x (and_then xs x) v.rest (the_empty (and_then xs x) [] refl))
        (many_spelled ys n d (and_then xs x) k.back s.1 le1 k.second)

  -- tokens that are a printed block spell it
  pub block_spelled : (b : Block) (n d : ℕ) (us : List Counted) → SuitsBlock rule b → block_nesting b ≤ d →
      AreInks L names (block_inks n b) us → AreStatements L rule names d us b
  block_spelled b n d us s le h = whole_block b d us (many_spelled b n d tree.Empty us s le h)
