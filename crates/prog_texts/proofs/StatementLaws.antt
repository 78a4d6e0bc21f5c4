-- Statements are read right, and each stop is at the first fault.
-- Index: is_verb, NoMore, no_verb, no_more_led, statements_reads.
use Rattle.std.proofs.Common.{◌≡◌, ℕ, zero, suc, Bool, true, false, cond, Option, Some, None, pos, List, [], ◌++◌, codes, Result, Ok, Err, refl, sym, ap, subst, ◌∙◌, inr, ◌||◌}
use Rattle.std.specs.Str.{bytes_eq}
use Rattle.trop_text.specs.Name.{is_name}
use Rattle.trop_text.specs.Names.{place_of}
use Rattle.trop_text.specs.declared.token.TokenKind.TheVariants.{Word, Sign}
use Rattle.trop_text.specs.declared.fault.FaultKind.{FaultKind}
use Rattle.trop_text.specs.declared.fault.FaultKind.TheVariants.{Syntax, UnknownName, TooManyStatements, TooDeep}
use Rattle.trop_grammar.specs.Reading.{Reading}
use Rattle.trop_grammar.specs.Grammar.{Empty, Then}
use Rattle.shape_grammar.specs.Past.{past}
use Rattle.shape_grammar.specs.Steps.{maybe_past}
use Rattle.shape_grammar.specs.Texts.{Maybe}
use Rattle.shape_grammar.specs.Shape.{Shape, Has, Begins, Nothing, Never, Next, Perhaps, Often, Both, Part}
use Rattle.shape_grammar.specs.Shape as shapes
use Rattle.shape_grammar.specs.Reads.{Reads, Heads}
use Rattle.shape_grammar.proofs.Pasts.{past-append}
use Rattle.shape_grammar.proofs.Laws.{has-never, Reads-bind, Reads-then, Reads-part, Reads-weaker}
use Rattle.shape_grammar.proofs.TokenLaws.{Behind}
use Rattle.shape_grammar.proofs.Choices.{Lets, Blames, Refuses, choose, Reads-choice, Reads-behind, Reads-map, FitsMaybe, Begins_it, Blames_it, Leaves_it, choose_maybe, Reads-perhaps, Reads-often}
use Rattle.prog_theory.specs.Statements.{Stmt, Set, Havoc, Assume, Assert, If, While, Skip, Block, AtMost, Claim}
use Rattle.prog_theory.specs.Statements as tree
use Rattle.prog_theory.specs.Limits.{Limits}
use Rattle.prog_texts.specs.AssertRule.{AssertRule}
use Rattle.prog_texts.specs.Words.{Counted, text, skipped, says, is_variable}
use Rattle.prog_texts.specs.Judges.{passed, goes_on, coordinate, known, is_one_too_many}
use Rattle.prog_texts.specs.Shapes.{Noun, Condition, Statements, language, sign, a_name, after_word, operand, claim, block, statement}
use Rattle.prog_texts.specs.Causes.{IsCause}
use Rattle.prog_texts.specs.Operands.{constant}
use Rattle.prog_texts.specs.Claims.{side_of}
use Rattle.prog_texts.specs.Conditions.{Nowhere, nowhere}
use Rattle.prog_theory.specs.Blocks.{and_then}
use Rattle.prog_texts.specs.Statements.{Verb, Havocs, Assumes, Asserts, Asks, Loops, Skips, Sets, one_more, verb, IsBlock, IsStatementRest, AreStatements, AreStatementsOf, statements_of, block_at, statement_rest, one_more_at, statements_at}
use Rattle.prog_texts.proofs.Signs.{Anything, sample, some_sign, some_name, some_next, some_both, some_perhaps, some_number, said_reads, name_reads, IsLed, text_is, led_word, led_sign, led_first, quiet_led, quiet_none}
use Rattle.prog_texts.proofs.Blamed.{cause_grows, under}
use Rattle.prog_texts.proofs.OperandLaws.{NoSum, no_sum_led, operand_reads}
use Rattle.prog_texts.proofs.ConditionLaws.{link_of, Quiet, NoLink, no_link_led, some_condition, condition_shape, condition_reads}
use Rattle.prog_texts.proofs.ClaimLaws.{some_claim, claim_reads}

or_third : (a b c : Bool) → c ≡ true → (a || b || c) ≡ true
or_third true b true e = refl
or_third false true true e = refl
or_third false false true e = refl
or_third a b false e = absurd cc

-- ---- what may follow

-- whether a statement begins with that text
abbrev pub is_verb : List ℕ → Bool
is_verb x =
    bytes_eq x (codes "havoc") || bytes_eq x (codes "assume") || bytes_eq x (codes "assert") || bytes_eq x
    (codes "if") || bytes_eq x (codes "while") || bytes_eq x (codes "skip")
    || is_name x

none_of : (a b c d e f g : Bool) (p q r s u v w : Option (Result Verb FaultKind)) →
    (a || b || c || d || e || f || g) ≡ false → cond a p
    (cond b q (cond c r (cond d s (cond e u (cond f v (cond g w None)))))) ≡ None
none_of false false false false false false false p q r s u v w h = refl
none_of false false false false false false true p q r s u v w h = absurd cc
none_of false false false false false true g p q r s u v w h = absurd cc
none_of false false false false true f g p q r s u v w h = absurd cc
none_of false false false true e f g p q r s u v w h = absurd cc
none_of false false true d e f g p q r s u v w h = absurd cc
none_of false true c d e f g p q r s u v w h = absurd cc
none_of true b c d e f g p q r s u v w h = absurd cc

-- no statement and no `else` follows
pub record NoMore (L : Limits) (names : List (List ℕ)) (vs : List Counted) : Type 0 where
  pub statement : Heads (λ t. verb L names t ≡ None) (past skipped vs)
  pub other : Quiet (codes "else") vs

pub no_verb : (L : Limits) (names : List (List ℕ)) (t : Counted) → is_verb (text t) ≡ false → verb L names t ≡ None
no_verb L names t e = none_of (says (codes "havoc") t) (says (codes "assume") t) (says (codes "assert") t)
    (says (codes "if") t) (says (codes "while") t) (says (codes "skip") t) (is_variable t) _ _ _ _ _ _ _ e

pub no_more_led : (L : Limits) (names : List (List ℕ)) (word : List ℕ) → is_verb word ≡ false →
    link_of (codes "else") word ≡ None → (vs : List Counted) → IsLed word vs → NoMore L names vs
no_more_led L names word e k vs h = record {
  statement = rw h.whole (no_verb L names h.token (ap is_verb h.is ∙ e));
  other = quiet_led (link_of (codes "else")) word k vs h;
}

no_more_none : (L : Limits) (names : List (List ℕ)) → NoMore L names []
unfolding past
no_more_none L names = record { statement = tt; other = quiet_none (link_of (codes "else")) }

-- a statement does not begin with `else`
not_else : (t : Counted) (us : List Counted) → Has language (statement t) us → link_of (codes "else") (text t) ≡ None
not_else t us h = at (says (codes "else") t) refl
  where
    at : (b : Bool) → says (codes "else") t ≡ b → link_of (codes "else") (text t) ≡ None
    at false e = rw e refl
    at true e = absurd (has-never language (subst (λ x. Has language (statement (sample Word x)) us)
        (text_is (codes "else") t e) h))

quiet_statements : (L : Limits) (names : List (List ℕ)) (ws vs : List Counted) → Has language (Often statement) ws →
    NoMore L names vs → Quiet (codes "else") (ws ++ vs)
quiet_statements L names ws vs (shapes.NoMore e) k =
    subst (λ (z : List Counted). Quiet (codes "else") (z ++ vs)) (sym e) k.other
quiet_statements L names ws vs (shapes.OneMore t ts us zs e whole h m) k =
    rw (past-append skipped ws t ts vs e) (not_else t us h)

-- ---- samples

some_body : Begins language (Both (Part Statements) (sign (codes "}"))) []
some_body = some_both (record { more = []; is = shapes.Named (shapes.NoMore refl) }) (some_sign (codes "}") refl)

some_block : Begins language block []
some_block = some_next {f = after_word (codes "{") (Both (Part Statements) (sign (codes "}")))}
    (sample Sign (codes "{")) refl some_body

some_end : Begins language (sign (codes ";")) []
some_end = some_sign (codes ";") refl

empty_claim : Claim
empty_claim = record { left = side_of tree.One []; rel = AtMost; right = side_of tree.One [] }

module _ (L : Limits) (rule : AssertRule) (names : List (List ℕ)) where
  -- ---- blocks

  block_at_zero : (n : ℕ) → Reads language Syntax n Anything (block_at false nowhere) (IsBlock false Nowhere) block
      (IsCause L rule names 0)
  unfolding block_at
  block_at_zero n = Reads-choice language Syntax (sample Sign (codes "{")) refl some_body tt
      (λ t. choose language Syntax (says (codes "{") t)
      (λ e. Blames TooDeep refl (record {
        some = some_body;
        cause =
            λ front. (or_third (says (codes "!") t) (says (codes "(") t) (says (codes "{") t) e, tt);
      }))
      (λ e. Refuses refl refl))

  block_reads : (n d : ℕ) {inner : List Counted → Reading Counted FaultKind Block}
      {Inner : List Counted → Block → Type 0} → Reads language Syntax n (NoMore L names) inner Inner (Part Statements)
      (IsCause L rule names d) → Reads language Syntax n Anything (block_at true inner) (IsBlock true Inner) block
      (IsCause L rule names (suc d))
  unfolding block_at
  block_reads n d h = Reads-choice language Syntax (sample Sign (codes "{")) refl some_body tt
      (λ t. choose language Syntax (says (codes "{") t)
      (λ e. Lets tt refl (Reads-bind language Syntax n (NoMore L names) Anything {B₂ = λ x w before u. ⊥}
      (Behind (IsCause L rule names (suc d)) t) tree.Empty h
      (λ xs. Reads-map language Syntax (λ u. xs) tt (said_reads n (codes "}") refl tt))
      (λ ws vs k ends. no_more_led L names (codes "}") refl refl (ws ++ vs) (led_sign (codes "}") ws vs k))
      (λ w before u begins c front. under L rule names d front t before u (inr (inr (e, begins))) w c)
      (λ x us w before u k c. absurd c)))
      (λ e. Refuses refl refl))

  -- ---- one statement

  module _ (d : ℕ) (room : Bool) (inner : List Counted → Reading Counted FaultKind Block)
      (Inner : List Counted → Block → Type 0) (blocks : (n : ℕ) →
      Reads language Syntax n Anything (block_at room inner) (IsBlock room Inner) block (IsCause L rule names d)) where
    abbrev NotElse : List Counted → Type 0
    NotElse = Quiet (codes "else")

    not_else_none : NotElse []
    not_else_none = quiet_none (link_of (codes "else"))

    abbrev RestReads : ℕ → Verb → Shape Counted Noun → Type 0
    RestReads n v a = Reads language Syntax n NotElse (statement_rest L rule names d room inner v)
        (IsStatementRest L rule names d room Inner v) a (IsCause L rule names d)

    havoc_reads : (n : ℕ) → RestReads n Havocs (Both a_name (sign (codes ";")))
    unfolding statement_rest
    havoc_reads n = Reads-then language Syntax n (cause_grows L rule names d) 0
        (name_reads n names (IsCause L rule names d) (λ t front e k. (e, k)) tt)
        (λ i. Reads-map language Syntax (λ u. Havoc i) tt (said_reads n (codes ";") refl not_else_none))

    assume_reads : (n : ℕ) → RestReads n Assumes (Both (Part Condition) (sign (codes ";")))
    unfolding statement_rest
    assume_reads n = Reads-bind language Syntax n NoLink NotElse {B₂ = λ c w before t. ⊥}
        (IsCause L rule names d) some_condition (condition_reads L rule names d n)
        (λ c. Reads-map language Syntax (λ u. Assume c) tt (said_reads n (codes ";") refl not_else_none))
        (λ ws vs k ends. no_link_led (codes ";") refl refl refl (ws ++ vs) (led_sign (codes ";") ws vs k))
        (λ w before t begins c. c) (λ x us w before t k c. absurd c)

    assert_reads : (n : ℕ) → RestReads n Asserts (Both claim (sign (codes ";")))
    unfolding statement_rest
    assert_reads n = Reads-bind language Syntax n NoSum NotElse {B₂ = λ c w before t. ⊥}
        (IsCause L rule names d) empty_claim (claim_reads L rule names d n)
        (λ c. Reads-map language Syntax (λ u. Assert c) tt (said_reads n (codes ";") refl not_else_none))
        (λ ws vs k ends. no_sum_led (codes ";") refl (ws ++ vs) (led_sign (codes ";") ws vs k))
        (λ w before t begins c. c) (λ x us w before t k c. absurd c)

    set_reads : (n i : ℕ) → RestReads n (Sets i) (Both (sign (codes ":=")) (Both (Next operand) (sign (codes ";"))))
    unfolding statement_rest
    set_reads n i = Reads-then language Syntax n (cause_grows L rule names d) tt (said_reads n (codes ":=") refl tt)
        (λ u. Reads-bind language Syntax n NoSum NotElse {B₂ = λ c w before t. ⊥} (IsCause L rule names d)
        (constant (pos 0)) (operand_reads L rule names d n)
        (λ x. Reads-map language Syntax (λ v. Set i x) tt (said_reads n (codes ";") refl not_else_none))
        (λ ws vs k ends. no_sum_led (codes ";") refl (ws ++ vs) (led_sign (codes ";") ws vs k))
        (λ w before t begins c. c) (λ x us w before t k c. absurd c))

    skip_reads : (n : ℕ) → RestReads n Skips (sign (codes ";"))
    unfolding statement_rest
    skip_reads n = Reads-map language Syntax (λ u. Skip) tt (said_reads n (codes ";") refl not_else_none)

    else_reads : (n : ℕ) → Reads language Syntax n NotElse
        (maybe_past skipped (goes_on (codes "else")) tree.Empty (λ u. block_at room inner))
        (Maybe skipped (goes_on (codes "else")) tree.Empty (λ u. IsBlock room Inner))
        (Perhaps (after_word (codes "else") block)) (IsCause L rule names d)
    else_reads n = Reads-perhaps language Syntax tree.Empty not_else_none (λ vs ends. ends)
        (λ t. choose_maybe language Syntax (says (codes "else") t)
        (λ e. Begins_it tt refl (Reads-behind language Syntax t (cause_grows L rule names d)
        (Reads-weaker language Syntax n not_else_none (λ vs ends. tt) (blocks n)))) (λ e. Leaves_it refl refl))

    no_link_block : (ws vs : List Counted) → IsLed (codes "{") (ws ++ vs) → NoLink (ws ++ vs)
    no_link_block ws vs h = no_link_led (codes "{") refl refl refl (ws ++ vs) h

    led_block : (ws vs : List Counted) → Has language block ws → IsLed (codes "{") (ws ++ vs)
    led_block ws vs h = led_word (codes "{") (Both (Part Statements) (sign (codes "}"))) ws vs h

    if_reads : (n : ℕ) → RestReads n Asks (Both (Part Condition)
        (Both block (Perhaps (after_word (codes "else") block))))
    unfolding statement_rest
    if_reads n = Reads-bind language Syntax n NoLink NotElse {B₂ = λ c. IsCause L rule names d}
        (IsCause L rule names d) some_condition (condition_reads L rule names d n)
        (λ c. Reads-then language Syntax n (cause_grows L rule names d) tree.Empty (blocks n)
        (λ xs. Reads-map language Syntax (If c xs) tree.Empty (else_reads n)))
        (λ ws vs k ends. no_link_block ws vs (led_first (codes "{") block
        (Perhaps (after_word (codes "else") block)) led_block ws vs k)) (λ w before t begins c. c)
        (λ x us w before t k c. (cause_grows L rule names d).behind us w before t c)

    while_reads : (n : ℕ) → RestReads n Loops (Both (Part Condition) block)
    unfolding statement_rest
    while_reads n = Reads-bind language Syntax n NoLink NotElse {B₂ = λ c. IsCause L rule names d}
        (IsCause L rule names d) some_condition (condition_reads L rule names d n)
        (λ c. Reads-map language Syntax (While c) tree.Empty
        (Reads-weaker language Syntax n not_else_none (λ vs ends. tt) (blocks n)))
        (λ ws vs k ends. no_link_block ws vs (led_block ws vs k)) (λ w before t begins c. c)
        (λ x us w before t k c. (cause_grows L rule names d).behind us w before t c)

    abbrev StepFits : ℕ → Block → Counted → Option (Result Verb FaultKind) → Shape Counted Noun → Type 0
    StepFits n xs t v a = FitsMaybe language Syntax n NotElse (one_more_at L rule names d room inner xs)
        (λ v. Then (IsStatementRest L rule names d room Inner v) (λ x. Empty (and_then xs x)))
        (IsCause L rule names d) t v a

    -- a statement, of which there may be too many
    counted_fits : (n : ℕ) (xs : Block) (t : Counted) (v : Result Verb FaultKind) (a : Shape Counted Noun) →
        Begins language a [] → StepFits n xs t (Some v) a → StepFits n xs t (one_more L t v) a
    counted_fits n xs t v a some h = at (is_one_too_many L t) refl
      where
        at : (b : Bool) → is_one_too_many L t ≡ b → StepFits n xs t (Some (cond b (Err TooManyStatements) v)) a
        at true e = Blames_it TooManyStatements refl (record { some = some; cause = λ front. e })
        at false e = h

    verb_fits : (n : ℕ) (xs : Block) (t : Counted) (v : Verb) (a : Shape Counted Noun) → Begins language a [] →
        RestReads n v a → StepFits n xs t (one_more L t (Ok v)) a
    unfolding one_more_at
    verb_fits n xs t v a some h = counted_fits n xs t (Ok v) a some
        (Begins_it v refl (Reads-behind language Syntax t (cause_grows L rule names d)
        (Reads-map language Syntax (and_then xs) Skip h)))

    set_fits : (n : ℕ) (xs : Block) (t : Counted) → is_variable t ≡ true →
        StepFits n xs t (one_more L t (passed Sets (known names t)))
        (Both (sign (codes ":=")) (Both (Next operand) (sign (codes ";"))))
    unfolding one_more_at
    set_fits n xs t e = counted_fits n xs t (passed Sets (known names t))
        (Both (sign (codes ":=")) (Both (Next operand) (sign (codes ";")))) some_rest
        (at (place_of (text t) names) refl)
      where
        some_rest : Begins language (Both (sign (codes ":=")) (Both (Next operand) (sign (codes ";")))) []
        some_rest = some_both (some_sign (codes ":=") refl)
            (some_both (some_next {f = operand} (sample Sign (codes "-")) refl some_digit) some_end)
          where
            some_digit : Begins language (operand (sample Sign (codes "-"))) []
            some_digit = some_number

        at : (o : Option ℕ) → place_of (text t) names ≡ o →
            StepFits n xs t (Some (passed Sets (coordinate o)))
            (Both (sign (codes ":=")) (Both (Next operand) (sign (codes ";"))))
        at (Some i) k = Begins_it (Sets (suc i)) refl
            (Reads-behind language Syntax t (cause_grows L rule names d)
            (Reads-map language Syntax (and_then xs) Skip (set_reads n (suc i))))
        at None k = Blames_it UnknownName refl (record { some = some_rest; cause = λ front. (e, k) })

    step_fits : (n : ℕ) (xs : Block) (t : Counted) → StepFits n xs t (verb L names t) (statement t)
    step_fits n xs t =
        choose_maybe language Syntax (says (codes "havoc") t)
        (λ e. verb_fits n xs t Havocs (Both a_name (sign (codes ";"))) (some_both some_name some_end) (havoc_reads n))
        (λ a. choose_maybe language Syntax (says (codes "assume") t)
        (λ e. verb_fits n xs t Assumes (Both (Part Condition) (sign (codes ";"))) (some_both condition_shape some_end)
        (assume_reads n))
        (λ b. choose_maybe language Syntax (says (codes "assert") t)
        (λ e. verb_fits n xs t Asserts (Both claim (sign (codes ";"))) (some_both some_claim some_end) (assert_reads n))
        (λ c. choose_maybe language Syntax (says (codes "if") t)
        (λ e. verb_fits n xs t Asks (Both (Part Condition) (Both block (Perhaps (after_word (codes "else") block))))
        (some_both condition_shape (some_both some_block some_perhaps)) (if_reads n))
        (λ f. choose_maybe language Syntax (says (codes "while") t)
        (λ e. verb_fits n xs t Loops (Both (Part Condition) block) (some_both condition_shape some_block)
        (while_reads n))
        (λ g. choose_maybe language Syntax (says (codes "skip") t)
        (λ e. verb_fits n xs t Skips (sign (codes ";")) some_end (skip_reads n))
        (λ h. choose_maybe language Syntax (is_variable t) (λ e. set_fits n xs t e) (λ i. Leaves_it refl refl)))))))

    statements_reads_of : (n : ℕ) → Reads language Syntax n (NoMore L names) (statements_of L rule names d room inner)
        (AreStatementsOf L rule names d room Inner tree.Empty) (Part Statements) (IsCause L rule names d)
    statements_reads_of n = Reads-part language Syntax n Statements
        (Reads-often language Syntax NotElse (NoMore L names) (cause_grows L rule names d) (no_more_none L names)
        (λ xs vs ends. ends.statement) (quiet_statements L names) (λ k xs t. step_fits k xs t) tree.Empty)

  pub statements_reads : (d n : ℕ) → Reads language Syntax n (NoMore L names) (statements_at L rule names d)
      (AreStatements L rule names d) (Part Statements) (IsCause L rule names d)
  unfolding statements_at AreStatements
  statements_reads zero n = statements_reads_of 0 false nowhere Nowhere (λ k. block_at_zero k) n
  statements_reads (suc d) n = statements_reads_of (suc d) true (statements_at L rule names d)
      (AreStatements L rule names d) (λ k. block_reads k d (statements_reads d k)) n
