-- The claims of asserts are read right, and each stop is at the first fault.
use Rattle.std.proofs.Common.{◌≡◌, ℕ, Bool, true, false, cond, None, pos, List, [], ◌∷◌, ◌++◌, codes, Result, Ok, Err, refl}
use Rattle.trop_text.specs.declared.token.TokenKind.TheVariants.{Digits, Sign}
use Rattle.trop_text.specs.declared.fault.FaultKind.{FaultKind}
use Rattle.trop_text.specs.declared.fault.FaultKind.TheVariants.{Syntax, AssertMode}
use Rattle.trop_grammar.specs.Reading.{read_then}
use Rattle.trop_grammar.specs.Grammar.{Empty, Then}
use Rattle.shape_grammar.specs.Shape.{Shape, Begins, Next, Often}
use Rattle.shape_grammar.specs.Texts.{Many}
use Rattle.shape_grammar.specs.Reads.{Reads}
use Rattle.shape_grammar.proofs.Laws.{Reads-bind, Reads-then}
use Rattle.shape_grammar.proofs.Choices.{Fits, Lets, Blames, choose, Reads-choice, Reads-behind, Reads-map, Begins_it, Leaves_it, choose_maybe, Reads-often}
use Rattle.prog_theory.specs.States.{Term}
use Rattle.prog_theory.specs.Statements.{Side, SideWord, Greatest, Least, AtMost, Claim}
use Rattle.prog_theory.specs.Statements as tree
use Rattle.prog_theory.specs.Limits.{Limits}
use Rattle.prog_texts.specs.AssertRule.{AssertRule, is_against}
use Rattle.prog_texts.specs.Words.{Counted, text, skipped, says}
use Rattle.prog_texts.specs.Judges.{goes_on, relation_of}
use Rattle.prog_texts.specs.Shapes.{Noun, language, chain, after_word, operand, listed, side, claim}
use Rattle.prog_texts.specs.Causes.{IsCause}
use Rattle.prog_texts.specs.Operands.{constant, way_of, IsOperand, operand_at}
use Rattle.prog_texts.specs.Claims.{SideStart, Single, Listed, side_of, sum_word, side_start, AreTerms, IsSideRest, IsSide, IsClaim, next_term_at, terms_from, listed_at, side_rest, side_at, claim_at}
use Rattle.prog_texts.proofs.Signs.{sample, nothing, some_sign, some_next, some_both, some_often, said_reads, word_reads, Fits-more, IsLed, led_sign, quiet_led, quiet_none}
use Rattle.prog_texts.proofs.Blamed.{cause_grows}
use Rattle.prog_texts.proofs.OperandLaws.{NoSum, no_sum_none, no_sum_led, operand_fits, operand_reads}
use Rattle.prog_texts.proofs.ConditionLaws.{link_of, Quiet, behind_links, no_sum_word}

-- no further term follows
record NoTerm (vs : List Counted) : Type 0 where
  sum : NoSum vs
  comma : Quiet (codes ",") vs

no_term_led : (word : List ℕ) → way_of word ≡ None → link_of (codes ",") word ≡ None → (vs : List Counted) →
    IsLed word vs → NoTerm vs
no_term_led word e k vs h = record { sum = no_sum_led word e vs h; comma = quiet_led (link_of (codes ",")) word k vs h }

no_term_none : NoTerm []
no_term_none = record { sum = no_sum_none; comma = quiet_none (link_of (codes ",")) }

some_operand : Begins language (Next operand) []
some_operand = some_next (sample Digits (codes "0")) refl nothing

some_listed : Begins language listed []
some_listed = some_both (some_sign (codes "(") refl)
    (some_both (some_both some_operand some_often) (some_sign (codes ")") refl))

module _ (L : Limits) (rule : AssertRule) (names : List (List ℕ)) (d : ℕ) where
  terms_reads : (n : ℕ) (x : Term) → Reads language Syntax n NoTerm (terms_from L names x)
      (Many skipped (λ xs. goes_on (codes ",")) (λ xs u. Then (IsOperand L names) (λ y. Empty (xs ++ y ∷ []))) (x ∷ []))
      (Often (after_word (codes ",") (Next operand))) (IsCause L rule names d)
  unfolding terms_from next_term_at
  terms_reads n x =
      Reads-often language Syntax NoSum NoTerm (cause_grows L rule names d) no_term_none (λ xs vs ends. ends.comma)
      (λ ws vs k ends. behind_links NoSum (codes ",") (Next operand) (no_sum_led (codes ",") refl) ws vs k ends.sum)
      (λ k xs t. choose_maybe language Syntax (says (codes ",") t)
      (λ e. Begins_it tt refl (Reads-behind language Syntax t (cause_grows L rule names d)
      (Reads-map language Syntax (λ y. xs ++ y ∷ []) (constant (pos 0)) (operand_reads L rule names d k))))
      (λ e. Leaves_it refl refl))
      (x ∷ [])

  -- the terms and what closes their list
  closed_reads : (n : ℕ) (word : SideWord) → Reads language Syntax n NoSum (listed_at L names word)
      (IsSideRest L names (Listed word)) listed (IsCause L rule names d)
  unfolding listed_at
  closed_reads n word =
      Reads-then language Syntax n (cause_grows L rule names d) tt (said_reads n (codes "(") refl tt)
      (λ u. Reads-bind language Syntax n NoTerm NoSum {B₂ = λ xs w before t. ⊥} (IsCause L rule names d) []
      (all_terms n) (λ xs. Reads-map language Syntax (λ v. side_of word xs) tt
      (said_reads n (codes ")") refl no_sum_none))
      (λ ws vs k ends. no_term_led (codes ")") refl refl (ws ++ vs) (led_sign (codes ")") ws vs k))
      (λ w before t begins c. c) (λ x us w before t k c. absurd c))
    where
      all_terms : (n : ℕ) → Reads language Syntax n NoTerm (read_then (operand_at L names) (terms_from L names))
          (AreTerms L names) (chain (codes ",") (Next operand)) (IsCause L rule names d)
      all_terms n =
          Reads-bind language Syntax n NoSum NoTerm {B₂ = λ x. IsCause L rule names d} (IsCause L rule names d)
          (constant (pos 0)) (operand_reads L rule names d n) (terms_reads n)
          (λ ws vs k ends. behind_links NoSum (codes ",") (Next operand) (no_sum_led (codes ",") refl) ws vs k ends.sum)
          (λ w before t begins c. c) (λ x us w before t k c. (cause_grows L rule names d).behind us w before t c)

  abbrev SideFits : ℕ → Counted → Result SideStart FaultKind → Shape Counted Noun → Type 0
  SideFits n t v a = Fits language Syntax n NoSum (side_rest L names) (IsSideRest L names)
      (IsCause L rule names d) t v a

  sum_fits : (n : ℕ) (t : Counted) (word : SideWord) → SideFits n t (sum_word rule t word) listed
  unfolding side_rest
  sum_fits n t word = at (is_against rule (text t)) refl
    where
      at : (b : Bool) → is_against rule (text t) ≡ b → SideFits n t (cond b (Err AssertMode) (Ok (Listed word))) listed
      at true e = Blames AssertMode refl (record { some = some_listed; cause = λ front. e })
      at false e = Lets (Listed word) refl (Reads-behind language Syntax t (cause_grows L rule names d)
          (closed_reads n word))

  side_fits : (n : ℕ) (t : Counted) → SideFits n t (side_start L rule names t) (side t)
  unfolding side_rest
  side_fits n t =
      choose language Syntax (says (codes "max") t) (λ e. sum_fits n t Greatest)
      (λ a. choose language Syntax (says (codes "min") t) (λ e. sum_fits n t Least)
      (λ b. Fits-more n Single (λ k. k) (λ us h. (us, h))
      (λ x h. Reads-map language Syntax (λ y. side_of tree.One (y ∷ [])) (constant (pos 0)) h)
      (operand_fits L rule names d n t)))

  side_reads : (n : ℕ) → Reads language Syntax n NoSum (side_at L rule names) (IsSide L rule names) (Next side)
      (IsCause L rule names d)
  unfolding side_at
  side_reads n = Reads-choice language Syntax (sample Digits (codes "0")) refl nothing no_sum_none (side_fits n)

  some_side : Side
  some_side = side_of tree.One []

  pub claim_reads : (n : ℕ) → Reads language Syntax n NoSum (claim_at L rule names) (IsClaim L rule names) claim
      (IsCause L rule names d)
  unfolding claim_at
  claim_reads n =
      Reads-bind language Syntax n NoSum NoSum {B₂ = λ x. IsCause L rule names d} (IsCause L rule names d) some_side
      (side_reads n)
      (λ l. Reads-then language Syntax n (cause_grows L rule names d) AtMost
      (word_reads n relation_of (sample Sign (codes "<=")) refl nothing tt)
      (λ c. Reads-map language Syntax (λ r. record { left = l; rel = c; right = r }) some_side (side_reads n)))
      (λ ws vs k ends. no_sum_word relation_of (Next side) refl refl ws vs k) (λ w before t begins c. c)
      (λ x us w before t k c. (cause_grows L rule names d).behind us w before t c)

pub some_claim : Begins language claim []
some_claim = some_both some_side_shape (some_both (some_next (sample Sign (codes "<=")) refl nothing) some_side_shape)
  where
    some_side_shape : Begins language (Next side) []
    some_side_shape = some_next {f = side} (sample Digits (codes "0")) refl nothing
