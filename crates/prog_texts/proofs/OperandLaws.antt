-- Operands are read right, and each stop is at the first fault.
use Rattle.std.proofs.Common.{◌≡◌, ℕ, Bool, true, false, cond, None, pos, neg_ℤ, List, [], codes, refl, ◌||◌}
use Rattle.trop_text.specs.declared.token.TokenKind.TheVariants.{Digits}
use Rattle.trop_text.specs.declared.fault.FaultKind.{FaultKind}
use Rattle.trop_text.specs.declared.fault.FaultKind.TheVariants.{Syntax}
use Rattle.shape_grammar.specs.Past.{past}
use Rattle.shape_grammar.specs.Steps.{maybe_past}
use Rattle.shape_grammar.specs.Texts.{Maybe}
use Rattle.shape_grammar.specs.Shape.{Begins, Nothing, Never, Next, Perhaps}
use Rattle.shape_grammar.specs.Reads.{Reads, Heads}
use Rattle.shape_grammar.proofs.Laws.{Reads-gives}
use Rattle.shape_grammar.proofs.Choices.{Fits, Lets, Refuses, choose, Reads-choice, Reads-behind, Reads-map, Begins_it, Leaves_it, choose_maybe, Reads-perhaps}
use Rattle.trop_grammar.specs.Grammar.{Empty, Then}
use Rattle.prog_theory.specs.Limits.{Limits}
use Rattle.prog_texts.specs.AssertRule.{AssertRule}
use Rattle.prog_texts.specs.Words.{Counted, text, skipped, says, is_digits, is_variable, begins_operand}
use Rattle.prog_texts.specs.Shapes.{language, a_number, sum, operand}
use Rattle.prog_texts.specs.Causes.{IsCause}
use Rattle.prog_texts.specs.Operands.{constant, moved, Plus, Minus, by, Value, Negative, Variable, first, way_of, way, IsNumber, IsOperandRest, IsOperand, moved_at, operand_rest, operand_at}
use Rattle.prog_texts.proofs.Signs.{sample, nothing, some_number, some_perhaps, number_reads, sized_fits, known_fits, IsLed, quiet_led, quiet_none}
use Rattle.prog_texts.proofs.Blamed.{cause_grows}

-- no sum follows
abbrev pub NoSum : List Counted → Type 0
NoSum vs = Heads (λ t. way_of (text t) ≡ None) (past skipped vs)

pub no_sum_none : NoSum []
no_sum_none = quiet_none way_of

pub no_sum_led : (word : List ℕ) → way_of word ≡ None → (vs : List Counted) → IsLed word vs → NoSum vs
no_sum_led word e vs h = quiet_led way_of word e vs h

pub operand_shape : (t : Counted) → begins_operand t ≡ true → Begins language (operand t) []
operand_shape t = at (is_digits t) (says (codes "-") t) (is_variable t)
  where
    at : (a b c : Bool) → (a || b || c) ≡ true → Begins language
        (cond a Nothing (cond b a_number (cond c (Perhaps sum) Never))) []
    at true b c e = nothing
    at false true c e = some_number
    at false false true e = some_perhaps
    at false false false e = absurd cc

module _ (L : Limits) (rule : AssertRule) (names : List (List ℕ)) (d : ℕ) where
  abbrev C : FaultKind → List Counted → Counted → Type 0
  C = IsCause L rule names d

  sum_reads : (n i : ℕ) → Reads language Syntax n NoSum (maybe_past skipped way (moved i (pos 0)) (moved_at L i))
      (Maybe skipped way (moved i (pos 0)) (λ w. Then (IsNumber L.number) (λ k. Empty (moved i (by w k)))))
      (Perhaps sum) (IsCause L rule names d)
  unfolding moved_at
  sum_reads n i = Reads-perhaps language Syntax (moved i (pos 0)) no_sum_none (λ vs ends. ends)
      (λ t. choose_maybe language Syntax (says (codes "+") t)
      (λ e. Begins_it Plus refl (Reads-behind language Syntax t (cause_grows L rule names d)
      (Reads-map language Syntax (λ k. moved i (by Plus k)) 0
      (number_reads n L.number (IsCause L rule names d) (λ u front q r. (q, r)) no_sum_none))))
      (λ a. choose_maybe language Syntax (says (codes "-") t)
      (λ e. Begins_it Minus refl (Reads-behind language Syntax t (cause_grows L rule names d)
      (Reads-map language Syntax (λ k. moved i (by Minus k)) 0
      (number_reads n L.number (IsCause L rule names d) (λ u front q r. (q, r)) no_sum_none))))
      (λ b. Leaves_it refl refl)))

  pub operand_fits : (n : ℕ) (t : Counted) → Fits language Syntax n NoSum (operand_rest L) (IsOperandRest L)
      (IsCause L rule names d) t (first L names t) (operand t)
  unfolding operand_rest
  operand_fits n t =
      choose language Syntax (is_digits t)
      (λ e. sized_fits n L.number (IsCause L rule names d) Value t (λ front q. (e, q)) nothing
      (λ k. Reads-gives language Syntax n (constant (pos k)) no_sum_none))
      (λ a. choose language Syntax (says (codes "-") t)
      (λ e. Lets Negative refl (Reads-behind language Syntax t (cause_grows L rule names d)
      (Reads-map language Syntax (λ k. constant (neg_ℤ (pos k))) 0
      (number_reads n L.number (IsCause L rule names d) (λ u front q r. (q, r)) no_sum_none))))
      (λ b. choose language Syntax (is_variable t)
      (λ e. known_fits n names (IsCause L rule names d) Variable t (λ front q. (e, q)) some_perhaps
      (λ k. Reads-behind language Syntax t (cause_grows L rule names d) (sum_reads n k)))
      (λ c. Refuses refl refl)))

  pub operand_reads : (n : ℕ) → Reads language Syntax n NoSum (operand_at L names) (IsOperand L names) (Next operand)
      (IsCause L rule names d)
  operand_reads n = Reads-choice language Syntax (sample Digits (codes "0")) refl nothing no_sum_none (operand_fits n)
