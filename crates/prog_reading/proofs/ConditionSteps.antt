-- What a reader of negations follows.
use Rattle.std.proofs.Common.{◌≡◌, ◌<◌, ◌-◌, ℕ, zero, suc, Bool, true, false, Option, Some, None, List, length, Result, Ok, Err, IsTrue, refl, sym, ap, ◌∙◌, arith, nat_lt}
use Rattle.std.proofs.lemmas.Bool.Decides.{nat_tests}
use Rattle.trop_text.specs.declared.fault.FaultKind.{FaultKind}
use Rattle.trop_text.specs.declared.fault.FaultKind.TheVariants.{Syntax}
use Rattle.trop_grammar.specs.Reading.{Reading, Miss, go_on, read_then, gives}
use Rattle.shape_grammar.specs.Steps.{token_past}
use Rattle.prog_theory.specs.Conditions.{Cond, Any, Not}
use Rattle.prog_theory.specs.Limits.{Limits}
use Rattle.prog_texts.specs.Words.{Counted, skipped}
use Rattle.prog_texts.specs.Operands.{First, operand_rest}
use Rattle.prog_texts.specs.Conditions.{Start, Bang, Bracket, Ask, Compare, start, compared_at, bracket_at, negation_rest, negation_at, nowhere}

-- a number below which 0 stands
pub roomy : (d : ℕ) → IsTrue (nat_lt 0 d) → 0 < d
roomy d h = grind (arith, nat_tests)

module _ (L : Limits) (names : List (List ℕ)) where
  has_room : (d : ℕ) → nat_lt 0 (suc d) ≡ true
  has_room d = grind (arith, nat_tests)

  abbrev begun : ℕ → List Counted → Reading Counted FaultKind Start
  begun d ts = token_past skipped Syntax (start L names (nat_lt 0 d)) ts

  abbrev inner_at : ℕ → List Counted → Reading Counted FaultKind Cond
  inner_at zero = nowhere
  inner_at (suc d) = negation_at L names d

  negation_is : (d : ℕ) (ts : List Counted) → negation_at L names d ts ≡ go_on (begun d ts)
      (negation_rest L names (inner_at d))
  unfolding negation_at read_then
  negation_is zero ts = refl
  negation_is (suc d) ts = ap (λ b. go_on (token_past skipped Syntax (start L names b) ts)
      (negation_rest L names (negation_at L names d))) (sym (has_room d))

  pub negation_fails : (d : ℕ) (ts : List Counted) (miss : Miss Counted FaultKind) → begun d ts ≡ Err miss →
      negation_at L names d ts ≡ Err miss
  negation_fails d ts miss e = negation_is d ts ∙ ap (λ z. go_on z (negation_rest L names (inner_at d))) e

  pub at_ask : (d : ℕ) (ts us : List Counted) → begun d ts ≡ Ok (Ask, us) → negation_at L names d ts ≡ Ok (Any, us)
  unfolding negation_rest gives
  at_ask d ts us e = negation_is d ts ∙ ap (λ z. go_on z (negation_rest L names (inner_at d))) e

  pub at_compare : (d : ℕ) (ts us : List Counted) (f : First) → begun d ts ≡ Ok (Compare f, us) →
      negation_at L names d ts ≡ read_then (operand_rest L f) (compared_at L names) us
  unfolding negation_rest
  at_compare d ts us f e = negation_is d ts ∙ ap (λ z. go_on z (negation_rest L names (inner_at d))) e

  inner_same : (d : ℕ) → 0 < d → inner_at d ≡ negation_at L names (d - 1)
  inner_same zero h = absurd (omega arith)
  inner_same (suc d) h = let e : suc d - 1 ≡ d = omega arith in ap (negation_at L names) (sym e)

  at_bang : (d : ℕ) (ts us : List Counted) → 0 < d → begun d ts ≡ Ok (Bang, us) →
      negation_at L names d ts ≡ go_on (negation_at L names (d - 1) us) (λ x. gives (Not x))
  unfolding negation_rest read_then
  at_bang d ts us h e = negation_is d ts ∙ ap (λ z. go_on z (negation_rest L names (inner_at d))) e
      ∙ ap (λ z. go_on (z us) (λ x. gives (Not x))) (inner_same d h)

  pub at_bang_ok : (d : ℕ) (ts us : List Counted) (x : Cond) (rest : List Counted) → 0 < d →
      begun d ts ≡ Ok (Bang, us) → negation_at L names (d - 1) us ≡ Ok (x, rest) →
      negation_at L names d ts ≡ Ok (Not x, rest)
  unfolding gives
  at_bang_ok d ts us x rest h e k = at_bang d ts us h e ∙ ap (λ z. go_on z (λ x. gives (Not x))) k

  pub at_bang_err : (d : ℕ) (ts us : List Counted) (miss : Miss Counted FaultKind) → 0 < d →
      begun d ts ≡ Ok (Bang, us) → negation_at L names (d - 1) us ≡ Err miss → negation_at L names d ts ≡ Err miss
  at_bang_err d ts us miss h e k = at_bang d ts us h e ∙ ap (λ z. go_on z (λ x. gives (Not x))) k

  pub at_bracket : (d : ℕ) (ts us : List Counted) → 0 < d → begun d ts ≡ Ok (Bracket, us) →
      negation_at L names d ts ≡ bracket_at (negation_at L names (d - 1)) us
  unfolding negation_rest
  at_bracket d ts us h e = negation_is d ts ∙ ap (λ z. go_on z (negation_rest L names (inner_at d))) e
      ∙ ap (λ z. bracket_at z us) (inner_same d h)
