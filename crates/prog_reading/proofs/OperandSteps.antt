-- What a reader of operands follows.
use Rattle.std.proofs.Common.{◌≡◌, ℕ, Bool, true, false, cond, pos, List, Result, Ok, Err, refl, ap, ◌∙◌}
use Rattle.trop_text.specs.declared.fault.FaultKind.{FaultKind}
use Rattle.trop_text.specs.declared.fault.FaultKind.TheVariants.{Syntax}
use Rattle.shape_grammar.specs.Steps.{maybe_past}
use Rattle.shape_grammar.proofs.Loops.{maybe_left, maybe_begun}
use Rattle.prog_theory.specs.Limits.{Limits}
use Rattle.prog_texts.specs.Words.{Counted, text, skipped, says, is_digits, is_variable}
use Rattle.prog_texts.specs.Judges.{passed, known, variable}
use Rattle.prog_texts.specs.Operands.{moved, Way, Variable, First, first, way, moved_at, operand_rest}
use Rattle.std.specs.Prelude.{codes}
use Rattle.prog_reading.specs.Gives.{IsBegun, NoneBegins}

passed_where : (b : Bool) (v : Result ℕ FaultKind) →
    cond b (passed Variable v) (Err Syntax) ≡ passed Variable (cond b v (Err Syntax))
passed_where true v = refl
passed_where false v = refl

module _ (L : Limits) (names : List (List ℕ)) where
  -- neither digits nor `-`
  pub first_variable : (t : Counted) → is_digits t ≡ false → says (codes "-") t ≡ false →
      first L names t ≡ passed Variable (variable names t)
  first_variable t d m = rw (d, m) (passed_where (is_variable t) (known names t))

  pub first_unknown : (t : Counted) (what : FaultKind) → is_digits t ≡ false → says (codes "-") t ≡ false →
      variable names t ≡ Err what → first L names t ≡ Err what
  first_unknown t what d m e = first_variable t d m ∙ ap (passed Variable) e

-- a variable with a sign behind it, and without
pub variable_moves : (L : Limits) (coord : ℕ) (ts us : List Counted) (w : Way) → IsBegun way ts w us →
    operand_rest L (Variable coord) ts ≡ moved_at L coord w us
unfolding operand_rest
variable_moves L coord ts us w h = maybe_begun skipped way (moved coord (pos 0))
    (moved_at L coord) ts h.token us w h.whole h.is

pub variable_alone : (L : Limits) (coord : ℕ) (ts : List Counted) → NoneBegins way ts →
    operand_rest L (Variable coord) ts ≡ Ok (moved coord (pos 0), ts)
unfolding operand_rest
variable_alone L coord ts h = maybe_left skipped way (moved coord (pos 0)) (moved_at L coord) ts h
