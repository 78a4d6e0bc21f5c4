use Rattle.std.proofs.Common.{arith, sym, ◌∙◌}
use Rattle.trop_words.proofs.Decimal.{none_in_range, key_cancel}
use Rattle.trop_words.proofs.numbers.key_number.Goals as goal
use Rattle.trop_words.proofs.numbers.key_number.Goals.{else-least-number-via-then-least-number+else-number-most, else-least-number-via-else-least-number}

pub returns-in_err-number : goal.returns-in_err-number
returns-in_err-number c = rw c.from_residual-in_err-number.ensures
    (λ n low up e. c.in_err-number.ensures n (omega arith)
    (key_cancel c.args.key.now _ _ (sym c.in_ok-after_key.ensures ∙ e)))

pub returns-else-least-number : goal.returns-else-least-number
returns-else-least-number c = none_in_range c.args.least c.args.most c.in_ok-number.number _ _ _
    c.in_ok-after_key.ensures (omega arith) (omega arith) c.in_ok-number.ensures
    (λ low up. elim c.else-least-number.branch [
      | else-least-number-via-then-least-number+else-number-most w ↦
          omega arith
      | else-least-number-via-else-least-number w ↦ omega arith
    ])
