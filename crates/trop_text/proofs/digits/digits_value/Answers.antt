use Rattle.std.proofs.Common.{◌+◌, ◌-◌, ◌*◌, get_or, arith, ap, sym, ◌∙◌}
use Rattle.trop_text.proofs.Numbers.{number_of-more, number_of-take, number_of-decimal}
use Rattle.trop_text.proofs.digits.digits_value.Goals as goal

pub returns-clause-decimal : goal.returns-clause-decimal
returns-clause-decimal c = number_of-decimal c.args.text.now

pub returns-in_err-value-clause-decimal : goal.returns-in_err-value-clause-decimal
returns-in_err-value-clause-decimal c = number_of-decimal c.args.text.now

pub loop-digit-preserved : goal.loop-digit-preserved
loop-digit-preserved c =
    let d = get_or c.args.text.now c.loop-digit.digit-index 0 in
    let e = c.in_ok-value.ensures in
    record {
      value = e.1 ∙ ap (λ v. v * 10 + (d - 48)) c.loop-digit.invariant.value
          ∙ sym (number_of-more c.args.text.now c.loop-digit.digit-index (omega arith));
      within = omega (arith, e.0, e.1);
    }

pub returns-in_err-value-clause-value : goal.returns-in_err-value-clause-value
returns-in_err-value-clause-value c =
    let i = c.loop-digit.digit-index in
    rw c.from_residual.ensures
    (λ fits. c.in_err-value.ensures (omega (
      arith,
      fits,
      c.loop-digit.invariant.value,
      number_of-more c.args.text.now i (omega arith),
      number_of-take c.args.text.now (i + 1),
    )))
