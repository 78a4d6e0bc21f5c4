use Rattle.std.proofs.Common.{◌≡◌, sym, ◌∙◌, rules, ap, Some, None, decimal, rules}
use Rattle.std.specs.Result.{result_ok}
use Rattle.trop_words.proofs.Decimal.{parsed}
use Rattle.trop_words.proofs.numbers.plain_number.Goals as goal

pub returns-in_err-number : goal.returns-in_err-number
returns-in_err-number c = rw c.from_residual.ensures (λ n small e.
    let none : None ≡ Some n = sym c.in_err-number.was ∙ c.ok.ensures.value
    ∙ ap result_ok (parsed n _ _ small e c.parse.ensures.value.0) in cc)

pub returns-else-eq : goal.returns-else-eq
returns-else-eq c = λ n small e.
    let some : Some c.in_ok-number.number ≡ Some n =
    sym c.in_ok-number.was ∙ c.ok.ensures.value ∙ ap result_ok (parsed n _ _ small e c.parse.ensures.value.0) in
    let number : c.in_ok-number.number ≡ n = cc in
    let same : c.format.result.now ≡ c.args.text.now = c.format.ensures.text ∙ ap decimal number ∙ sym e in
    search rules
