use Rattle.std.proofs.Common.{◌++◌, ℕ, List, ap, ap₂, sym, ◌∙◌}
use Rattle.report_lines.specs.AssertNumbers.{numbers_bl}
use Rattle.report_lines.proofs.AssertNumbers.{numbers_are}
use Rattle.report_lines.proofs.asserts.numbers.Goals as goal

pub returns : goal.returns
returns c =
    c.in_ok-block_numbers.ensures
    ∙ ap₂ (λ (y z : List ℕ). y ++ z) c.new-out.ensures.items (ap (numbers_bl 0) c.body.ensures.value)
    ∙ sym (numbers_are c.args.program.now)
