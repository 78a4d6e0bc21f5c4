use Rattle.std.proofs.Common.{sym, ◌∙◌}
use Rattle.prog_theory.specs.Limits.{program_limits}
use Rattle.prog_reading.specs.Left.{entry_of}
use Rattle.prog_reading.proofs.OperandSteps.{first_unknown}
use Rattle.prog_reading.proofs.operands.first_token.Goals as goal

pub returns-in-Err : goal.returns-in-Err
returns-in-Err c = first_unknown program_limits c.args.names.now (entry_of c.args.entry) _
    (sym c.is_digits.ensures ∙ c.if-is_digits.false) (sym c.says.ensures ∙ c.if-says.false) (sym c.in-Err.ensures)
