use Rattle.std.proofs.Common.{◌≡◌, ◌≤◌, ◌+◌, ◌*◌, length}
use Rattle.prog_theory.specs.Limits.{program_limits}
use Rattle.prog_texts.specs.Statements as spec
use Rattle.prog_reading.specs.Left.{left, source_of}
use Rattle.prog_reading.specs.Rules.{rule_of}
use Rattle.prog_lang.proofs.StatementSteps.{IsAhead}
use Rattle.prog_lang.proofs.statements.+statements.Given as goal

abbrev pub decreases-block : goal.decreases-block
decreases-block l = 6 * l.depth + 1

abbrev pub decreases-second : goal.decreases-second
decreases-second l = 6 * l.depth + 2

abbrev pub decreases-branch : goal.decreases-branch
decreases-branch l = 6 * l.depth + 3

abbrev pub decreases-repeated : goal.decreases-repeated
decreases-repeated l = 6 * l.depth + 3

abbrev pub decreases-statement : goal.decreases-statement
decreases-statement l = 6 * l.depth + 4

abbrev pub decreases-statements : goal.decreases-statements
decreases-statements l = 6 * l.depth + 5

abbrev pub decreases-closed : goal.decreases-closed
decreases-closed l = 6 * l.depth + 6

abbrev pub invariant-statements-statements : goal.invariant-statements-statements
invariant-statements-statements l =
    IsAhead (rule_of l.rule) l.names l.depth l.block (left l.rest)
    (spec.statements_at program_limits (rule_of l.rule) l.names l.depth (left l.at))
    × (source_of l.rest ≡ source_of l.at) × (length (left l.rest) ≤ length (left l.at))

abbrev pub decreases-statements-statements : goal.decreases-statements-statements
decreases-statements-statements l = length (left l.rest)
