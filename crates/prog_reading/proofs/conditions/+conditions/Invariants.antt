use Rattle.std.proofs.Common.{◌≡◌, ◌≤◌, codes, ◌+◌, ◌*◌, length}
use Rattle.prog_theory.specs.Conditions.{And, Or}
use Rattle.prog_theory.specs.Limits.{program_limits}
use Rattle.prog_texts.specs.Conditions as spec
use Rattle.prog_reading.specs.Left.{left, source_of}
use Rattle.prog_reading.proofs.Links.{IsLinked}
use Rattle.prog_reading.proofs.conditions.+conditions.Given as goal

abbrev pub decreases-negation : goal.decreases-negation
decreases-negation l = 4 * l.depth

abbrev pub decreases-conjunction : goal.decreases-conjunction
decreases-conjunction l = 4 * l.depth + 1

abbrev pub decreases-condition : goal.decreases-condition
decreases-condition l = 4 * l.depth + 2

abbrev pub decreases-bracketed : goal.decreases-bracketed
decreases-bracketed l = 4 * l.depth + 3

abbrev pub invariant-conjunction-links : goal.invariant-conjunction-links
invariant-conjunction-links l =
    IsLinked (codes "&&") And (spec.negation_at program_limits l.names l.depth) l.all (left l.rest)
    (spec.chain_at (codes "&&") And (spec.negation_at program_limits l.names l.depth) (left l.at))
    × (source_of l.rest ≡ source_of l.at) × (length (left l.rest) ≤ length (left l.at))

abbrev pub decreases-conjunction-links : goal.decreases-conjunction-links
decreases-conjunction-links l = length (left l.rest)

abbrev pub invariant-condition-links : goal.invariant-condition-links
invariant-condition-links l =
    IsLinked (codes "||") Or (spec.chain_at (codes "&&") And (spec.negation_at program_limits l.names l.depth)) l.all
    (left l.rest) (spec.condition_at program_limits l.names l.depth (left l.at))
    × (source_of l.rest ≡ source_of l.at) × (length (left l.rest) ≤ length (left l.at))

abbrev pub decreases-condition-links : goal.decreases-condition-links
decreases-condition-links l = length (left l.rest)
