use Rattle.std.proofs.Common.{◌≡◌, ◌≤◌, ◌<◌, List, length, codes}
use Rattle.prog_theory.specs.States.{Term}
use Rattle.prog_theory.specs.Limits.{program_limits}
use Rattle.prog_tree.specs.Terms.{term_of}
use Rattle.prog_texts.specs.Claims.{terms_from}
use Rattle.prog_reading.specs.Left.{left, source_of}
use Rattle.prog_reading.proofs.TermSteps.{IsListed}
use Rattle.prog_reading.proofs.claims.more_terms.Given as goal

abbrev pub invariant-terms : goal.invariant-terms
invariant-terms l =
    IsListed l.names l.terms (left l.rest) (terms_from program_limits l.names (term_of l.fn.first) (left l.at))
    × (0 < length l.terms) × (source_of l.rest ≡ source_of l.at) × (length (left l.rest) ≤ length (left l.at))

abbrev pub decreases-terms : goal.decreases-terms
decreases-terms l = length (left l.rest)
