use Rattle.std.proofs.Common.{◌<◌, ◌≤◌, ◌^◌, ℕ, get_or}
use Rattle.prog_theory.specs.Within.{IsNumberWithin}
use Rattle.prog_tree.specs.declared.term.Term.{Term}
use Rattle.prog_tree.specs.Terms.{term_of}
use Rattle.zone_tests.proofs.tests.claims.stand.Given as goal

abbrev pub invariant-loop-term : goal.invariant-loop-term
invariant-loop-term l = (k : ℕ) (d : Term) → k < l.term-index →
    ((get_or l.terms k d).coord ≤ l.vars) × IsNumberWithin (2 ^ 31) (term_of (get_or l.terms k d))
