-- Which words a semiring admits in the asserts of a program.
use Rattle.std.specs.Prelude.{Bool, All}
use Rattle.prog_theory.specs.Statements.{Program}
use Rattle.cone_reports.specs.Readings.{SuitsWords}
use Rattle.cone_reports.specs.Asserts.{Assertion, asserts}

-- the words of each assert of the program are those of the semiring
abbrev pub HasSuitableWords : Bool → Program → Type 0
HasSuitableWords reversed P = All (λ (a : Assertion). SuitsWords reversed a.claim) (asserts P)
