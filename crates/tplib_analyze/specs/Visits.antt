-- What a report says, true at each visit of each run.
use Rattle.std.specs.Prelude.{◌≡◌, ℕ, true, All, Some, slice_get}
use Rattle.trop_theory.specs.Semiring.{Semiring}
use Rattle.trop_theory.specs.Numbers.{Numbering}
use Rattle.trop_theory.specs.Inequalities.{IsTrueAt}
use Rattle.prog_theory.specs.States.{State}
use Rattle.prog_theory.specs.PointVisits.{Visits}
use Rattle.cone_reports.specs.Vectors.{vector}
use Rattle.cone_reports.specs.Claims.{IsTrueOf}
use Rattle.cone_reports.specs.Asserts.{Assertion, asserts}
use Rattle.cone_reports.specs.Reports.{Report, part_at}

-- each inequality that is printed at a point is true at the vector of each state with which a run visits the point
abbrev pub ArePrintedTrue : {V : Type 0} → Semiring V → Numbering V → Report V → Type 0
ArePrintedTrue R N report = (q : ℕ) (s : State) → Visits report.program q s →
    All (λ i. IsTrueAt R i (vector R N s)) (part_at report q).printed

-- each claim that is said to be proved is true, in ordinary numbers, of each state with which a run visits its
-- statement
abbrev pub AreProvedTrue : {V : Type 0} → Report V → Type 0
AreProvedTrue report = (k : ℕ) (a : Assertion) → slice_get (asserts report.program) k ≡ Some a →
    slice_get report.verdicts k ≡ Some true → (s : State) → Visits report.program a.point s → IsTrueOf a.claim s
