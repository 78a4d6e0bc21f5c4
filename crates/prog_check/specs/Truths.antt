-- What an inductive report says is true at every visit of every run.
use Rattle.std.specs.Prelude.{◌≡◌, ℕ, Bool, true, All, Some, slice_get}
use Rattle.trop_theory.specs.Semiring.{Semiring}
use Rattle.trop_theory.specs.Numbers.{Numbering}
use Rattle.trop_theory.specs.Inequalities.{IsTrueAt}
use Rattle.prog_theory.specs.States.{State}
use Rattle.prog_theory.specs.PointVisits.{Visits}
use Rattle.cone_reports.specs.Vectors.{vector, HasState}
use Rattle.cone_reports.specs.Claims.{IsTrueOf}
use Rattle.cone_reports.specs.Readings.{SuitsWords}
use Rattle.cone_reports.specs.Asserts.{Assertion, asserts}
use Rattle.cone_reports.specs.Reports.{Report, part_at, cone_at}

pub record IsTrueAtVisits {V : Type 0} (R : Semiring V) (N : Numbering V) (reversed : Bool)
    (report : Report V) : Type 0 where
  -- the state of each visit of a point is one of the cone at the point
  pub states : (p : ℕ) (s : State) → Visits report.program p s → HasState R N (cone_at R report p) s
  -- each inequality that is printed there is true at it
  pub printed : (p : ℕ) (s : State) → Visits report.program p s
      → All (λ q. IsTrueAt R q (vector R N s)) (part_at report p).printed
  -- the claim of each assert that is said to be proved is true, in ordinary numbers, at each visit of its point; the
  -- words of its sides are those of the semiring
  pub proved : (k : ℕ) (a : Assertion) → slice_get (asserts report.program) k ≡ Some a
      → slice_get report.verdicts k ≡ Some true → SuitsWords reversed a.claim → (s : State)
      → Visits report.program a.point s → IsTrueOf a.claim s
