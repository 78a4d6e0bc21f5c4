-- The report of values at the points of a program.
use Rattle.std.specs.Prelude.{◌≡◌, ℕ, Bool, All}
use Rattle.std.specs.List.{AllZip}
use Rattle.trop_theory.specs.Semiring.{Semiring}
use Rattle.trop_theory.specs.Numbers.{Numbering}
use Rattle.trop_theory.specs.Inequalities.{IsValidOn}
use Rattle.cone_reports.specs.Asserts.{asserts}
use Rattle.cone_reports.specs.Reports.{Report, part_at, cone_at}
use Rattle.cone_reports.specs.Inductive.{IsRight}
use Rattle.cone_domain.specs.Values.{Value}

-- The rows are those of the values, what is printed is valid, and the verdicts are right.
pub record IsReportOf {V : Type 0} (R : Semiring V) (N : Numbering V) (reversed : Bool) (value : ℕ → Value V)
    (report : Report V) : Type 0 where
  pub rows : (p : ℕ) → (part_at report p).rows ≡ (value p).rows
  pub valid : (p : ℕ) → All (IsValidOn R (cone_at R report p)) (part_at report p).printed
  pub right : AllZip (IsRight R N reversed report) (asserts report.program) report.verdicts
