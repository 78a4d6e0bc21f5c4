-- Where a condition of an inductive report fails first.
use Rattle.std.specs.Prelude.{◌≡◌, ◌<◌, ◌+◌, ℕ, Bool, List, Some, slice_get, take}
use Rattle.std.specs.List.{AllZip}
use Rattle.trop_theory.specs.Semiring.{Semiring}
use Rattle.trop_theory.specs.Numbers.{Numbering}
use Rattle.trop_theory.specs.Inequalities.{Inequality, IsValidOn}
use Rattle.prog_theory.specs.Edges.{Edge}
use Rattle.prog_theory.specs.Graph.{edges}
use Rattle.cone_reports.specs.Asserts.{Assertion, asserts}
use Rattle.cone_reports.specs.Reports.{Report, part_at, cone_at}
use Rattle.cone_reports.specs.Inductive.{StaysAlong, IsValidAt, IsRight}
use Rattle.cone_reports.specs.Verdicts.{IsFirstWithout, Leaves}

-- the edge of this number is the first that leads out of the cone at its last point, by this row of its list
pub record EscapesAt {V : Type 0} (R : Semiring V) (N : Numbering V) (reversed : Bool) (report : Report V) (k : ℕ)
    (row : List V) : Type 0 where
  pub edge : Edge
  pub first : IsFirstWithout (StaysAlong R N reversed report) (edges report.program) k edge
  pub leaves : Leaves R N reversed report edge row

-- of the printed inequalities of the point the one of this number, from 1, is the first that isn't valid
pub record IsFailureAt {V : Type 0} (R : Semiring V) (report : Report V) (p i : ℕ) : Type 0 where
  pub place : ℕ
  pub number : i ≡ place + 1
  pub inequality : Inequality V
  pub first : IsFirstWithout (IsValidOn R (cone_at R report p)) (part_at report p).printed place inequality

-- and at no point before is there one
pub record FailsAt {V : Type 0} (R : Semiring V) (report : Report V) (p i : ℕ) : Type 0 where
  pub before : (q : ℕ) → q < p → IsValidAt R report q
  pub here : IsFailureAt R report p i

-- the verdict on the assert of this number is the first that is wrong
pub record WrongAt {V : Type 0} (R : Semiring V) (N : Numbering V) (reversed : Bool) (report : Report V)
    (number : ℕ) : Type 0 where
  pub place : ℕ
  pub assertion : Assertion
  pub verdict : Bool
  pub asserted : slice_get (asserts report.program) place ≡ Some assertion
  pub says : slice_get report.verdicts place ≡ Some verdict
  pub is_number : assertion.number ≡ number
  pub not_right : IsRight R N reversed report assertion verdict → ⊥
  pub before : AllZip (IsRight R N reversed report) (take place (asserts report.program)) (take place report.verdicts)
