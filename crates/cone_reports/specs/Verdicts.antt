-- The verdict on a report: that it is inductive, or the first condition that fails, in their order.
use Rattle.std.specs.Prelude.{◌≡◌, ◌<◌, ◌+◌, ℕ, Bool, List, All, Some, slice_get, take}
use Rattle.std.specs.List.{AllZip}
use Rattle.trop_theory.specs.Semiring.{Semiring}
use Rattle.trop_theory.specs.Numbers.{Numbering}
use Rattle.trop_theory.specs.Inequalities.{Inequality, IsValidOn}
use Rattle.prog_theory.specs.Edges.{Edge}
use Rattle.prog_theory.specs.Graph.{edges}
use Rattle.cone_reports.specs.EdgeLists.{IsEdgeList}
use Rattle.cone_reports.specs.Asserts.{Assertion, asserts}
use Rattle.cone_reports.specs.Reports.{Report, part_at, coordinates, cone_at}
use Rattle.cone_reports.specs.Inductive.{IsWhole, StaysAlong, Stays, IsValidAt, IsRight, IsInductive}

pub data Verdict (V : Type 0) : Type 0 where
  Inductive : Verdict V
  -- the cone at point 0 isn't everything
  NotWhole : Verdict V
  -- the edge of this number leads out of the cone at its last point; of the edge's list, this is the first row outside
  Escapes : ℕ → List V → Verdict V
  -- at this point the printed inequality of this number, from 1, isn't valid
  InvFails : ℕ → ℕ → Verdict V
  -- the verdict on the assert of this statement is wrong
  AssertWrong : ℕ → Verdict V

-- x is the element of this place, and the first that lacks the property
pub record IsFirstWithout {X : Type 0} (P : X → Type 0) (xs : List X) (k : ℕ) (x : X) : Type 0 where
  pub at : slice_get xs k ≡ Some x
  pub lacks : P x → ⊥
  pub before : All P (take k xs)

-- the row is the first of the edge's list that isn't in the cone at its last point
pub record Leaves {V : Type 0} (R : Semiring V) (N : Numbering V) (reversed : Bool) (report : Report V) (e : Edge)
    (row : List V) : Type 0 where
  pub list : List (List V)
  pub is_list : IsEdgeList R N reversed (coordinates report) e.op (part_at report e.from).rows list
  pub place : ℕ
  pub first : IsFirstWithout (cone_at R report e.to) list place row

pub record IsEscape {V : Type 0} (R : Semiring V) (N : Numbering V) (reversed : Bool) (report : Report V) (k : ℕ)
    (row : List V) : Type 0 where
  pub whole : IsWhole R report
  pub edge : Edge
  pub first : IsFirstWithout (StaysAlong R N reversed report) (edges report.program) k edge
  pub leaves : Leaves R N reversed report edge row

pub record IsInvFailure {V : Type 0} (R : Semiring V) (N : Numbering V) (reversed : Bool) (report : Report V)
    (p i : ℕ) : Type 0 where
  pub whole : IsWhole R report
  pub stays : Stays R N reversed report
  pub before : (q : ℕ) → q < p → IsValidAt R report q
  pub place : ℕ
  pub number : i ≡ place + 1
  pub inequality : Inequality V
  pub first : IsFirstWithout (IsValidOn R (cone_at R report p)) (part_at report p).printed place inequality

pub record IsWrong {V : Type 0} (R : Semiring V) (N : Numbering V) (reversed : Bool) (report : Report V)
    (number : ℕ) : Type 0 where
  pub whole : IsWhole R report
  pub stays : Stays R N reversed report
  pub valid : (p : ℕ) → IsValidAt R report p
  pub place : ℕ
  pub assertion : Assertion
  pub verdict : Bool
  pub asserted : slice_get (asserts report.program) place ≡ Some assertion
  pub says : slice_get report.verdicts place ≡ Some verdict
  pub is_number : assertion.number ≡ number
  pub not_right : IsRight R N reversed report assertion verdict → ⊥
  pub before : AllZip (IsRight R N reversed report) (take place (asserts report.program)) (take place report.verdicts)

abbrev pub IsVerdict : {V : Type 0} → Semiring V → Numbering V → Bool → Report V → Verdict V → Type 0
IsVerdict R N reversed report Inductive = IsInductive R N reversed report
IsVerdict R N reversed report NotWhole = IsWhole R report → ⊥
IsVerdict R N reversed report (Escapes k row) = IsEscape R N reversed report k row
IsVerdict R N reversed report (InvFails p i) = IsInvFailure R N reversed report p i
IsVerdict R N reversed report (AssertWrong number) = IsWrong R N reversed report number
