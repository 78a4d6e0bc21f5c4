-- What the operations on cones give. X. Allamigeon, S. Gaubert, E. Goubault: Inferring min and max invariants using
-- max-plus polyhedra (2008).
use Rattle.std.specs.Prelude.{◌≡◌, ◌⊎◌, ◌≤◌, Bool, List, length, Some, None}
use Rattle.trop_theory.specs.Semiring.{Semiring}
use Rattle.trop_theory.specs.Numbers.{Numbering}
use Rattle.trop_theory.specs.Inequalities.{Inequality, Solves, IsValidOn}
use Rattle.trop_theory.specs.Canonical.{IsCanonical, row_limit}
use Rattle.trop_theory.specs.StepList.{AreChosen}
use Rattle.trop_cones.specs.Sets.{InJoin}
use Rattle.trop_duality.specs.External.{IsExternal}
use Rattle.prog_theory.specs.Edges.{Op}
use Rattle.prog_theory.specs.Fits.{FitsOp}
use Rattle.cone_reports.specs.Images.{InImage}
use Rattle.cone_domain.specs.Values.{Value, coordinates, cone_of, IsValue, IsFreshFor}

-- each vector of the first is one of the second
abbrev pub IsIncluded : {V : Type 0} → Semiring V → Value V → Value V → Type 0
IsIncluded R v w = (x : List _) → cone_of R v x → cone_of R w x

-- the image of v by the operation
pub record IsImage {V : Type 0} (R : Semiring V) (N : Numbering V) (reversed : Bool) (op : Op)
    (v w : Value V) : Type 0 where
  pub value : IsValue R v
  pub fits : FitsOp v.vars op
  pub gives : IsFreshFor R v.vars (InImage R N reversed (coordinates v) op (cone_of R v)) w

pub record IsJoin {V : Type 0} (R : Semiring V) (v other w : Value V) : Type 0 where
  pub value : IsValue R v
  pub other_value : IsValue R other
  pub same_vars : v.vars ≡ other.vars
  pub gives : IsFreshFor R v.vars (InJoin R (cone_of R v) (cone_of R other)) w

-- the list with which a widening begins: the external list the first time, and then the list kept by the last one
abbrev pub IsBase : {V : Type 0} → Semiring V → Value V → List (Inequality V) → Type 0
IsBase R v base = (v.kept ≡ Some base) ⊎ ((v.kept ≡ None) × IsExternal R (coordinates v) (cone_of R v) base)

-- those of its inequalities that are valid on the next value, in order
pub record IsKeptList {V : Type 0} (R : Semiring V) (v next : Value V) (list : List (Inequality V)) : Type 0 where
  pub base : List (Inequality V)
  pub is_base : IsBase R v base
  pub chosen : AreChosen (IsValidOn R (cone_of R next)) base list

-- v, which the next value leaves, is widened to w: the solutions of the kept list
pub record IsWidening {V : Type 0} (R : Semiring V) (v next w : Value V) : Type 0 where
  pub value : IsValue R v
  pub next_value : IsValue R next
  pub same_vars : v.vars ≡ next.vars
  pub leaves : IsIncluded R next v → ⊥
  pub list : List (Inequality V)
  pub is_kept : IsKeptList R v next list
  pub few : length list ≤ row_limit
  pub vars_are : w.vars ≡ v.vars
  pub rows_are : IsCanonical R (Solves R (coordinates v) list) w.rows
  pub kept_are : w.kept ≡ Some list
