-- What comes of a kept list.
use Rattle.std.specs.Prelude.{◌≡◌, ◌≤◌, ◌<◌, ℕ, suc, List, length, Result, Ok, Err, Some, None}
use Rattle.trop_theory.specs.Semiring.{Semiring}
use Rattle.trop_theory.specs.Vectors.{rows_size}
use Rattle.trop_theory.specs.Inequalities.{Inequality, Solves, system_size}
use Rattle.trop_theory.specs.Canonical.{IsCanonical, row_limit}
use Rattle.trop_duality.specs.PolarStops.{IsPolarStop}
use Rattle.trop_row.specs.Lists.{InequalityList}
use Rattle.trop_poly.specs.Cones.{Cone}
use Rattle.trop_poly.specs.declared.error.PolyErr.{PolyErr}
use Rattle.trop_poly.specs.declared.error.PolyErr.TheVariants as cones
use Rattle.dom_core.specs.declared.error.At.TheVariants as ats
use Rattle.dom_core.specs.declared.error.DomErr.{DomErr}
use Rattle.dom_core.specs.declared.error.DomErr.TheVariants.{Limit, Range, NoMemory}
use Rattle.dom_theory.specs.Relations.{Cause, OverLimit, OutOfRange}
use Rattle.cone_domain.specs.Values.{Value, coordinates}
use Rattle.cone_domain.specs.Operations.{IsKeptList}
use Rattle.cone_domain.specs.Refused.{most_value, IsListRefused, IsUnstopped}
use Rattle.dom_poly.specs.Views.{value_of}
use Rattle.dom_poly.specs.Kept.{most_kept}

-- the kept list of the widening, and that no part of the list with which it began is refused
pub record IsKept {V : Type 0} (R : Semiring V) (v next : Value V) (list : InequalityList V) : Type 0 where
  pub width : list.n ≡ coordinates v
  pub few : length list.inequalities ≤ row_limit
  pub small : system_size R list.inequalities ≤ most_kept
  pub kept : IsKeptList R v next list.inequalities
  pub unstopped : IsUnstopped R v

-- the kept list, or where the external list with which the first widening begins is refused
abbrev pub IsKeptFor : {V : Type 0} → Semiring V → Value V → Value V → Result (InequalityList V) PolyErr → Type 0
IsKeptFor R v next (Ok list) = IsKept R v next list
IsKeptFor R v next (Err (cones.Rows k)) = ⊥
IsKeptFor R v next (Err (cones.Polar i k)) = (v.kept ≡ None) × IsPolarStop R (coordinates v) v.rows i k
IsKeptFor R v next (Err cones.NoMemory) = Unit {0}

-- the cone with its list where its numbers are small; else it is refused with the whole list
abbrev pub IsListed : {V : Type 0} → Semiring V → Cone V → InequalityList V → Result (Value V) DomErr → Type 0
IsListed R cone list (Ok v) = (v ≡ value_of cone (Some list)) × (rows_size R cone.rows ≤ most_value)
IsListed R cone list (Err (Range (ats.Kept k))) = (k ≡ length list.inequalities) × (most_value < rows_size R cone.rows)
IsListed R cone list (Err (Range ats.Whole)) = ⊥
IsListed R cone list (Err (Range (ats.Polar i k))) = ⊥
IsListed R cone list (Err (Limit at)) = ⊥
IsListed R cone list (Err NoMemory) = ⊥

-- the value of the solutions of the list
pub record IsSolved {V : Type 0} (R : Semiring V) (n : ℕ) (list : List (Inequality V)) (v : Value V) : Type 0 where
  pub width : suc v.vars ≡ n
  pub rows : IsCanonical R (Solves R n list) v.rows
  pub kept : v.kept ≡ Some list
  pub free : (cause : Cause) (k : ℕ) → IsListRefused R n list cause k → ⊥

-- that value, or at which part of the list it is refused
abbrev pub IsSolvedFor : {V : Type 0} → Semiring V → ℕ → List (Inequality V) → Result (Value V) DomErr → Type 0
IsSolvedFor R n list (Ok v) = IsSolved R n list v
IsSolvedFor R n list (Err (Limit (ats.Kept k))) = IsListRefused R n list OverLimit k
IsSolvedFor R n list (Err (Limit ats.Whole)) = ⊥
IsSolvedFor R n list (Err (Limit (ats.Polar i k))) = ⊥
IsSolvedFor R n list (Err (Range (ats.Kept k))) = IsListRefused R n list OutOfRange k
IsSolvedFor R n list (Err (Range ats.Whole)) = ⊥
IsSolvedFor R n list (Err (Range (ats.Polar i k))) = ⊥
IsSolvedFor R n list (Err NoMemory) = Unit {0}
