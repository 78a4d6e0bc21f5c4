-- What a value of the code stands for, and operations in so many coordinates.
use Rattle.std.specs.Prelude.{◌-◌, ◌+◌, ◌^◌, ◌<◌, ℕ, List, Option, Some, None}
use Rattle.trop_theory.specs.Inequalities.{Inequality}
use Rattle.trop_row.specs.Lists.{InequalityList}
use Rattle.trop_poly.specs.Cones.{Cone}
use Rattle.prog_theory.specs.Edges.{Op}
use Rattle.prog_theory.specs.Each.{EachOp}
use Rattle.prog_theory.specs.Within.{IsNumberWithin}
use Rattle.cone_domain.specs.Values.{Value}

abbrev pub list_of : {V : Type 0} → Option (InequalityList V) → Option (List (Inequality V))
list_of None = None
list_of (Some list) = Some list.inequalities

-- the value of a cone with its kept list
abbrev pub value_of : {V : Type 0} → Cone V → Option (InequalityList V) → Value V
value_of cone kept = record { vars = cone.n - 1; rows = cone.rows; kept = list_of kept }

-- the operation changes one of n coordinates other than 0, and its terms stand at one of them
abbrev pub IsOpIn : ℕ → Op → Type 0
IsOpIn n op = EachOp (λ x. (0 < x) × (x < n)) (λ t. t.coord < n) op

-- and its numbers are those of programs and of their edges
pub record IsOpOn (n : ℕ) (op : Op) : Type 0 where
  pub fits : IsOpIn n op
  pub numbers : EachOp (λ x. Unit {0}) (IsNumberWithin (2 ^ 31 + 1)) op
