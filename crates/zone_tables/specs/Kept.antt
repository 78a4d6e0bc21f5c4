-- Bounds side by side: which is the stronger, and which stays.
use Rattle.std.specs.Prelude.{ℤ, cond, int_le, Some, None}
use Rattle.zone_theory.specs.Bounds.{Bound, IsAtMost}

-- whatever keeps the first bound keeps the second
abbrev pub IsBelow : Bound → Bound → Type 0
IsBelow x None = Unit {0}
IsBelow x (Some c) = IsAtMost x c

-- what stays of a bound where the differences are at most the second
abbrev pub remaining : Bound → Bound → Bound
remaining None n = None
remaining (Some c) None = None
remaining (Some c) (Some a) = cond (int_le a c) (Some c) None
