-- What the first tokens of parts stand for.
use Rattle.std.specs.Prelude.{Bool, IsTrue}
use Rattle.prog_texts.specs.Operands as operands
use Rattle.prog_theory.specs.Statements as tree
use Rattle.prog_texts.specs.Conditions as conditions
use Rattle.prog_texts.specs.Claims as claims
use Rattle.prog_reading.specs.declared.operands.First.{First}
use Rattle.prog_reading.specs.declared.operands.First.TheVariants.{Value, Negative, Variable}
use Rattle.prog_reading.specs.declared.operands.Way.{Way}
use Rattle.prog_reading.specs.declared.operands.Way.TheVariants.{Plus, Minus}
use Rattle.prog_reading.specs.declared.conditions.Start.{Start}
use Rattle.prog_reading.specs.declared.conditions.Start.TheVariants.{Bang, Bracket, Ask, Compare}
use Rattle.prog_reading.specs.declared.claims.SideStart.{SideStart}
use Rattle.prog_reading.specs.declared.claims.SideStart.TheVariants.{Single, Greatest, Least}

abbrev pub first_of : First → operands.First
first_of (Value n) = operands.Value n
first_of Negative = operands.Negative
first_of (Variable i) = operands.Variable i

abbrev pub way_of : Way → operands.Way
way_of Plus = operands.Plus
way_of Minus = operands.Minus

-- what a negation begins with
abbrev pub start_of : Start → conditions.Start
start_of Bang = conditions.Bang
start_of Bracket = conditions.Bracket
start_of Ask = conditions.Ask
start_of (Compare f) = conditions.Compare (first_of f)

-- a sign that opens something stands where there is room for it
abbrev pub IsRoomy : Bool → Start → Type 0
IsRoomy room Bang = IsTrue room
IsRoomy room Bracket = IsTrue room
IsRoomy room Ask = Unit {0}
IsRoomy room (Compare f) = Unit {0}

-- what a side begins with
abbrev pub side_start_of : SideStart → claims.SideStart
side_start_of (Single f) = claims.Single (first_of f)
side_start_of Greatest = claims.Listed tree.Greatest
side_start_of Least = claims.Listed tree.Least
