-- States with the opposites of their numbers.
use Rattle.std.specs.Prelude.{◌+◌, ℕ, zero, suc, neg_ℤ, List, ◌++◌, map}
use Rattle.trop_theory.specs.Semiring.{Semiring}
use Rattle.trop_theory.specs.Numbers.{Numbering}
use Rattle.prog_theory.specs.States.{State, Term}
use Rattle.cone_reports.specs.Vectors.{vector}

-- the numbers of the state, and behind them their opposites
abbrev pub twin : State → State
twin s = s ++ map neg_ℤ s

-- the vector of a state that is doubled: the one, its numbers, and their opposites
abbrev pub twice : {V : Type 0} → Semiring V → Numbering V → State → List V
twice R N s = vector R N (twin s)

-- which coordinate has the opposite of a coordinate, among d variables; coordinate 0 is its own
abbrev pub opposite : ℕ → ℕ → ℕ
opposite d zero = zero
opposite d (suc i) = d + suc i

-- the term whose value is the opposite of that of a term
abbrev pub opposite_term : ℕ → Term → Term
opposite_term d t = record { coord = opposite d t.coord; add = neg_ℤ t.add }
