-- Statements and states at which a step can be computed.
use Rattle.std.specs.Prelude.{◌+◌, ◌<◌, ◌≤◌, ◌^◌, ℕ, ℤ, List, [], ◌∷◌, All, unsigned_abs}
use Rattle.prog_theory.specs.Conditions.{Cond}
use Rattle.prog_theory.specs.Numbering.{count, Numbered}
use Rattle.prog_theory.specs.Steps.{Stack}
use Rattle.prog_theory.specs.Each.{EachTerm, EachStmt}
use Rattle.prog_theory.specs.Fits.{FitsCond, FitsStmt}
use Rattle.prog_theory.specs.Within.{IsNumberWithin}

-- no number is greater than this
abbrev pub AreWithin : ℕ → List ℤ → Type 0
AreWithin n s = All (λ v. unsigned_abs v ≤ n) s

-- the condition names coordinates of so many variables alone, and its numbers are small
abbrev pub IsReadyCond : ℕ → Cond → Type 0
IsReadyCond vars c = FitsCond vars c × EachTerm (IsNumberWithin (2 ^ 31)) c

-- nothing is asked of a variable
abbrev pub IsAnything : ℕ → Type 0
IsAnything x = Unit {0}

-- the statement names so many variables alone, its numbers are small, and so are those of the statements in it
pub record IsReady (vars : ℕ) (n : Numbered) : Type 0 where
  pub fits : FitsStmt vars n.stmt
  pub small : EachStmt IsAnything (IsNumberWithin (2 ^ 31)) n.stmt
  pub numbers : n.number + count n.stmt < 2 ^ 32

abbrev pub AreReady : ℕ → Stack → Type 0
AreReady vars [] = Unit {0}
AreReady vars (n ∷ ns) = IsReady vars n × AreReady vars ns

-- the numbers of the statements, and of those in them, are small
abbrev pub AreNumbered : Stack → Type 0
AreNumbered [] = Unit {0}
AreNumbered (n ∷ ns) = (n.number + count n.stmt < 2 ^ 32) × AreNumbered ns
