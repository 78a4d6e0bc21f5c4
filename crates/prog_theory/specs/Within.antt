-- What a program keeps: its parts are of its variables, and nothing is more than the limits.
use Rattle.std.specs.Prelude.{◌≡◌, ◌<◌, ◌≤◌, ℕ, List, length, unsigned_abs}
use Rattle.prog_theory.specs.States.{Term}
use Rattle.prog_theory.specs.Statements.{SideWord, One, Greatest, Least, Claim}
use Rattle.prog_theory.specs.Named.{Named}
use Rattle.prog_theory.specs.Limits.{Limits}
use Rattle.prog_theory.specs.Numbering.{counts}
use Rattle.prog_theory.specs.Atoms.{block_atoms}
use Rattle.prog_theory.specs.Nesting.{block_nesting}
use Rattle.prog_theory.specs.Each.{EachBlock, EachClaims}
use Rattle.prog_theory.specs.Fits.{FitsBlock}

-- a side has a term, and just one where no word stands before it
abbrev pub IsSide : SideWord → List Term → Type 0
IsSide One ts = length ts ≡ 1
IsSide Greatest ts = 0 < length ts
IsSide Least ts = 0 < length ts

abbrev pub IsClaim : Claim → Type 0
IsClaim c = IsSide c.left.word c.left.terms × IsSide c.right.word c.right.terms

-- the number of the term has at most this size
abbrev pub IsNumberWithin : ℕ → Term → Type 0
IsNumberWithin n t = unsigned_abs t.add ≤ n

pub record IsWithin (L : Limits) (p : Named) : Type 0 where
  pub vars : length p.names ≤ L.vars
  pub coordinates : FitsBlock (length p.names) p.body
  pub sides : EachClaims IsClaim p.body
  pub statements : counts p.body ≤ L.statements
  pub atoms : block_atoms p.body ≤ L.atoms
  pub numbers : EachBlock (λ x. Unit {0}) (IsNumberWithin L.number) p.body
  pub nesting : block_nesting p.body ≤ L.depth
