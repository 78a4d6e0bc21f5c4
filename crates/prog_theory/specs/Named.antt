-- Programs with the names of their variables. Variable i, counted from 1, has the i-th name; a name is its bytes.
use Rattle.std.specs.Prelude.{ℕ, List, length}
use Rattle.prog_theory.specs.Statements.{Block, Program}

pub record Named : Type 0 where
  pub names : List (List ℕ)
  pub body : Block

-- what the program means does not depend on the names
abbrev pub nameless : Named → Program
nameless p = record { vars = length p.names; body = p.body }
