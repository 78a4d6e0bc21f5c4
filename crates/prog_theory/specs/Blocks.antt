-- A block as a list of statements.
use Rattle.std.specs.Prelude.{List, [], ◌∷◌}
use Rattle.prog_theory.specs.Statements.{Stmt, Block, Empty, Then}

abbrev pub statements : Block → List Stmt
statements Empty = []
statements (Then st b) = st ∷ statements b

-- a block and one more statement behind it
abbrev pub and_then : Block → Stmt → Block
and_then Empty st = Then st Empty
and_then (Then first b) st = Then first (and_then b st)
