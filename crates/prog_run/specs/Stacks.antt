-- The stack of numbered statements that rests of blocks stand for. The last rest is on top.
use Rattle.std.specs.Prelude.{◌≡◌, List, [], ◌∷◌, ◌++◌, Option, MatchOption}
use Rattle.prog_theory.specs.Numbering.{Numbered, numbered}
use Rattle.prog_theory.specs.Steps.{Stack}
use Rattle.prog_tree.specs.Stmts.{stmt_of, block_of}
use Rattle.prog_run.specs.declared.stack.Rest.{Rest}
use Rattle.prog_run.specs.declared.stack.Top.{Top}

abbrev pub rest_of : Rest → Stack
rest_of r = numbered r.number (block_of r.stmts.now)

abbrev pub stack_of : List Rest → Stack
stack_of [] = []
stack_of (r ∷ rs) = stack_of rs ++ rest_of r

abbrev pub top_of : Top → Numbered
top_of t = record { number = t.number; stmt = stmt_of t.stmt.now }

-- the statement on top of the old stack is given, and the others are left
abbrev pub GivesTop : Stack → Stack → Option Top → Type 0
GivesTop old new given = MatchOption given ((old ≡ []) × (new ≡ [])) (λ t. old ≡ top_of t ∷ new)
