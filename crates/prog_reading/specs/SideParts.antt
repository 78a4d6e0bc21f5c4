-- Parts of a side, by the names that single readers follow.
use Rattle.std.specs.Prelude.{List, [], ◌∷◌}
use Rattle.trop_text.specs.declared.fault.FaultKind.{FaultKind}
use Rattle.trop_grammar.specs.Reading.{Reading, ◌>>=◌, gives}
use Rattle.prog_theory.specs.Limits.{program_limits}
use Rattle.prog_theory.specs.Statements as tree
use Rattle.prog_texts.specs.Words.{Counted}
use Rattle.prog_texts.specs.Operands.{First, operand_rest}
use Rattle.prog_texts.specs.Claims.{side_of}

-- a word stands before the terms
abbrev pub IsSum : tree.SideWord → Type 0
IsSum tree.One = ⊥
IsSum tree.Greatest = Unit {0}
IsSum tree.Least = Unit {0}

-- a side of one term
abbrev pub single_at : First → List Counted → Reading Counted FaultKind tree.Side
single_at f = operand_rest program_limits f >>= λ x. gives (side_of tree.One (x ∷ []))
