-- Programs with too many variables.
use Rattle.std.specs.Prelude.{◌≡◌, ◌<◌, ℕ, List, [], ◌∷◌, length}
use Rattle.trop_text.specs.Tokens.{Tok, tokens_of}
use Rattle.trop_text.specs.declared.fault.Fault.{Fault}
use Rattle.trop_text.specs.declared.fault.Fault.TheVariants.{TooManyVars}
use Rattle.prog_theory.specs.Limits.{program_limits}
use Rattle.prog_theory.specs.Named.{Named}
use Rattle.prog_texts.specs.AssertRule.{Either}
use Rattle.prog_texts.specs.Words.{program_pieces}
use Rattle.prog_texts.specs.Programs.{IsWholeProgram}

-- a variable and its opposite are two coordinates
abbrev pub most_variables : ℕ
most_variables = 31

-- the fault stands in the line of the first token, which is the word `vars`
abbrev pub IsAtFirst : List Tok → Fault → Type 0
IsAtFirst [] fault = ⊥
IsAtFirst (t ∷ ts) fault = fault ≡ TooManyVars t.line

-- the bytes spell a program, and it has too many variables
pub record IsTooWide (bytes : List ℕ) (fault : Fault) : Type 0 where
  pub program : Named
  pub spelled : IsWholeProgram program_limits Either (program_pieces bytes) program
  pub many : most_variables < length program.names
  pub at : IsAtFirst (tokens_of bytes) fault
