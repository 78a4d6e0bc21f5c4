-- Parts of what the reading functions do, by the names that single readers follow.
use Rattle.std.specs.Prelude.{ℕ, zero, suc, List, [], codes, nat_lt}
use Rattle.trop_text.specs.declared.fault.FaultKind.{FaultKind}
use Rattle.trop_text.specs.declared.fault.FaultKind.TheVariants.{Syntax}
use Rattle.trop_grammar.specs.Reading.{Reading, ◌>>=◌, gives}
use Rattle.shape_grammar.specs.Steps.{token_past, maybe_past, many_past}
use Rattle.prog_theory.specs.Limits.{program_limits}
use Rattle.prog_theory.specs.Statements.{Stmt, Block}
use Rattle.prog_theory.specs.Statements as tree
use Rattle.prog_texts.specs.AssertRule.{AssertRule}
use Rattle.prog_texts.specs.Words.{Counted, skipped}
use Rattle.prog_texts.specs.Judges.{goes_on, variable}
use Rattle.prog_texts.specs.Operands.{operand_at, said_at}
use Rattle.prog_texts.specs.Conditions.{condition_at, nowhere}
use Rattle.prog_texts.specs.Claims.{claim_at}
use Rattle.prog_texts.specs.Programs.{new_name, declared_at}
use Rattle.prog_texts.specs.Statements.{Verb, block_at, statement_rest, statements_at}

-- ---- statements

-- the statements inside a block, where n signs may stand open; none where no sign may
abbrev pub inside : AssertRule → List (List ℕ) → ℕ → List Counted → Reading Counted FaultKind Block
inside rule names zero = nowhere
inside rule names (suc n) = statements_at program_limits rule names n

-- such statements and the `}` behind them
abbrev pub closed_at : AssertRule → List (List ℕ) → ℕ → List Counted → Reading Counted FaultKind Block
closed_at rule names n = statements_at program_limits rule names n >>= λ xs. said_at (codes "}") >>= λ v. gives xs

-- a block
abbrev pub block_in : AssertRule → List (List ℕ) → ℕ → List Counted → Reading Counted FaultKind Block
block_in rule names n = block_at (nat_lt 0 n) (inside rule names n)

-- `else` and a block, or nothing
abbrev pub second_at : AssertRule → List (List ℕ) → ℕ → List Counted → Reading Counted FaultKind Block
second_at rule names n = maybe_past skipped (goes_on (codes "else")) tree.Empty (λ u. block_in rule names n)

abbrev pub set_at : List (List ℕ) → ℕ → List Counted → Reading Counted FaultKind Stmt
set_at names i = said_at (codes ":=") >>= λ u. operand_at program_limits names >>= λ x. said_at (codes ";") >>=
    λ v. gives (tree.Set i x)

abbrev pub havoc_at : List (List ℕ) → List Counted → Reading Counted FaultKind Stmt
havoc_at names = token_past skipped Syntax (variable names) >>= λ i. said_at (codes ";") >>= λ u. gives (tree.Havoc i)

abbrev pub assume_at : List (List ℕ) → ℕ → List Counted → Reading Counted FaultKind Stmt
assume_at names n = condition_at program_limits names n >>= λ c. said_at (codes ";") >>= λ u. gives (tree.Assume c)

abbrev pub assert_at : AssertRule → List (List ℕ) → List Counted → Reading Counted FaultKind Stmt
assert_at rule names = claim_at program_limits rule names >>= λ c. said_at (codes ";") >>= λ u. gives (tree.Assert c)

abbrev pub skip_at : List Counted → Reading Counted FaultKind Stmt
skip_at = said_at (codes ";") >>= λ u. gives tree.Skip

abbrev pub branch_at : AssertRule → List (List ℕ) → ℕ → List Counted → Reading Counted FaultKind Stmt
branch_at rule names n =
    condition_at program_limits names n >>= λ c. block_in rule names n >>= λ xs. second_at rule names n >>=
    λ ys. gives (tree.If c xs ys)

abbrev pub loop_at : AssertRule → List (List ℕ) → ℕ → List Counted → Reading Counted FaultKind Stmt
loop_at rule names n =
    condition_at program_limits names n >>= λ c. block_in rule names n >>= λ xs. gives (tree.While c xs)

-- the rest of a statement
abbrev pub rest_at : AssertRule → List (List ℕ) → ℕ → Verb → List Counted → Reading Counted FaultKind Stmt
rest_at rule names n v = statement_rest program_limits rule names n (nat_lt 0 n) (inside rule names n) v

-- ---- programs

-- names, as far as they go
abbrev pub names_at : List Counted → Reading Counted FaultKind (List (List ℕ))
names_at = many_past skipped (new_name program_limits) declared_at []
