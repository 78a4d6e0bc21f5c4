-- Statements: their grammar, and how they are read.
use Rattle.std.specs.Prelude.{ℕ, zero, suc, Bool, true, false, List, codes, Option, Some, None, Result, Ok, Err, if◌then◌else◌}
use Rattle.trop_text.specs.declared.fault.FaultKind.{FaultKind}
use Rattle.trop_text.specs.declared.fault.FaultKind.TheVariants.{Syntax, TooManyStatements}
use Rattle.trop_grammar.specs.Reading.{Reading, ◌>>=◌, gives}
use Rattle.trop_grammar.specs.Grammar.{Empty, Then}
use Rattle.trop_grammar.specs.Lists.{Passes}
use Rattle.shape_grammar.specs.Steps.{token_past, maybe_past, many_past}
use Rattle.shape_grammar.specs.Texts.{One, Maybe, Many}
use Rattle.prog_theory.specs.Statements.{Stmt, Set, Havoc, Assume, Assert, If, While, Skip, Block}
use Rattle.prog_theory.specs.Statements as tree
use Rattle.prog_theory.specs.Blocks.{and_then}
use Rattle.prog_theory.specs.Limits.{Limits}
use Rattle.prog_texts.specs.AssertRule.{AssertRule}
use Rattle.prog_texts.specs.Words.{Counted, skipped, says, is_variable}
use Rattle.prog_texts.specs.Judges.{passed, goes_on, known, variable, is_one_too_many}
use Rattle.prog_texts.specs.Operands.{IsSaid, IsOperand, said_at, operand_at}
use Rattle.prog_texts.specs.Conditions.{opening, IsCondition, Nowhere, condition_at, nowhere}
use Rattle.prog_texts.specs.Claims.{IsClaim, claim_at}

-- what the first token of a statement begins
pub data Verb : Type 0 where
  Havocs : Verb
  Assumes : Verb
  Asserts : Verb
  Asks : Verb
  Loops : Verb
  Skips : Verb
  Sets : ℕ → Verb

-- one more statement: the count is judged before the name
abbrev pub one_more : Limits → Counted → Result Verb FaultKind → Option (Result Verb FaultKind)
one_more L t v = Some (if is_one_too_many L t then Err TooManyStatements else v)

abbrev pub verb : Limits → List (List ℕ) → Counted → Option (Result Verb FaultKind)
verb L names t =
    if says (codes "havoc") t then one_more L t (Ok Havocs)
    else (if says (codes "assume") t then one_more L t (Ok Assumes)
    else (if says (codes "assert") t then one_more L t (Ok Asserts)
    else (if says (codes "if") t then one_more L t (Ok Asks)
    else (if says (codes "while") t then one_more L t (Ok Loops)
    else (if says (codes "skip") t then one_more L t (Ok Skips)
    else (if is_variable t then one_more L t (passed Sets (known names t)) else None))))))

-- a sign that opens a block, where there is room for it
abbrev pub block_sign : Bool → Counted → Result (Unit {0}) FaultKind
block_sign room t = if says (codes "{") t then opening room tt else Err Syntax

-- ---- grammar

abbrev pub IsBlock : Bool → (List Counted → Block → Type 0) → List Counted → Block → Type 0
IsBlock room Inner = Then (One skipped (Passes (block_sign room)))
    (λ u. Then Inner (λ xs. Then (IsSaid (codes "}")) (λ v. Empty xs)))

-- the rest of a statement, behind its first token
abbrev pub IsStatementRest : Limits → AssertRule → List (List ℕ) → ℕ → Bool → (List Counted → Block → Type 0) → Verb →
    List Counted → Stmt → Type 0
IsStatementRest L rule names n room Inner Havocs =
    Then (One skipped (Passes (variable names))) (λ i. Then (IsSaid (codes ";")) (λ u. Empty (Havoc i)))
IsStatementRest L rule names n room Inner Assumes =
    Then (IsCondition L names n) (λ c. Then (IsSaid (codes ";")) (λ u. Empty (Assume c)))
IsStatementRest L rule names n room Inner Asserts =
    Then (IsClaim L rule names) (λ c. Then (IsSaid (codes ";")) (λ u. Empty (Assert c)))
IsStatementRest L rule names n room Inner Asks =
    Then (IsCondition L names n) (λ c. Then (IsBlock room Inner)
    (λ xs. Then (Maybe skipped (goes_on (codes "else")) tree.Empty (λ u. IsBlock room Inner))
    (λ ys. Empty (If c xs ys))))
IsStatementRest L rule names n room Inner Loops = Then (IsCondition L names n)
    (λ c. Then (IsBlock room Inner) (λ xs. Empty (While c xs)))
IsStatementRest L rule names n room Inner Skips = Then (IsSaid (codes ";")) (λ u. Empty Skip)
IsStatementRest L rule names n room Inner (Sets i) =
    Then (IsSaid (codes ":=")) (λ u. Then (IsOperand L names) (λ x. Then (IsSaid (codes ";")) (λ v. Empty (Set i x))))

abbrev pub AreStatementsOf : Limits → AssertRule → List (List ℕ) → ℕ → Bool → (List Counted → Block → Type 0) → Block →
    List Counted → Block → Type 0
AreStatementsOf L rule names n room Inner = Many skipped (λ xs. verb L names)
    (λ xs v. Then (IsStatementRest L rule names n room Inner v) (λ x. Empty (and_then xs x)))

-- statements in which signs may stand n deep
unfoldable pub AreStatements : Limits → AssertRule → List (List ℕ) → ℕ → List Counted → Block → Type 0
AreStatements L rule names zero = AreStatementsOf L rule names zero false Nowhere tree.Empty
AreStatements L rule names (suc n) = AreStatementsOf L rule names (suc n) true (AreStatements L rule names n) tree.Empty

-- ---- reading

unfoldable pub block_at : Bool → (List Counted → Reading Counted FaultKind Block) → List Counted →
    Reading Counted FaultKind Block
block_at room inner = token_past skipped Syntax (block_sign room) >>= λ u. inner >>= λ xs. said_at (codes "}") >>= λ v.
    gives xs

unfoldable pub statement_rest : Limits → AssertRule → List (List ℕ) → ℕ → Bool →
    (List Counted → Reading Counted FaultKind Block) → Verb → List Counted → Reading Counted FaultKind Stmt
statement_rest L rule names n room inner Havocs = token_past skipped Syntax (variable names) >>= λ i.
    said_at (codes ";") >>= λ u. gives (Havoc i)
statement_rest L rule names n room inner Assumes =
    condition_at L names n >>= λ c. said_at (codes ";") >>= λ u. gives (Assume c)
statement_rest L rule names n room inner Asserts =
    claim_at L rule names >>= λ c. said_at (codes ";") >>= λ u. gives (Assert c)
statement_rest L rule names n room inner Asks =
    condition_at L names n >>= λ c. block_at room inner >>= λ xs. maybe_past skipped (goes_on (codes "else")) tree.Empty
    (λ u. block_at room inner) >>= λ ys. gives (If c xs ys)
statement_rest L rule names n room inner Loops = condition_at L names n >>= λ c. block_at room inner >>= λ xs.
    gives (While c xs)
statement_rest L rule names n room inner Skips = said_at (codes ";") >>= λ u. gives Skip
statement_rest L rule names n room inner (Sets i) =
    said_at (codes ":=") >>= λ u. operand_at L names >>= λ x. said_at (codes ";") >>= λ v. gives (Set i x)

unfoldable pub one_more_at : Limits → AssertRule → List (List ℕ) → ℕ → Bool →
    (List Counted → Reading Counted FaultKind Block) → Block → Verb → List Counted → Reading Counted FaultKind Block
one_more_at L rule names n room inner xs v = statement_rest L rule names n room inner v >>= λ x. gives (and_then xs x)

abbrev pub statements_of : Limits → AssertRule → List (List ℕ) → ℕ → Bool →
    (List Counted → Reading Counted FaultKind Block) → List Counted → Reading Counted FaultKind Block
statements_of L rule names n room inner = many_past skipped (λ xs. verb L names)
    (one_more_at L rule names n room inner) tree.Empty

unfoldable pub statements_at : Limits → AssertRule → List (List ℕ) → ℕ → List Counted → Reading Counted FaultKind Block
statements_at L rule names zero = statements_of L rule names zero false nowhere
statements_at L rule names (suc n) = statements_of L rule names (suc n) true (statements_at L rule names n)
