-- Programs: their grammar, how they are read, and the causes of their faults.
use Rattle.std.specs.Prelude.{◌≡◌, ◌≤◌, ℕ, true, List, [], ◌∷◌, ◌++◌, length, codes, Option, Some, None, Result, Ok, Err, nat_le, if◌then◌else◌}
use Rattle.trop_text.specs.Names.{place_of}
use Rattle.trop_text.specs.declared.fault.FaultKind.{FaultKind}
use Rattle.trop_text.specs.declared.fault.FaultKind.TheVariants.{Syntax, DuplicateName, TooManyVars}
use Rattle.trop_grammar.specs.Reading.{Reading, ◌>>=◌, gives}
use Rattle.trop_grammar.specs.Grammar.{Empty, Then}
use Rattle.trop_grammar.specs.Lists.{Passes}
use Rattle.shape_grammar.specs.Steps.{token_past, many_past}
use Rattle.shape_grammar.specs.Texts.{One, Many}
use Rattle.prog_theory.specs.Limits.{Limits}
use Rattle.prog_theory.specs.Named.{Named}
use Rattle.prog_texts.specs.AssertRule.{AssertRule}
use Rattle.prog_texts.specs.Words.{Counted, text, skipped, is_variable, closes, one_more}
use Rattle.shape_grammar.specs.Shape.{Begins}
use Rattle.prog_texts.specs.Shapes.{language, declaration}
use Rattle.prog_texts.specs.Judges.{ended}
use Rattle.prog_texts.specs.Operands.{IsSaid, said_at}
use Rattle.prog_texts.specs.Causes.{IsCause}
use Rattle.prog_texts.specs.Statements.{AreStatements, statements_at}

-- a name that is not among those before
abbrev pub undeclared : Option ℕ → List ℕ → Result (List ℕ) FaultKind
undeclared None name = Ok name
undeclared (Some place) name = Err DuplicateName

-- one more name: the count is judged before it
abbrev pub new_name : Limits → List (List ℕ) → Counted → Option (Result (List ℕ) FaultKind)
new_name L names t =
    if is_variable t then Some (if nat_le L.vars (length names) then Err TooManyVars else undeclared
    (place_of (text t) names) (text t)) else None

-- the token that ends a program
abbrev pub closed : Counted → Result (Unit {0}) FaultKind
closed t = if closes t then Ok tt else Err Syntax

-- ---- grammar

abbrev pub AreNew : Limits → List (List ℕ) → List Counted → List (List ℕ) → Type 0
AreNew L = Many skipped (new_name L) (λ names name. Empty (names ++ name ∷ []))

-- `vars`, distinct names and `;`
abbrev pub IsDeclaration : Limits → List Counted → List (List ℕ) → Type 0
IsDeclaration L = Then (IsSaid (codes "vars")) (λ u.
    Then (AreNew L []) (λ names. Then (IsSaid (codes ";")) (λ v. Empty names)))

abbrev pub IsProgram : Limits → AssertRule → List Counted → Named → Type 0
IsProgram L rule = Then (IsDeclaration L) (λ names. Then (AreStatements L rule names L.depth)
    (λ xs. Empty (record { names = names; body = xs })))

-- a program up to the end of the input
abbrev pub IsWholeProgram : Limits → AssertRule → List Counted → Named → Type 0
IsWholeProgram L rule = Then (IsProgram L rule) (λ p. Then (One skipped (Passes ended)) (λ u. Empty p))

-- ---- reading

unfoldable pub declared_at : List (List ℕ) → List ℕ → List Counted → Reading Counted FaultKind (List (List ℕ))
declared_at names name = gives (names ++ name ∷ [])

unfoldable pub declaration_at : Limits → List Counted → Reading Counted FaultKind (List (List ℕ))
declaration_at L = said_at (codes "vars") >>= λ u. many_past skipped (new_name L) declared_at [] >>= λ names.
    said_at (codes ";") >>= λ v. gives names

unfoldable pub program_at : Limits → AssertRule → List Counted → Reading Counted FaultKind Named
program_at L rule = declaration_at L >>= λ names. statements_at L rule names L.depth >>= λ xs.
    gives (record { names = names; body = xs })

unfoldable pub whole_program_at : Limits → AssertRule → List Counted → Reading Counted FaultKind Named
whole_program_at L rule = program_at L rule >>= λ p. token_past skipped Syntax ended >>= λ u. gives p

-- ---- causes

-- some token before has the same text
pub record IsAmong (before : List Counted) (t : Counted) : Type 0 where
  pub front : List Counted
  pub same : Counted
  pub back : List Counted
  pub whole : before ≡ front ++ same ∷ back
  pub is : text same ≡ text t

-- how many tokens are names
abbrev pub names_in : List Counted → ℕ
names_in [] = 0
names_in (t ∷ ts) = one_more (is_variable t) (names_in ts)

-- t is a name in the declaration
abbrev pub IsDeclared : List Counted → Counted → Type 0
IsDeclared before t = (is_variable t ≡ true) × Begins language declaration (before ++ t ∷ [])

-- behind a declaration, a cause over the declared names
pub record IsBodyCause (L : Limits) (rule : AssertRule) (what : FaultKind) (before : List Counted)
    (t : Counted) : Type 0 where
  pub names : List (List ℕ)
  pub front : List Counted
  pub back : List Counted
  pub whole : before ≡ front ++ back
  pub declared : IsDeclaration L front names
  pub cause : IsCause L rule names L.depth what back t

-- in the declaration a name that stands before, or behind as many as there may be; or a cause behind it
abbrev pub IsProgramCause : Limits → AssertRule → FaultKind → List Counted → Counted → Type 0
IsProgramCause L rule DuplicateName before t = IsDeclared before t × IsAmong before t
IsProgramCause L rule TooManyVars before t = IsDeclared before t × (L.vars ≤ names_in before)
IsProgramCause L rule what before t = IsBodyCause L rule what before t
