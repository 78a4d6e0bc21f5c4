-- The header: the first three lines that have tokens.
use Rattle.std.specs.Prelude.{ℕ, Bool, true, false, List, [], ◌∷◌, codes, Option, Some, None, Result, Ok, Err, if◌then◌else◌}
use Rattle.std.specs.List.{list_any}
use Rattle.trop_grammar.specs.Reading.{Reading, ◌>>=◌, gives, token_at}
use Rattle.trop_grammar.specs.Grammar.{One, Empty, Then}
use Rattle.trop_grammar.specs.Lists.{Passes, next_or_end, only_end, Item, EndsList, Listed, list_at}
use Rattle.trop_text.specs.Name.{is_name}
use Rattle.trop_text.specs.Names.{place_of}
use Rattle.trop_text.specs.Pieces.{Piece, Token, LineEnd, InputEnd}
use Rattle.trop_text.specs.declared.fault.FaultKind.{FaultKind}
use Rattle.trop_text.specs.declared.fault.FaultKind.TheVariants.{Syntax, DuplicateName, TooManyVars, WrongKind}
use Rattle.trop_spelling.specs.declared.ring_kind.RingKind.{RingKind}
use Rattle.trop_spelling.specs.declared.ring_kind.RingKind.TheVariants.{Max as MaxKind, Min as MinKind, Bool as BoolKind}
use Rattle.trop_reading.specs.Words.{says, said, line_end, text_of, line_of_piece}

-- what a header says: the semiring, the names of the variables, and the line of the word `vars`
pub record Header : Type 0 where
  pub ring : RingKind
  pub names : List (List ℕ)
  pub vars_line : ℕ

-- ---- its words

abbrev pub kinds : List (List ℕ)
kinds = codes "ineqs" ∷ codes "gens" ∷ codes "pair" ∷ codes "at" ∷ []

-- the wanted kind of file; another one is of the wrong kind
abbrev pub kind_word : List ℕ → Piece → Result (Unit {0}) FaultKind
kind_word wanted p = if says wanted p then Ok tt else
    (if list_any (λ kind. says kind p) kinds then Err WrongKind else Err Syntax)

abbrev pub semiring_word : Piece → Result RingKind FaultKind
semiring_word p =
    if says (codes "max") p then Ok MaxKind
    else (if says (codes "min") p then Ok MinKind
    else (if says (codes "bool") p then Ok BoolKind else Err Syntax))

-- the word `vars`, as its line
abbrev pub vars_word : Piece → Result ℕ FaultKind
vars_word p = if says (codes "vars") p then Ok (line_of_piece p) else Err Syntax

-- ---- the names of the variables

abbrev pub is_line_end : Piece → Bool
is_line_end (LineEnd line) = true
is_line_end (Token t) = false
is_line_end InputEnd = false

-- a name that is not among those before
abbrev pub undeclared : Option ℕ → List ℕ → Result (List ℕ) FaultKind
undeclared None name = Ok name
undeclared (Some place) name = Err DuplicateName

unfoldable pub new_name : List (List ℕ) → Piece → Result (List ℕ) FaultKind
new_name names p = if is_name (text_of p) then undeclared (place_of (text_of p) names) (text_of p) else Err Syntax

-- what is wrong with a further name, or with what is none
unfoldable pub past_names : Piece → FaultKind
past_names p = if is_name (text_of p) then TooManyVars else Syntax

-- behind these names: one more, or the end of the line
abbrev pub next_name : List (List ℕ) → Piece → Result (Option (List ℕ)) FaultKind
next_name names p = next_or_end (is_line_end p) (new_name names p)

abbrev pub no_name : Piece → Result (Unit {0}) FaultKind
no_name p = only_end (is_line_end p) (past_names p)

-- the most variables that a file may have
abbrev pub most_names : ℕ
most_names = 63

-- a name is a single token
abbrev pub IsName : List (List ℕ) → List ℕ → List Piece → List ℕ → Type 0
IsName names name = Empty name

-- distinct names, 63 at most, and the end of the line
abbrev pub AreNamesInLine : List Piece → List (List ℕ) → Type 0
AreNamesInLine = Listed (Item next_name IsName) (EndsList next_name) most_names

-- ---- the header

-- the first line, with the word of the kind
abbrev pub IsKindLine : List ℕ → List Piece → Unit {0} → Type 0
IsKindLine kind = Then (One (Passes (said (codes "kind"))))
    (λ a. Then (One (Passes (kind_word kind))) (λ b. One (Passes line_end)))

-- the second line, with the word of the semiring
abbrev pub IsSemiringLine : List Piece → RingKind → Type 0
IsSemiringLine = Then (One (Passes (said (codes "semiring"))))
    (λ a. Then (One (Passes semiring_word)) (λ ring. Then (One (Passes line_end)) (λ b. Empty ring)))

-- both, and the line of the names
abbrev pub IsHeader : List ℕ → List Piece → Header → Type 0
IsHeader kind =
    Then (IsKindLine kind) (λ a. Then IsSemiringLine
    (λ ring. Then (One (Passes vars_word)) (λ line.
    Then AreNamesInLine (λ names. Empty (record { ring = ring; names = names; vars_line = line })))))

-- ---- reading

unfoldable pub name_at : List (List ℕ) → List ℕ → List Piece → Reading Piece FaultKind (List ℕ)
name_at names name = gives name

unfoldable pub names_at : List Piece → Reading Piece FaultKind (List (List ℕ))
names_at = list_at Syntax next_name name_at (λ names. no_name) most_names []

unfoldable pub kind_line_at : List ℕ → List Piece → Reading Piece FaultKind (Unit {0})
kind_line_at kind = token_at Syntax (said (codes "kind")) >>= λ a. token_at Syntax (kind_word kind) >>= λ b.
    token_at Syntax line_end

unfoldable pub semiring_line_at : List Piece → Reading Piece FaultKind RingKind
semiring_line_at = token_at Syntax (said (codes "semiring")) >>= λ a. token_at Syntax semiring_word >>= λ ring.
    token_at Syntax line_end >>= λ b. gives ring

unfoldable pub header_at : List ℕ → List Piece → Reading Piece FaultKind Header
header_at kind = kind_line_at kind >>= λ a. semiring_line_at >>= λ ring. token_at Syntax vars_word >>= λ line. names_at
    >>= λ names. gives (record { ring = ring; names = names; vars_line = line })
