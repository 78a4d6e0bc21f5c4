-- Files of inequalities that are read line by line.
use Rattle.std.specs.Prelude.{◌≡◌, ◌≤◌, ◌^◌, ℕ, zero, suc, List, [], ◌∷◌, ◌++◌, length, codes, nat_lt, Option, Some, None, Result, Ok, Err, if◌then◌else◌}
use Rattle.trop_theory.specs.Semiring.{Semiring}
use Rattle.trop_theory.specs.Numbers.{Numbering}
use Rattle.trop_theory.specs.Inequalities.{Inequality}
use Rattle.trop_grammar.specs.Reading.{Reading, ◌>>=◌, gives, token_at}
use Rattle.trop_text.specs.Pieces.{Piece, InputEnd, pieces_of}
use Rattle.trop_text.specs.declared.fault.Fault.{Fault}
use Rattle.trop_text.specs.declared.fault.FaultKind.{FaultKind}
use Rattle.trop_text.specs.declared.fault.FaultKind.TheVariants.{Syntax}
use Rattle.trop_text.specs.declared.fault.TextErr.{TextErr}
use Rattle.trop_text.specs.declared.fault.TextErr.TheVariants as errors
use Rattle.trop_spelling.specs.declared.terms.Start.{Start}
use Rattle.trop_spelling.specs.declared.ring_kind.RingKind.{RingKind}
use Rattle.trop_reading.specs.Words.{is_input_end, passed}
use Rattle.trop_files.specs.Header.{Header, IsHeader, header_at}
use Rattle.trop_files.specs.Generators.{greatest_number}
use Rattle.trop_spelling.specs.Inequalities.{IsInequality, inequality_at, inequality_rest_at}
use Rattle.trop_files.specs.InequalityFiles.{most_inequalities, next_inequality, no_inequality, Systems, InequalityFile, inequality_file_at, SpellsInequalities}
use Rattle.trop_spelling.specs.Over.{Embedding}
use Rattle.trop_reading.specs.Outcome.{IsFault}

-- What contracts see of a reader by lines: the whole text, the names of its header, the inequalities given so far, the
-- pieces behind them, and the fault that was answered.
pub record LineReader (V : Type 0) : Type 0 where
  pub bytes : List ℕ
  pub names : List (List ℕ)
  pub given : List (Inequality V)
  pub left : List Piece
  pub failed : Option Fault

-- the names and the inequalities given so far
abbrev pub file_given : {V : Type 0} → Embedding V → LineReader V → InequalityFile
file_given over reader = record { names = reader.names; inequalities = over Systems reader.given }

-- the reader stands behind the header of the bytes
pub record IsOpened {V : Type 0} (kind : RingKind) (text : List ℕ) (reader : LineReader V) : Type 0 where
  pub header : Header
  pub lines : List Piece
  pub whole : pieces_of text ≡ lines ++ reader.left
  pub is : IsHeader (codes "ineqs") lines header
  pub ring : header.ring ≡ kind
  pub names : reader.names ≡ header.names
  pub bytes : reader.bytes ≡ text
  pub given : reader.given ≡ []
  pub failed : reader.failed ≡ None

-- the next line is that of the inequality x, and the reader goes on behind it
pub record GivesLine {V : Type 0} (kind : RingKind) (R : Semiring V) (N : Numbering V) (old new : LineReader V)
    (x : Inequality V) : Type 0 where
  pub line : List Piece
  pub whole : old.left ≡ line ++ new.left
  pub is : IsInequality kind R N greatest_number old.names line x
  pub given : new ≡ record old { given = old.given ++ x ∷ []; left = new.left }

-- no line is left
abbrev pub IsAtEnd : {V : Type 0} → LineReader V → Type 0
IsAtEnd reader = reader.left ≡ InputEnd ∷ []

-- the next inequality, or none where no line is left
abbrev pub GivesNext : {V : Type 0} → RingKind → Semiring V → Numbering V → LineReader V → LineReader V →
    Option (Inequality V) → Type 0
GivesNext kind R N old new (Some x) = GivesLine kind R N old new x
GivesNext kind R N old new None = IsAtEnd old × (new ≡ old)

-- a fault is kept, and want of memory changes nothing
abbrev pub KeepsFault : {V : Type 0} → LineReader V → LineReader V → TextErr → Type 0
KeepsFault old new errors.NoMemory = new ≡ old
KeepsFault old new (errors.Fault f) = new ≡ record old { failed = Some f }

-- ---- reading

-- behind k inequalities: what the next line begins with, or none at the end of the input
abbrev pub next_start : {V : Type 0} → RingKind → Semiring V → Numbering V → List (List ℕ) → ℕ → Piece →
    Result (Option (Option (Start V))) FaultKind
next_start kind R N names k p =
    if nat_lt k most_inequalities then next_inequality kind R N names is_input_end [] p
    else passed (λ u. None) (no_inequality kind is_input_end p)

unfoldable pub line_rest_at : {V : Type 0} → RingKind → Semiring V → Numbering V → List (List ℕ) →
    Option (Option (Start V)) → List Piece → Reading Piece FaultKind (Option (Inequality V))
line_rest_at kind R N names None = gives None
line_rest_at kind R N names (Some start) = inequality_rest_at kind R N greatest_number names start >>= λ x.
    gives (Some x)

-- the inequality of the next line behind k inequalities
unfoldable pub line_at : {V : Type 0} → RingKind → Semiring V → Numbering V → List (List ℕ) → ℕ → List Piece →
    Reading Piece FaultKind (Option (Inequality V))
line_at kind R N names k = token_at Syntax (next_start kind R N names k) >>= line_rest_at kind R N names

-- the inequalities of the first k lines
unfoldable pub first_at : {V : Type 0} → RingKind → Semiring V → Numbering V → List (List ℕ) → ℕ → List Piece →
    Reading Piece FaultKind (List (Inequality V))
first_at kind R N names zero = gives []
first_at kind R N names (suc k) = first_at kind R N names k >>= λ xs. inequality_at kind R N greatest_number names
    >>= λ x. gives (xs ++ x ∷ [])

-- those behind the header
unfoldable pub first_lines_at : {V : Type 0} → RingKind → Semiring V → Numbering V → ℕ → List Piece →
    Reading Piece FaultKind (List (Inequality V))
first_lines_at kind R N k = header_at (codes "ineqs") >>= λ h. first_at kind R N h.names k

abbrev pub list_of : {A : Type 0} → Reading Piece FaultKind (List A) → List A
list_of (Ok x) = x.0
list_of (Err miss) = []

-- the first k inequalities of a text
abbrev pub first_of : {V : Type 0} → RingKind → Semiring V → Numbering V → ℕ → List ℕ → List (Inequality V)
first_of kind R N k bytes = list_of (first_lines_at kind R N k (pieces_of bytes))

-- the bytes begin with this header, and behind it these pieces stand
abbrev pub IsHeaded : List ℕ → Header → List Piece → Type 0
IsHeaded bytes header rest = header_at (codes "ineqs") (pieces_of bytes) ≡ Ok (header, rest)

-- behind the header of the bytes and k inequalities the pieces `left` stand
pub record IsBehind {V : Type 0} (kind : RingKind) (R : Semiring V) (N : Numbering V) (bytes : List ℕ)
    (names : List (List ℕ)) (k : ℕ) (left : List Piece) : Type 0 where
  pub header : Header
  pub body : List Piece
  pub headed : IsHeaded bytes header body
  pub ring : header.ring ≡ kind
  pub named : names ≡ header.names
  pub lines : first_at kind R N header.names k body ≡ Ok (first_of kind R N k bytes, left)

abbrev pub HasFault : List ℕ → Option Fault → Type 0
HasFault bytes (Some f) = IsFault SpellsInequalities inequality_file_at bytes f
HasFault bytes None = Unit {0}

-- what holds of a reader at every time
pub record IsSound {V : Type 0} (kind : RingKind) (R : Semiring V) (N : Numbering V) (bytes : List ℕ)
    (names : List (List ℕ)) (k : ℕ) (left : List Piece) (failed : Option Fault) : Type 0 where
  pub small : length bytes ≤ 2 ^ 31
  pub few : length names ≤ 63
  pub count : k ≤ most_inequalities
  pub behind : IsBehind kind R N bytes names k left
  pub fault : HasFault bytes failed
