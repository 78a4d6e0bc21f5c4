-- The pieces of a program, each with the counts of what stands before it.
use Rattle.std.specs.Prelude.{ℕ, ◌+◌, Bool, true, false, ◌||◌, ◌&&◌, not, List, [], ◌∷◌, codes, if◌then◌else◌}
use Rattle.std.specs.Str.{bytes_eq}
use Rattle.trop_text.specs.Name.{is_name}
use Rattle.trop_text.specs.Lexed.{are_digits}
use Rattle.trop_text.specs.Pieces.{Piece, Token, LineEnd, InputEnd, pieces_of}

-- the bytes of a token, and none of an end
abbrev pub text_of : Piece → List ℕ
text_of (Token t) = t.text
text_of (LineEnd line) = []
text_of InputEnd = []

abbrev pub is_line_end : Piece → Bool
is_line_end (LineEnd line) = true
is_line_end (Token t) = false
is_line_end InputEnd = false

abbrev pub is_input_end : Piece → Bool
is_input_end InputEnd = true
is_input_end (Token t) = false
is_input_end (LineEnd line) = false

-- what stands before a piece
pub record Before : Type 0 where
  -- the text of the last token
  pub last : List ℕ
  -- whether that token is the `(` behind `max` or `min`
  pub sums : Bool
  -- whether the declaration is not ended
  pub declares : Bool
  -- how many names the declaration has, and how many commas stand behind the last `[`
  pub names : ℕ
  pub commas : ℕ
  -- how many statements and atoms have begun
  pub statements : ℕ
  pub atoms : ℕ

pub record Counted : Type 0 where
  pub piece : Piece
  pub before : Before

abbrev pub text : Counted → List ℕ
text t = text_of t.piece

-- the ends of lines mean nothing
abbrev pub skipped : Counted → Bool
skipped t = is_line_end t.piece

-- whether it is this word or sign
abbrev pub says : List ℕ → Counted → Bool
says word t = bytes_eq (text t) word

abbrev pub is_digits : Counted → Bool
is_digits t = are_digits (text t)

abbrev pub is_variable : Counted → Bool
is_variable t = is_name (text t)

abbrev pub is_end : Counted → Bool
is_end t = is_input_end t.piece

-- what ends a program that is part of a text
abbrev pub closes : Counted → Bool
closes t = says (codes "end") t || says (codes "start") t || is_end t

-- an operand begins with digits, `-` or a name
abbrev pub begins_operand : Counted → Bool
begins_operand t = is_digits t || says (codes "-") t || is_variable t

-- a set begins with a name, behind one of these
abbrev pub is_fresh : List ℕ → Bool
is_fresh last = bytes_eq last (codes ";") || bytes_eq last (codes "{") || bytes_eq last (codes "}")

abbrev pub begins_statement : Counted → Bool
begins_statement t =
    says (codes "havoc") t || says (codes "assume") t || says (codes "assert") t || says (codes "if") t || says
    (codes "while") t || says (codes "skip") t
    || is_variable t && is_fresh t.before.last

-- an atom begins with `?` or an operand, behind one of these, of which `(` opens no list of a side
abbrev pub is_asking : List ℕ → Bool
is_asking last =
    bytes_eq last (codes "assume") || bytes_eq last (codes "if") || bytes_eq last (codes "while") || bytes_eq last
    (codes "!")
    || bytes_eq last (codes "(") || bytes_eq last (codes "&&") || bytes_eq last (codes "||")

abbrev pub begins_atom : Counted → Bool
begins_atom t = (says (codes "?") t || begins_operand t) && is_asking t.before.last && not t.before.sums

-- ---- counting

abbrev pub one_more : Bool → ℕ → ℕ
one_more true n = n + 1
one_more false n = n

abbrev pub last_text : List ℕ → Piece → List ℕ
last_text last (Token t) = t.text
last_text last (LineEnd line) = last
last_text last InputEnd = last

abbrev pub is_sum_word : List ℕ → Bool
is_sum_word word = bytes_eq word (codes "max") || bytes_eq word (codes "min")

abbrev pub sums_after : Before → Piece → Bool
sums_after b (Token t) = bytes_eq t.text (codes "(") && is_sum_word b.last
sums_after b (LineEnd line) = b.sums
sums_after b InputEnd = b.sums

-- `;` ends the declaration
abbrev pub until_end : Bool → List ℕ → Bool
until_end b text = if bytes_eq text (codes ";") then false else b

abbrev pub commas_after : ℕ → List ℕ → ℕ
commas_after n text = if bytes_eq text (codes "[") then 0 else one_more (bytes_eq text (codes ",")) n

-- what stands before the piece that follows
abbrev pub behind : Counted → Before
behind t = record {
  last = last_text t.before.last t.piece;
  sums = sums_after t.before t.piece;
  declares = until_end t.before.declares (text t);
  names = one_more (t.before.declares && is_variable t) t.before.names;
  commas = commas_after t.before.commas (text t);
  statements = one_more (begins_statement t) t.before.statements;
  atoms = one_more (begins_atom t) t.before.atoms;
}

abbrev pub nothing_before : Before
nothing_before = record { last = []; sums = false; declares = true; names = 0; commas = 0; statements = 0; atoms = 0 }

-- pieces, each with what stands before it
unfoldable pub counted : Before → List Piece → List Counted
counted b [] = []
counted b (p ∷ ps) = let t : Counted = record { piece = p; before = b } in t ∷ counted (behind t) ps

-- the counted pieces of a text
abbrev pub program_pieces : List ℕ → List Counted
program_pieces bytes = counted nothing_before (pieces_of bytes)
