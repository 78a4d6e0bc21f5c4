-- What a single piece may be: judges, which let a piece pass with a value or say what is wrong with it.
use Rattle.std.specs.Prelude.{ℕ, Bool, true, false, List, [], Result, Ok, Err, nat_le, if◌then◌else◌}
use Rattle.std.specs.Str.{bytes_eq}
use Rattle.trop_text.specs.Digits.{number_of}
use Rattle.trop_text.specs.Pieces.{Piece, Token, LineEnd, InputEnd}
use Rattle.trop_text.specs.declared.token.TokenKind.{TokenKind}
use Rattle.trop_text.specs.declared.token.TokenKind.TheVariants.{Word, Digits, Sign, Bad}
use Rattle.trop_text.specs.declared.fault.FaultKind.{FaultKind}
use Rattle.trop_text.specs.declared.fault.FaultKind.TheVariants.{Syntax, NumberRange}

-- the bytes of a token, and none of an end
abbrev pub text_of : Piece → List ℕ
text_of (Token t) = t.text
text_of (LineEnd line) = []
text_of InputEnd = []

-- the line of a piece; the end of the input has none
abbrev pub line_of_piece : Piece → ℕ
line_of_piece (Token t) = t.line
line_of_piece (LineEnd line) = line
line_of_piece InputEnd = 0

-- whether the piece is this word or sign
abbrev pub says : List ℕ → Piece → Bool
says text p = bytes_eq (text_of p) text

-- this word or sign
abbrev pub said : List ℕ → Piece → Result (Unit {0}) FaultKind
said text p = if says text p then Ok tt else Err Syntax

-- the end of a line
abbrev pub line_end : Piece → Result (Unit {0}) FaultKind
line_end (LineEnd line) = Ok tt
line_end (Token t) = Err Syntax
line_end InputEnd = Err Syntax

abbrev pub is_input_end : Piece → Bool
is_input_end InputEnd = true
is_input_end (Token t) = false
is_input_end (LineEnd line) = false

abbrev pub is_digits_kind : TokenKind → Bool
is_digits_kind Digits = true
is_digits_kind Word = false
is_digits_kind Sign = false
is_digits_kind Bad = false

abbrev pub is_digits : Piece → Bool
is_digits (Token t) = is_digits_kind t.kind
is_digits (LineEnd line) = false
is_digits InputEnd = false

-- the end of the input
abbrev pub input_end : Piece → Result (Unit {0}) FaultKind
input_end p = if is_input_end p then Ok tt else Err Syntax

-- digits of a value that is at most the bound
unfoldable pub number : ℕ → Piece → Result ℕ FaultKind
number bound p =
    if is_digits p then (if nat_le (number_of (text_of p)) bound then Ok (number_of (text_of p)) else Err NumberRange)
    else Err Syntax

-- the value that stands for what was let pass
abbrev pub passed : {A B : Type 0} → (A → B) → Result A FaultKind → Result B FaultKind
passed f (Ok x) = Ok (f x)
passed f (Err what) = Err what
