-- Single tokens are read right.
use Rattle.std.proofs.Common.{◌≡◌, Bool, true, false, ℕ, List, codes, None, Result, Ok, Err, refl}
use Rattle.trop_grammar.specs.Reading.{token_at}
use Rattle.trop_grammar.specs.Grammar.{One}
use Rattle.trop_grammar.specs.Reads.{Reads, Anything}
use Rattle.trop_grammar.specs.Lists.{Passes, next_or_end}
use Rattle.trop_grammar.proofs.ListLaws.{Reads-judged}
use Rattle.trop_text.specs.Pieces.{Piece, Token, LineEnd}
use Rattle.trop_text.specs.declared.token.TokenKind.TheVariants.{Word, Digits}
use Rattle.trop_text.specs.declared.fault.FaultKind.{FaultKind}
use Rattle.trop_text.specs.declared.fault.FaultKind.TheVariants.{Syntax}
use Rattle.trop_reading.specs.Words.{said, line_end, is_input_end}

-- some token with this text
abbrev pub sample : List ℕ → Piece
sample text = Token (record { kind = Word; text = text; line = 1; column = 1 })

abbrev pub nought : Piece
nought = Token (record { kind = Digits; text = codes "0"; line = 1; column = 1 })

pub said_reads : (text : List ℕ) (e : said text (sample text) ≡ Ok tt) →
    Reads Anything (token_at Syntax (said text)) (One (Passes (said text)))
said_reads text e = Reads-judged Syntax (said text) (sample text) tt e

pub line_end_reads : Reads Anything (token_at Syntax line_end) (One (Passes line_end))
line_end_reads = Reads-judged Syntax line_end (LineEnd 1) tt refl

-- ---- what ends a list

abbrev pub IsInputEnd : Piece → Type 0
IsInputEnd p = is_input_end p ≡ true

pub only_at_end : {V : Type 0} (b : Bool) (word : Result V FaultKind) → next_or_end b word ≡ Ok None → b ≡ true
only_at_end true word h = refl
only_at_end false (Ok x) h = absurd cc
only_at_end false (Err what) h = absurd cc
