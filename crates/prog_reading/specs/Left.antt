-- What is left of a program.
use Rattle.std.specs.Prelude.{◌≡◌, ℕ, List, [], ◌∷◌, Option, MatchOption}
use Rattle.trop_text.specs.Pieces.{piece_of, pieces_left, pieces_source}
use Rattle.prog_texts.specs.Words as spec
use Rattle.prog_texts.specs.Words.{Counted, counted}
use Rattle.prog_reading.specs.declared.before.Before.{Before}
use Rattle.prog_reading.specs.declared.before.Entry.{Entry}
use Rattle.prog_reading.specs.declared.at.At.{At}

-- what the program knows of the text before a piece
abbrev pub before_of : Before → spec.Before
before_of b = record {
  last = b.last.now;
  sums = b.sums;
  declares = b.declares;
  names = b.names;
  commas =
      b.commas;
  statements = b.statements;
  atoms = b.atoms;
}

-- a piece that the program holds
abbrev pub entry_of : Entry → Counted
entry_of e = record { piece = piece_of e.piece; before = before_of e.before }

-- the pieces that are still to come
abbrev pub left : At → List Counted
left at = counted (before_of at.before) (pieces_left at.pieces)

-- the first of the old pieces is given, and the others are left
abbrev pub GivesEntry : List Counted → Option (Entry × At) → Type 0
GivesEntry old given = MatchOption given (old ≡ []) (λ x. old ≡ entry_of x.0 ∷ left x.1)

-- the bytes of which the pieces are
abbrev pub source_of : At → List ℕ
source_of at = pieces_source at.pieces
