-- Files of two lists of generators.
use Rattle.std.specs.Prelude.{ℕ, List, length, codes}
use Rattle.trop_theory.specs.Semiring.{Semiring}
use Rattle.trop_theory.specs.Numbers.{Numbering}
use Rattle.trop_grammar.specs.Reading.{Reading, ◌>>=◌, gives, token_at}
use Rattle.trop_grammar.specs.Grammar.{One, Empty, Then}
use Rattle.trop_grammar.specs.Lists.{Passes}
use Rattle.trop_text.specs.Pieces.{Piece}
use Rattle.trop_text.specs.declared.fault.FaultKind.{FaultKind}
use Rattle.trop_text.specs.declared.fault.FaultKind.TheVariants.{Syntax}
use Rattle.trop_files.specs.declared.list_end.ListEnd.TheVariants.{And, Input}
use Rattle.trop_files.specs.ListEnds.{ends}
use Rattle.trop_spelling.specs.declared.ring_kind.RingKind.{RingKind}
use Rattle.trop_reading.specs.Words.{line_end}
use Rattle.trop_spelling.specs.Over.{Over, Grammars, Readings}
use Rattle.trop_files.specs.Header.{Header}
use Rattle.trop_files.specs.Files.{SpellsFile, file_at}
use Rattle.trop_files.specs.Generators.{AreGenerators, generators_at}

-- two lists of vectors
pub record Two (V : Type 0) : Type 0 where
  pub left : List (List V)
  pub right : List (List V)

-- what a file of two lists says
pub record TwoFile : Type 0 where
  pub names : List (List ℕ)
  pub lists : Over Two

-- lines of generators up to a line with the word `and` alone, and lines of generators up to the end of the input
abbrev pub AreTwo : {V : Type 0} → RingKind → Semiring V → Numbering V → ℕ → List Piece → Two V → Type 0
AreTwo kind R N vars =
    Then (AreGenerators kind R N vars (ends And)) (λ left. Then (One (Passes line_end))
    (λ u. Then (AreGenerators kind R N vars (ends Input)) (λ right. Empty (record { left = left; right = right }))))

abbrev pub two_file : Header → Over Two → TwoFile
two_file h lists = record { names = h.names; lists = lists }

abbrev pub AreTwoOf : Header → Grammars Two
AreTwoOf h V kind R N = AreTwo kind R N (length h.names)

-- a header and the two lists
abbrev pub SpellsTwo : List Piece → TwoFile → Type 0
SpellsTwo = SpellsFile (codes "pair") AreTwoOf two_file

-- ---- reading

unfoldable pub two_at : {V : Type 0} → RingKind → Semiring V → Numbering V → ℕ → List Piece →
    Reading Piece FaultKind (Two V)
two_at kind R N vars =
    generators_at kind R N vars (ends And) >>= λ left. token_at Syntax line_end >>= λ u. generators_at kind R N vars
    (ends Input) >>= λ right. gives (record { left = left; right = right })

abbrev pub two_of_at : Header → Readings Two
two_of_at h V kind R N = two_at kind R N (length h.names)

abbrev pub two_file_at : List Piece → Reading Piece FaultKind TwoFile
two_file_at = file_at (codes "pair") two_of_at two_file
