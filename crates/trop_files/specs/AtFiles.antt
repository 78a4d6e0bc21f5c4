-- Files of a vector with inequalities.
use Rattle.std.specs.Prelude.{ℕ, ◌+◌, List, length, codes}
use Rattle.trop_theory.specs.Semiring.{Semiring}
use Rattle.trop_theory.specs.Numbers.{Numbering}
use Rattle.trop_theory.specs.Inequalities.{Inequality}
use Rattle.trop_grammar.specs.Reading.{Reading, ◌>>=◌, gives, token_at}
use Rattle.trop_grammar.specs.Grammar.{One, Empty, Then}
use Rattle.trop_grammar.specs.Lists.{Passes}
use Rattle.trop_text.specs.Pieces.{Piece}
use Rattle.trop_text.specs.declared.fault.FaultKind.{FaultKind}
use Rattle.trop_text.specs.declared.fault.FaultKind.TheVariants.{Syntax}
use Rattle.trop_files.specs.declared.list_end.ListEnd.TheVariants.{At as AtWord}
use Rattle.trop_files.specs.ListEnds.{ends}
use Rattle.trop_spelling.specs.declared.ring_kind.RingKind.{RingKind}
use Rattle.trop_reading.specs.Words.{line_end, input_end}
use Rattle.trop_spelling.specs.Elements.{IsRow, row_at}
use Rattle.trop_spelling.specs.Over.{Over, Grammars, Readings}
use Rattle.trop_files.specs.Header.{Header}
use Rattle.trop_files.specs.Files.{SpellsFile, file_at}
use Rattle.trop_files.specs.Generators.{greatest_number}
use Rattle.trop_files.specs.InequalityFiles.{AreInequalities, inequalities_at}

-- inequalities and a vector
pub record At (V : Type 0) : Type 0 where
  pub inequalities : List (Inequality V)
  pub row : List V

-- what a file of a vector with inequalities says
pub record AtText : Type 0 where
  pub names : List (List ℕ)
  pub body : Over At

-- Lines of inequalities up to the word `at`, the vector with an element for each variable and one in front for
-- coordinate 0, and the end of the input.
abbrev pub IsAt : {V : Type 0} → RingKind → Semiring V → Numbering V → List (List ℕ) → List Piece → At V → Type 0
IsAt kind R N names =
    Then (AreInequalities kind R N names (ends AtWord))
    (λ xs. Then (IsRow kind R N greatest_number (length names + 1))
    (λ row. Then (One (Passes line_end)) (λ u. Then (One (Passes input_end))
    (λ v. Empty (record { inequalities = xs; row = row })))))

abbrev pub at_file : Header → Over At → AtText
at_file h body = record { names = h.names; body = body }

abbrev pub IsAtOf : Header → Grammars At
IsAtOf h V kind R N = IsAt kind R N h.names

-- a header and what it is the header of
abbrev pub SpellsAt : List Piece → AtText → Type 0
SpellsAt = SpellsFile (codes "at") IsAtOf at_file

-- ---- reading

unfoldable pub at_body_at : {V : Type 0} → RingKind → Semiring V → Numbering V → List (List ℕ) → List Piece →
    Reading Piece FaultKind (At V)
at_body_at kind R N names =
    inequalities_at kind R N names (ends AtWord) >>= λ xs. row_at kind R N greatest_number (length names + 1) >>= λ row.
    token_at Syntax line_end >>= λ u. token_at Syntax input_end >>= λ v.
    gives (record { inequalities = xs; row = row })

abbrev pub at_of_at : Header → Readings At
at_of_at h V kind R N = at_body_at kind R N h.names

abbrev pub at_file_at : List Piece → Reading Piece FaultKind AtText
at_file_at = file_at (codes "at") at_of_at at_file
