-- Lines of inequalities, and the files of them.
use Rattle.std.specs.Prelude.{ℕ, Bool, ◌||◌, List, [], codes, Option, Result, if◌then◌else◌}
use Rattle.trop_theory.specs.Semiring.{Semiring}
use Rattle.trop_theory.specs.Numbers.{Numbering}
use Rattle.trop_theory.specs.Inequalities.{Inequality}
use Rattle.trop_grammar.specs.Reading.{Reading}
use Rattle.trop_grammar.specs.Lists.{next_or_end, only_end, Item, EndsList, Listed, list_at}
use Rattle.trop_text.specs.Name.{is_name}
use Rattle.trop_text.specs.Pieces.{Piece}
use Rattle.trop_text.specs.declared.fault.FaultKind.{FaultKind}
use Rattle.trop_text.specs.declared.fault.FaultKind.TheVariants.{Syntax, TooManyLines}
use Rattle.trop_spelling.specs.declared.terms.Start.{Start}
use Rattle.trop_spelling.specs.declared.ring_kind.RingKind.{RingKind}
use Rattle.trop_spelling.specs.Spelling.{sum_word}
use Rattle.trop_reading.specs.Words.{text_of, says, is_digits, is_input_end}
use Rattle.trop_spelling.specs.Over.{Over, Grammars, Readings}
use Rattle.trop_files.specs.Header.{Header}
use Rattle.trop_files.specs.Files.{SpellsFile, file_at}
use Rattle.trop_spelling.specs.declared.ring_kind.RingKind.TheVariants.{Max as MaxKind, Min as MinKind, Bool as BoolKind}
use Rattle.trop_files.specs.Generators.{greatest_number}
use Rattle.trop_spelling.specs.Inequalities.{side_start, IsInequalityRest, inequality_rest_at}

-- the most lines of inequalities in a file
abbrev pub most_inequalities : ℕ
most_inequalities = 1024

-- whether a constant can begin with the piece
abbrev pub begins_constant : RingKind → Piece → Bool
begins_constant MaxKind p = is_digits p || says (codes "-") p
begins_constant MinKind p = is_digits p || says (codes "-") p || says (codes "oo") p
begins_constant BoolKind p = says (codes "true") p || says (codes "false") p

-- A further line, or what is none: a line may begin with a constant of any size, with the sum word, and with any name.
abbrev pub begins_line : RingKind → Piece → Bool
begins_line kind p = says (sum_word kind) p || begins_constant kind p || is_name (text_of p)

unfoldable pub past_inequalities : RingKind → Piece → FaultKind
past_inequalities kind p = if begins_line kind p then TooManyLines else Syntax

-- a line of an inequality, or the token that ends the list
abbrev pub next_inequality : {V : Type 0} → RingKind → Semiring V → Numbering V → List (List ℕ) → (Piece → Bool) →
    List (Inequality V) → Piece → Result (Option (Option (Start V))) FaultKind
next_inequality kind R N names ends before p = next_or_end (ends p) (side_start kind R N greatest_number names p)

abbrev pub no_inequality : RingKind → (Piece → Bool) → Piece → Result (Unit {0}) FaultKind
no_inequality kind ends p = only_end (ends p) (past_inequalities kind p)

-- lines of inequalities, 1,024 at most, up to a token that ends them
abbrev pub AreInequalities : {V : Type 0} → RingKind → Semiring V → Numbering V → List (List ℕ) → (Piece → Bool) →
    List Piece → List (Inequality V) → Type 0
AreInequalities kind R N names ends =
    Listed (Item (next_inequality kind R N names ends) (λ before. IsInequalityRest kind R N greatest_number names))
    (EndsList (next_inequality kind R N names ends)) most_inequalities

unfoldable pub inequalities_at : {V : Type 0} → RingKind → Semiring V → Numbering V → List (List ℕ) → (Piece → Bool) →
    List Piece → Reading Piece FaultKind (List (Inequality V))
inequalities_at kind R N names ends =
    list_at Syntax (next_inequality kind R N names ends) (λ before. inequality_rest_at kind R N greatest_number names)
    (λ before. no_inequality kind ends) most_inequalities []

-- ---- files of inequalities

abbrev pub Systems : Type 0 → Type 0
Systems V = List (Inequality V)

-- what a file of inequalities says
pub record InequalityFile : Type 0 where
  pub names : List (List ℕ)
  pub inequalities : Over Systems

abbrev pub inequality_file : Header → Over Systems → InequalityFile
inequality_file h xs = record { names = h.names; inequalities = xs }

-- lines of inequalities in the variables of the header, up to the end of the input
abbrev pub AreInequalitiesOf : Header → Grammars Systems
AreInequalitiesOf h V kind R N = AreInequalities kind R N h.names is_input_end

abbrev pub SpellsInequalities : List Piece → InequalityFile → Type 0
SpellsInequalities = SpellsFile (codes "ineqs") AreInequalitiesOf inequality_file

abbrev pub inequalities_of_at : Header → Readings Systems
inequalities_of_at h V kind R N = inequalities_at kind R N h.names is_input_end

abbrev pub inequality_file_at : List Piece → Reading Piece FaultKind InequalityFile
inequality_file_at = file_at (codes "ineqs") inequalities_of_at inequality_file
