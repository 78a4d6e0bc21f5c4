-- The lines of generators, and the files of them.
use Rattle.std.specs.Prelude.{ℕ, Bool, ◌||◌, List, [], ◌∷◌, length, filter, codes, Option, Result, Ok, Err, if◌then◌else◌}
use Rattle.std.specs.Option.{is_some}
use Rattle.std.specs.List.{list_any}
use Rattle.trop_theory.specs.Semiring.{Semiring}
use Rattle.trop_theory.specs.Numbers.{Numbering}
use Rattle.trop_grammar.specs.Reading.{Reading, ◌>>=◌, gives, token_at}
use Rattle.trop_grammar.specs.Grammar.{One, Empty, Then}
use Rattle.trop_grammar.specs.Lists.{Passes, next_or_end, only_end, Item, EndsList, Listed, list_at}
use Rattle.trop_text.specs.Pieces.{Piece}
use Rattle.trop_text.specs.declared.fault.FaultKind.{FaultKind}
use Rattle.trop_text.specs.declared.fault.FaultKind.TheVariants.{Syntax, TooManyLines}
use Rattle.trop_spelling.specs.declared.ring_kind.RingKind.{RingKind}
use Rattle.trop_reading.specs.Words.{says, line_end, is_input_end}
use Rattle.trop_spelling.specs.Elements.{IsRow, row_at}
use Rattle.trop_spelling.specs.Over.{Over, Grammars, Readings}
use Rattle.trop_files.specs.Header.{Header}
use Rattle.trop_files.specs.Files.{SpellsFile, file_at}

-- the greatest size of a number in a file
abbrev pub greatest_number : ℕ
greatest_number = 1099511627776

-- the most lines of generators in one list
abbrev pub most_generators : ℕ
most_generators = 4096

-- ---- a list of generators

-- `point` or `ray`, as the entry at coordinate 0
unfoldable pub generator_word : {V : Type 0} → Semiring V → Piece → Result V FaultKind
generator_word R p = if says (codes "point") p then Ok R.one else
    (if says (codes "ray") p then Ok R.zero else Err Syntax)

-- what is wrong with a further line, or with what is none
unfoldable pub past_generators : Piece → FaultKind
past_generators p = if says (codes "point") p || says (codes "ray") p then TooManyLines else Syntax

-- a line of a generator, or the token that ends the list
abbrev pub next_generator : {V : Type 0} → Semiring V → (Piece → Bool) → List (List V) → Piece →
    Result (Option V) FaultKind
next_generator R ends rows p = next_or_end (ends p) (generator_word R p)

abbrev pub no_generator : (Piece → Bool) → Piece → Result (Unit {0}) FaultKind
no_generator ends p = only_end (ends p) (past_generators p)

-- the other entries in a row, and the end of the line
abbrev pub IsGenerator : {V : Type 0} → RingKind → Semiring V → Numbering V → ℕ → V → List Piece → List V → Type 0
IsGenerator kind R N vars first = Then (IsRow kind R N greatest_number vars)
    (λ row. Then (One (Passes line_end)) (λ u. Empty (first ∷ row)))

-- lines of generators, 4,096 at most, up to a token that ends them
abbrev pub AreGeneratorLines : {V : Type 0} → RingKind → Semiring V → Numbering V → ℕ → (Piece → Bool) → List Piece →
    List (List V) → Type 0
AreGeneratorLines kind R N vars ends = Listed (Item (next_generator R ends) (λ rows. IsGenerator kind R N vars))
    (EndsList (next_generator R ends)) most_generators

abbrev pub is_finite : {V : Type 0} → Numbering V → V → Bool
is_finite N x = is_some (N.to x)

-- the vectors that have a finite element
abbrev pub kept : {V : Type 0} → Numbering V → List (List V) → List (List V)
kept N rows = filter (λ row. list_any (is_finite N) row) rows

-- The vectors of lines of generators. A line whose elements are all the zero adds nothing.
abbrev pub AreGenerators : {V : Type 0} → RingKind → Semiring V → Numbering V → ℕ → (Piece → Bool) → List Piece →
    List (List V) → Type 0
AreGenerators kind R N vars ends = Then (AreGeneratorLines kind R N vars ends) (λ rows. Empty (kept N rows))

-- ---- reading

unfoldable pub generator_at : {V : Type 0} → RingKind → Semiring V → Numbering V → ℕ → V → List Piece →
    Reading Piece FaultKind (List V)
generator_at kind R N vars first = row_at kind R N greatest_number vars >>= λ row. token_at Syntax line_end >>= λ u.
    gives (first ∷ row)

unfoldable pub generator_lines_at : {V : Type 0} → RingKind → Semiring V → Numbering V → ℕ → (Piece → Bool) →
    List Piece → Reading Piece FaultKind (List (List V))
generator_lines_at kind R N vars ends = list_at Syntax (next_generator R ends) (λ rows. generator_at kind R N vars)
    (λ rows. no_generator ends) most_generators []

unfoldable pub generators_at : {V : Type 0} → RingKind → Semiring V → Numbering V → ℕ → (Piece → Bool) → List Piece →
    Reading Piece FaultKind (List (List V))
generators_at kind R N vars ends = generator_lines_at kind R N vars ends >>= λ rows. gives (kept N rows)

-- ---- files of generators

-- lists of vectors
abbrev pub Rows : Type 0 → Type 0
Rows V = List (List V)

-- what a file of generators says; each row has coordinate 0 in front
pub record GeneratorFile : Type 0 where
  pub names : List (List ℕ)
  pub vars_line : ℕ
  pub rows : Over Rows

abbrev pub generator_file : Header → Over Rows → GeneratorFile
generator_file h rows = record { names = h.names; vars_line = h.vars_line; rows = rows }

-- lines of generators in the variables of the header, up to the end of the input
abbrev pub AreGeneratorsOf : Header → Grammars Rows
AreGeneratorsOf h V kind R N = AreGenerators kind R N (length h.names) is_input_end

abbrev pub SpellsGenerators : List Piece → GeneratorFile → Type 0
SpellsGenerators = SpellsFile (codes "gens") AreGeneratorsOf generator_file

abbrev pub generators_of_at : Header → Readings Rows
generators_of_at h V kind R N = generators_at kind R N (length h.names) is_input_end

abbrev pub generator_file_at : List Piece → Reading Piece FaultKind GeneratorFile
generator_file_at = file_at (codes "gens") generators_of_at generator_file
