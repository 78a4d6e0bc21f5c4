-- Headers and files are read right.
use Rattle.std.proofs.Common.{◌≡◌, ℕ, List, ◌∷◌, codes, Bool, true, Ok, refl, length}
use Rattle.trop_theory.specs.Semiring.{Semiring}
use Rattle.trop_theory.specs.Numbers.{Numbering}
use Rattle.trop_grammar.specs.Reading.{gives}
use Rattle.trop_grammar.specs.Grammar.{Empty, Then}
use Rattle.trop_grammar.specs.Reads.{Reads, Anything}
use Rattle.trop_grammar.proofs.Ends.{EndsWith, EndsWith-then, EndsWith-gives, EndsWith-listed}
use Rattle.trop_grammar.proofs.Laws.{Reads-then, Reads-gives}
use Rattle.trop_grammar.proofs.ListLaws.{Reads-judged, Reads-list, AreParts, parts_of}
use Rattle.trop_text.specs.Pieces.{Piece, LineEnd, InputEnd}
use Rattle.trop_text.specs.declared.fault.FaultKind.TheVariants.{Syntax}
use Rattle.trop_spelling.specs.declared.ring_kind.RingKind.{RingKind}
use Rattle.trop_spelling.specs.declared.ring_kind.RingKind.TheVariants.{Max as MaxKind}
use Rattle.trop_reading.specs.Words.{is_input_end}
use Rattle.trop_files.specs.Header.{Header, IsKindLine, IsSemiringLine, IsHeader, kind_line_at, semiring_line_at, kind_word, semiring_word, vars_word, is_line_end, new_name, past_names, next_name, no_name, most_names, IsName, AreNamesInLine, name_at, names_at, header_at}
use Rattle.trop_files.specs.Generators.{generator_word, past_generators, next_generator, no_generator, IsGenerator, AreGeneratorLines, AreGenerators, generator_at, generator_lines_at, generators_at, greatest_number, most_generators, kept, AreGeneratorsOf, SpellsGenerators, generators_of_at, generator_file, generator_file_at}
use Rattle.trop_files.specs.Files.{SpellsFile, file_rest_at, file_at}
use Rattle.trop_spelling.specs.Over.{Over, Grammars, InKind, Readings}
use Rattle.trop_spelling.proofs.EachKind.{Reads-in_kind, EndsWith-in_kind}
use Rattle.trop_reading.proofs.Samples.{sample, said_reads, IsInputEnd, line_end_reads, only_at_end}
use Rattle.trop_spelling.proofs.ElementLaws.{row_reads}

names_parts : AreParts next_name name_at (λ names. no_name) IsName
unfolding name_at
names_parts = parts_of is_line_end new_name past_names (λ names name. gives name) IsName (LineEnd 1) refl
    (λ names name. Reads-gives name)

pub names_reads : Reads Anything names_at AreNamesInLine
unfolding names_at
names_reads = Reads-list Syntax next_name name_at (λ names. no_name) IsName names_parts most_names

kind_line_reads : (kind : List ℕ) → kind_word kind (sample kind) ≡ Ok tt →
    Reads Anything (kind_line_at kind) (IsKindLine kind)
unfolding kind_line_at
kind_line_reads kind e = Reads-then (said_reads (codes "kind") refl)
    (λ a. Reads-then (Reads-judged Syntax (kind_word kind) (sample kind) tt e) (λ b. line_end_reads))

semiring_line_reads : Reads Anything semiring_line_at IsSemiringLine
unfolding semiring_line_at
semiring_line_reads = Reads-then (said_reads (codes "semiring") refl)
    (λ a. Reads-then (Reads-judged Syntax semiring_word (sample (codes "max")) MaxKind refl)
    (λ ring. Reads-then line_end_reads (λ b. Reads-gives ring)))

pub header_reads : (kind : List ℕ) → kind_word kind (sample kind) ≡ Ok tt →
    Reads Anything (header_at kind) (IsHeader kind)
unfolding header_at
header_reads kind e =
    Reads-then (kind_line_reads kind e) (λ a. Reads-then semiring_line_reads (λ ring.
    Reads-then (Reads-judged Syntax vars_word (sample (codes "vars")) 1 refl)
    (λ line. Reads-then names_reads (λ names. Reads-gives
    (record { ring = ring; names = names; vars_line = line })))))

-- ---- generators

module _ {V : Type 0} (kind : RingKind) (R : Semiring V) (N : Numbering V) (vars : ℕ) where
  generator_reads : (first : V) → Reads Anything (generator_at kind R N vars first) (IsGenerator kind R N vars first)
  unfolding generator_at
  generator_reads first = Reads-then (row_reads R N greatest_number kind vars)
      (λ row. Reads-then line_end_reads (λ u. Reads-gives (first ∷ row)))

  generator_lines_reads : (ends : Piece → Bool) (end : Piece) → ends end ≡ true →
      Reads Anything (generator_lines_at kind R N vars ends) (AreGeneratorLines kind R N vars ends)
  unfolding generator_lines_at
  generator_lines_reads ends end e =
      Reads-list Syntax (next_generator R ends) (λ rows. generator_at kind R N vars) (λ rows. no_generator ends)
      (λ rows. IsGenerator kind R N vars)
      (parts_of ends (λ rows. generator_word R) past_generators (λ rows. generator_at kind R N vars)
      (λ rows. IsGenerator kind R N vars) end e (λ rows. generator_reads)) most_generators

  pub generators_reads : (ends : Piece → Bool) (end : Piece) → ends end ≡ true →
      Reads Anything (generators_at kind R N vars ends) (AreGenerators kind R N vars ends)
  unfolding generators_at
  generators_reads ends end e = Reads-then (generator_lines_reads ends end e) (λ rows. Reads-gives (kept N rows))

-- ---- files

module _ {F : Type 0 → Type 0} {A : Type 0} (read : Header → Readings F) (G : Header → Grammars F)
    (file : Header → Over F → A) where
  rest_reads : (each : (h : Header) (V : Type 0) (kind : RingKind) (R : Semiring V) (N : Numbering V) →
      Reads Anything (read h V kind R N) (G h V kind R N)) → (h : Header) →
      Reads Anything (file_rest_at read file h) (Then (InKind (G h) h.ring) (λ body. Empty (file h body)))
  unfolding file_rest_at
  rest_reads each h = Reads-then (Reads-in_kind (read h) (G h) (each h) h.ring) (λ body. Reads-gives (file h body))

  -- a file is read right if what stands behind its header is
  pub Reads-file : (kind : List ℕ) → kind_word kind (sample kind) ≡ Ok tt →
      ((h : Header) (V : Type 0) (kind : RingKind) (R : Semiring V) (N : Numbering V) →
      Reads Anything (read h V kind R N) (G h V kind R N)) →
      Reads Anything (file_at kind read file) (SpellsFile kind G file)
  unfolding file_at
  Reads-file kind e each = Reads-then (header_reads kind e) (rest_reads each)

-- it ends as what stands behind its header does
pub EndsWith-file : {F : Type 0 → Type 0} {A : Type 0} {E : Piece → Type 0} (kind : List ℕ) (G : Header → Grammars F)
    (file : Header → Over F → A) → ((h : Header) (V : Type 0) (kind : RingKind) (R : Semiring V) (N : Numbering V) →
    EndsWith E (G h V kind R N)) → EndsWith E (SpellsFile kind G file)
EndsWith-file kind G file each = EndsWith-then (λ h. EndsWith-gives (EndsWith-in_kind (G h) (each h) h.ring))

-- ---- files of generators

pub generator_file_reads : Reads Anything generator_file_at SpellsGenerators
generator_file_reads = Reads-file generators_of_at AreGeneratorsOf generator_file (codes "gens") refl
    (λ h V kind R N. generators_reads kind R N (length h.names) is_input_end InputEnd refl)

-- ---- each file ends with the end of the input

pub generators_end : {V : Type 0} (kind : RingKind) (R : Semiring V) (N : Numbering V) (vars : ℕ) →
    EndsWith IsInputEnd (AreGenerators kind R N vars is_input_end)
generators_end kind R N vars = EndsWith-gives (EndsWith-listed
    (λ rows t h. only_at_end (is_input_end t) (generator_word R t) h))

pub generator_file_ends : EndsWith IsInputEnd SpellsGenerators
generator_file_ends = EndsWith-file (codes "gens") AreGeneratorsOf generator_file
    (λ h V kind R N. generators_end kind R N (length h.names))
