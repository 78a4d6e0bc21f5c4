-- What the command `reduce` means.
use Rattle.std.specs.Prelude.{◌+◌, ℕ, List, length}
use Rattle.trop_theory.specs.Semiring.{Semiring}
use Rattle.trop_theory.specs.Numbers.{Numbering}
use Rattle.trop_theory.specs.Combinations.{IsCombination}
use Rattle.trop_text.specs.Pieces.{pieces_of}
use Rattle.trop_spelling.specs.declared.ring_kind.RingKind.{RingKind}
use Rattle.trop_spelling.specs.Over.{Holds}
use Rattle.trop_reading.specs.Outcome.{IsFault}
use Rattle.trop_files.specs.Generators.{GeneratorFile, SpellsGenerators, generator_file_at}
use Rattle.tplib_reply.specs.Meaning.{Meaning, never, always_yes}
use Rattle.tplib_cones.specs.ConeFiles.{IsConeFile}

-- the text is the file of the canonical list of the combinations of the rows
abbrev pub IsReduced : {V : Type 0} → RingKind → Semiring V → Numbering V → List (List ℕ) → List (List V) → List ℕ →
    Type 0
IsReduced kind R N names rows text = IsConeFile kind R N names (IsCombination R (length names + 1) rows) text

-- the same in the semiring of the file
abbrev pub IsReducedFile : GeneratorFile → List ℕ → Type 0
IsReducedFile file text = Holds (λ V kind R N rows. IsReduced kind R N file.names rows text) file.rows

abbrev pub reduce_meaning : Meaning GeneratorFile
reduce_meaning = record {
  spells = λ bytes file. SpellsGenerators (pieces_of bytes) file;
  faulty = IsFault SpellsGenerators generator_file_at;
  stops = never;
  answers = always_yes IsReducedFile;
}
