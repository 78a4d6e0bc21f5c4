-- What the command `ext` means.
use Rattle.std.specs.Prelude.{◌+◌, ℕ, List, length}
use Rattle.trop_theory.specs.Semiring.{Semiring}
use Rattle.trop_theory.specs.Numbers.{Numbering}
use Rattle.trop_theory.specs.Inequalities.{Inequality, Solves}
use Rattle.trop_cones.specs.RowStops.{IsRowsStop}
use Rattle.trop_text.specs.Pieces.{pieces_of}
use Rattle.trop_spelling.specs.declared.ring_kind.RingKind.{RingKind}
use Rattle.trop_spelling.specs.Over.{Holds}
use Rattle.trop_reading.specs.Outcome.{IsFault}
use Rattle.trop_files.specs.InequalityFiles.{InequalityFile, SpellsInequalities, inequality_file_at}
use Rattle.tplib_reply.specs.Meaning.{Meaning, at_rows, always_yes}
use Rattle.tplib_cones.specs.ConeFiles.{IsConeFile}

-- the text is the file of the canonical list of the solutions of the inequalities
abbrev pub IsConverted : {V : Type 0} → RingKind → Semiring V → Numbering V → List (List ℕ) → List (Inequality V) →
    List ℕ → Type 0
IsConverted kind R N names system text = IsConeFile kind R N names (Solves R (length names + 1) system) text

-- the same in the semiring of the file
abbrev pub IsConvertedFile : InequalityFile → List ℕ → Type 0
IsConvertedFile file text = Holds (λ V kind R N system. IsConverted kind R N file.names system text) file.inequalities

-- the first k inequalities of the file are the least front of it whose solutions have more extreme rows than a cone may
-- have
abbrev pub IsConversionStop : InequalityFile → ℕ → Type 0
IsConversionStop file k = Holds (λ V kind R N system. IsRowsStop R (length file.names + 1) system k) file.inequalities

abbrev pub ext_meaning : Meaning InequalityFile
ext_meaning = record {
  spells = λ bytes file. SpellsInequalities (pieces_of bytes) file;
  faulty = IsFault SpellsInequalities inequality_file_at;
  stops = at_rows IsConversionStop;
  answers = always_yes IsConvertedFile;
}
