-- What the command `int` means.
use Rattle.std.specs.Prelude.{◌+◌, length}
use Rattle.trop_theory.specs.Combinations.{IsCombination}
use Rattle.trop_text.specs.Pieces.{pieces_of}
use Rattle.trop_reading.specs.Outcome.{IsFault}
use Rattle.trop_files.specs.Generators.{Rows, GeneratorFile, SpellsGenerators, generator_file_at}
use Rattle.tplib_reply.specs.Meaning.{Meaning, at_rows_or_polars, always_yes}
use Rattle.tplib_poly.specs.InRing.{RingMeaning, stops_over, answers_over}
use Rattle.tplib_poly.specs.Bounds.{IsBoundsFile, IsBoundsStop}

-- of the combinations of the rows: the file of their external list
abbrev pub int_ring : RingMeaning Rows
int_ring = record {
  stops = λ names V kind R N rows. at_rows_or_polars (λ xs k. ⊥)
      (λ xs i k. IsBoundsStop R (length names + 1) (IsCombination R (length names + 1) xs) i k) rows;
  answers = λ names V kind R N rows. always_yes (λ xs text. IsBoundsFile kind R N names
      (IsCombination R (length names + 1) xs) text) rows;
}

abbrev pub int_meaning : Meaning GeneratorFile
int_meaning = record {
  spells = λ bytes file. SpellsGenerators (pieces_of bytes) file;
  faulty = IsFault SpellsGenerators generator_file_at;
  stops = λ file. stops_over int_ring file.names file.rows;
  answers = λ file. answers_over int_ring file.names file.rows;
}
