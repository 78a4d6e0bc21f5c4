-- What the command `op forget` means.
use Rattle.std.specs.Prelude.{◌≡◌, ◌+◌, ℕ, List, length, Some, None}
use Rattle.trop_theory.specs.Combinations.{IsCombination}
use Rattle.trop_theory.specs.Canonical.{IsOverLimit}
use Rattle.trop_cones.specs.Sets.{InForget}
use Rattle.trop_text.specs.Pieces.{pieces_of}
use Rattle.trop_text.specs.Names.{place_of}
use Rattle.trop_text.specs.declared.fault.Fault.{Fault}
use Rattle.trop_text.specs.declared.fault.Fault.TheVariants.{UnknownName}
use Rattle.trop_reading.specs.Outcome.{IsFault}
use Rattle.trop_files.specs.Generators.{Rows, GeneratorFile, SpellsGenerators, generator_file_at}
use Rattle.tplib_reply.specs.Meaning.{Meaning, with_late, at_rows, always_yes}
use Rattle.tplib_cones.specs.ConeFiles.{IsConeFile}
use Rattle.tplib_poly.specs.InRing.{RingMeaning, stops_over, answers_over}

-- of the combinations of the rows: the file of the cone that forgets the variable at this place, from 0. It stops where
-- that cone is over the limit.
abbrev pub forget_ring : ℕ → RingMeaning Rows
forget_ring place = record {
  stops = λ names V kind R N rows. at_rows (λ xs k. (k ≡ 0)
      × IsOverLimit R (InForget R (IsCombination R (length names + 1) xs) (place + 1))) rows;
  answers = λ names V kind R N rows. always_yes (λ xs text. IsConeFile kind R N names
      (InForget R (IsCombination R (length names + 1) xs) (place + 1)) text) rows;
}

-- what P says of the place of the name
abbrev pub AtName : List ℕ → List (List ℕ) → (ℕ → Type 0) → Type 0
AtName var names P = (place : ℕ) × (place_of var names ≡ Some place) × P place

-- no variable of the file has this name: a fault at the line of the variables
abbrev pub IsUnknown : List ℕ → GeneratorFile → Fault → Type 0
IsUnknown var file fault = (place_of var file.names ≡ None) × (fault ≡ UnknownName file.vars_line)

-- the meaning without that fault
abbrev pub forget_named : List ℕ → Meaning GeneratorFile
forget_named var = record {
  spells = λ bytes file. SpellsGenerators (pieces_of bytes) file;
  faulty = IsFault SpellsGenerators generator_file_at;
  stops = λ file cause stop. AtName var file.names
      (λ place. stops_over (forget_ring place) file.names file.rows cause stop);
  answers = λ file says text. AtName var file.names
      (λ place. answers_over (forget_ring place) file.names file.rows says text);
}

abbrev pub forget_meaning : List ℕ → Meaning GeneratorFile
forget_meaning var = with_late (forget_named var) (IsUnknown var)
