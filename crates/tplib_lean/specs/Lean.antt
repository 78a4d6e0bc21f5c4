-- What the command `int lean=on` means.
use Rattle.std.specs.Prelude.{◌≡◌, ◌↔◌, ◌+◌, ℕ, List, length}
use Rattle.trop_theory.specs.Semiring.{Semiring}
use Rattle.trop_theory.specs.Numbers.{Numbering}
use Rattle.trop_theory.specs.Vectors.{AreWide}
use Rattle.trop_theory.specs.Inequalities.{Inequality, Solves}
use Rattle.trop_theory.specs.Combinations.{IsCombination}
use Rattle.trop_duality.specs.External.{IsExternal}
use Rattle.trop_duality.specs.Lean.{IsLean, Certifies}
use Rattle.trop_duality.specs.LeanStops.{IsLeanStop}
use Rattle.trop_text.specs.Pieces.{pieces_of}
use Rattle.trop_spelling.specs.declared.ring_kind.RingKind.{RingKind}
use Rattle.trop_reading.specs.Outcome.{IsFault}
use Rattle.trop_files.specs.Generators.{Rows, GeneratorFile, SpellsGenerators, generator_file_at}
use Rattle.tplib_reply.specs.declared.stop.Stop.{Stop}
use Rattle.tplib_reply.specs.declared.stop.Stop.TheVariants.{Polar, Lean}
use Rattle.tplib_reply.specs.Meaning.{Meaning, Cause, OverLimit, always_yes}
use Rattle.tplib_poly.specs.Bounds.{IsBoundsStop}
use Rattle.tplib_poly.specs.InRing.{RingMeaning, stops_over, answers_over}
use Rattle.tplib_lean.specs.Printed.{printed_lean}

-- The text is the file of the lean list of the external list of the cone, each inequality with its row. The solutions of
-- the inequalities that it prints are just the cone. Each row makes its own inequality false and each other one true,
-- so none of them follows from the others.
pub record IsLeanFile {V : Type 0} (kind : RingKind) (R : Semiring V) (N : Numbering V) (names : List (List ℕ))
    (cone : List V → Type 0) (text : List ℕ) : Type 0 where
  pub bounds : List (Inequality V)
  pub kept : List (Inequality V)
  pub rows : List (List V)
  pub external : IsExternal R (length names + 1) cone bounds
  pub lean : IsLean R (length names + 1) bounds kept rows
  pub solved : (x : List V) → cone x ↔ Solves R (length names + 1) kept x
  pub wide : AreWide (length names + 1) rows
  pub certified : Certifies R kept rows
  pub printed : text ≡ printed_lean kind N names kept rows

-- the external list of the cone does not stop, but making it lean stops at turn k, at the first j inequalities of the
-- rest
pub record IsLeanStopOf {V : Type 0} (R : Semiring V) (n : ℕ) (cone : List V → Type 0) (k j : ℕ) : Type 0 where
  pub bounds : List (Inequality V)
  pub unbounded : (i m : ℕ) → IsBoundsStop R n cone i m → ⊥
  pub external : IsExternal R n cone bounds
  pub stop : IsLeanStop R n bounds k j

-- where the computation on a cone in n coordinates stops
abbrev pub LeanStops : {V : Type 0} → Semiring V → ℕ → (List V → Type 0) → Cause → Stop → Type 0
LeanStops R n cone OverLimit (Polar i k) = IsBoundsStop R n cone i k
LeanStops R n cone OverLimit (Lean k j) = IsLeanStopOf R n cone k j
LeanStops R n cone _ stop = ⊥

-- of the combinations of the rows: the file of the lean list of their external list
abbrev pub lean_ring : RingMeaning Rows
lean_ring = record {
  stops = λ names V kind R N rows. LeanStops R (length names + 1) (IsCombination R (length names + 1) rows);
  answers = λ names V kind R N rows. always_yes (λ xs text. IsLeanFile kind R N names
      (IsCombination R (length names + 1) xs) text) rows;
}

abbrev pub lean_meaning : Meaning GeneratorFile
lean_meaning = record {
  spells = λ bytes file. SpellsGenerators (pieces_of bytes) file;
  faulty = IsFault SpellsGenerators generator_file_at;
  stops = λ file. stops_over lean_ring file.names file.rows;
  answers = λ file. answers_over lean_ring file.names file.rows;
}
