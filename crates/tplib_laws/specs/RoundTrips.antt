-- What a second run makes of the text that a first one wrote.
use Rattle.std.specs.Prelude.{◌≤◌, ◌+◌, ℕ, false, List, length}
use Rattle.trop_theory.specs.Semiring.{Semiring}
use Rattle.trop_theory.specs.Vectors.{rows_size}
use Rattle.trop_theory.specs.Inequalities.{Inequality, Solves, system_size}
use Rattle.trop_theory.specs.Combinations.{IsCombination}
use Rattle.trop_theory.specs.Canonical.{IsCanonical}
use Rattle.trop_cones.specs.RowStops.{IsRowsStop}
use Rattle.trop_duality.specs.External.{IsExternal}
use Rattle.trop_io.specs.Faults.{Rose}
use Rattle.trop_words.specs.declared.command.Command.{Command}
use Rattle.trop_words.specs.declared.command.Command.TheVariants.{Int}
use Rattle.trop_spelling.specs.Over.{Holds}
use Rattle.trop_files.specs.Generators.{GeneratorFile, greatest_number}
use Rattle.trop_files.specs.InequalityFiles.{InequalityFile, most_inequalities}
use Rattle.tplib_reply.specs.declared.stop.Stop.{Stop}
use Rattle.tplib_reply.specs.declared.stop.Stop.TheVariants.{Rows, Polar}
use Rattle.tplib_poly.specs.Bounds.{IsBoundsFile, IsBoundsStop}
use Rattle.tplib_cmd.specs.declared.status.Status.{Status}
use Rattle.tplib_cmd.specs.declared.status.Status.TheVariants.{Done, No, BadWords, Text, TooLong, Limit, Range, ReadFault, WriteFault, NoMemory}
use Rattle.tplib_cmd.specs.Streams.{IsSame, IsWritten, IsCutShort}
use Rattle.tplib_cmd.specs.Ends.{Run}

-- the command of the word `int` alone
abbrev pub plain_int : Command
plain_int = Int false

-- How a run ends that is to answer with a text of which Right holds, and that stops only where Stops holds: the text
-- was written, or a proper front of it where a write failed; or nothing was written, at such a stop, where a read
-- failed, or for want of memory.
abbrev pub EndsRightly : (List ℕ → Type 0) → (Stop → Type 0) → Run → Status → Type 0
EndsRightly Right Stops run Done = (text : List ℕ) × Right text × IsWritten run.out_before run.out_after text
EndsRightly Right Stops run WriteFault = (text : List ℕ) × Right text × IsCutShort run.out_before run.out_after text
EndsRightly Right Stops run (Limit stop) = Stops stop × IsSame run.out_before run.out_after
EndsRightly Right Stops run ReadFault = Rose run.in_before.faults run.in_after.faults
    × IsSame run.out_before run.out_after
EndsRightly Right Stops run NoMemory = IsSame run.out_before run.out_after
EndsRightly Right Stops run No = ⊥
EndsRightly Right Stops run BadWords = ⊥
EndsRightly Right Stops run (Text fault) = ⊥
EndsRightly Right Stops run TooLong = ⊥
EndsRightly Right Stops run (Range stop) = ⊥

-- ---- from inequalities to generators and back

-- the numbers of the canonical list of the cone are no greater than a file may hold
pub record HasSmallRows {V : Type 0} (R : Semiring V) (cone : List V → Type 0) : Type 0 where
  pub rows : List (List V)
  pub canonical : IsCanonical R cone rows
  pub small : rows_size R rows ≤ greatest_number

-- the canonical list of the solutions fits a file of generators
abbrev pub FitsGenerators : InequalityFile → Type 0
FitsGenerators file = Holds (λ V kind R N system. HasSmallRows R (Solves R (length file.names + 1) system))
    file.inequalities

-- The text is the file of the external list of the solutions. The solutions of the inequalities that it prints are just
-- those of the file.
abbrev pub IsBoundsOf : InequalityFile → List ℕ → Type 0
IsBoundsOf file text = Holds (λ V kind R N system. IsBoundsFile kind R N file.names
    (Solves R (length file.names + 1) system) text) file.inequalities

-- the external list of the solutions stops there
abbrev pub IsBoundsStopOf : InequalityFile → Stop → Type 0
IsBoundsStopOf file (Polar i k) = Holds (λ V kind R N system. IsBoundsStop R (length file.names + 1)
    (Solves R (length file.names + 1) system) i k) file.inequalities
IsBoundsStopOf file _ = ⊥

-- ---- from generators to inequalities and back

-- the external list of the cone in n coordinates has no more inequalities, and no greater numbers, than a file may hold
pub record HasFewBounds {V : Type 0} (R : Semiring V) (n : ℕ) (cone : List V → Type 0) : Type 0 where
  pub bounds : List (Inequality V)
  pub external : IsExternal R n cone bounds
  pub few : length bounds ≤ most_inequalities
  pub small : system_size R bounds ≤ greatest_number

-- the external list of the combinations fits a file of inequalities
abbrev pub FitsInequalities : GeneratorFile → Type 0
FitsInequalities file = Holds (λ V kind R N rows. HasFewBounds R (length file.names + 1)
    (IsCombination R (length file.names + 1) rows)) file.rows

-- the first k inequalities of the external list of the cone are its least front whose solutions have more extreme rows
-- than a cone may have
pub record IsFrontStop {V : Type 0} (R : Semiring V) (n : ℕ) (cone : List V → Type 0) (k : ℕ) : Type 0 where
  pub bounds : List (Inequality V)
  pub external : IsExternal R n cone bounds
  pub stop : IsRowsStop R n bounds k

abbrev pub IsFrontStopOf : GeneratorFile → Stop → Type 0
IsFrontStopOf file (Rows k) = Holds (λ V kind R N rows. IsFrontStop R (length file.names + 1)
    (IsCombination R (length file.names + 1) rows) k) file.rows
IsFrontStopOf file _ = ⊥
