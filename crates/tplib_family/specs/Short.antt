-- The short report of a program by a domain, and what a command means that answers with it.
use Rattle.std.specs.Prelude.{◌≡◌, ℕ, Bool, List}
use Rattle.std.specs.List.{AllZip}
use Rattle.trop_text.specs.declared.fault.TextErr.TheVariants as errors
use Rattle.prog_theory.specs.Statements.{Claim}
use Rattle.prog_theory.specs.Limits.{program_limits}
use Rattle.prog_theory.specs.Named.{Named, nameless}
use Rattle.prog_texts.specs.AssertRule.{Either}
use Rattle.prog_texts.specs.Words.{program_pieces}
use Rattle.prog_texts.specs.Programs.{IsWholeProgram}
use Rattle.prog_lang.specs.Outcomes.{IsProgramRefusal}
use Rattle.cone_reports.specs.Asserts.{asserts}
use Rattle.dom_theory.specs.Relations.{Relations}
use Rattle.dom_theory.specs.Analysis.{End}
use Rattle.dom_family.specs.Family.{IsFamily, IsJudgedBy, value_in}
use Rattle.short_texts.specs.Short.{short_text}
use Rattle.tplib_reply.specs.Meaning.{Meaning, Cause, always_yes}
use Rattle.tplib_reply.specs.declared.stop.Stop.{Stop}

-- The text is the short report of the family of the program: per point the block of its value, and per assert whether
-- the value at its point proves the claim. `IsBlock names v block` says what the lines behind an `at` line are.
pub record IsShortText {V : Type 0} (D : Relations V) (proven : Claim → V → Type 0)
    (IsBlock : List (List ℕ) → V → List ℕ → Type 0) (word : List ℕ) (delay narrow : ℕ) (p : Named) (text : List ℕ)
    : Type 0 where
  pub end : End V
  pub family : IsFamily D proven delay narrow p end
  pub blocks : List (List ℕ)
  pub verdicts : List Bool
  pub printed : text ≡ short_text (record {
    word = word;
    delay = delay;
    narrow = narrow;
    passes = end.passes;
    program = p;
    blocks = blocks;
    verdicts = verdicts;
  })
  pub blocks_are : AllZip (IsBlock p.names) end.values blocks
  pub verdicts_are : AllZip (IsJudgedBy proven (value_in D p end.values)) (asserts (nameless p)) verdicts

-- The bytes spell a program, whatever the words of its asserts; or they have a first fault as one. The computation
-- stops as `stops` says, and the answer is a text of the program.
abbrev pub program_meaning : (Named → Cause → Stop → Type 0) → (Named → List ℕ → Type 0) → Meaning Named
program_meaning stops text = record {
  spells = λ bytes p. IsWholeProgram program_limits Either (program_pieces bytes) p;
  faulty = λ bytes fault. IsProgramRefusal Either bytes (errors.Fault fault);
  stops = stops;
  answers = always_yes text;
}
