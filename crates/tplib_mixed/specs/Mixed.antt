-- What the command `analyze` means over variables and their opposites.
use Rattle.std.specs.Prelude.{◌≡◌, ◌⊎◌, ◌≤◌, ◌+◌, ◌*◌, ℤ, ℕ, Bool, true, List, Option, Some, All, length, slice_get, slice_index_or}
use Rattle.std.specs.List.{AllZip}
use Rattle.trop_theory.specs.Inequalities.{IsTrueAt}
use Rattle.trop_theory.specs.MaxPlus.{max_ring, max_numbering}
use Rattle.trop_text.specs.declared.fault.TextErr.TheVariants as errors
use Rattle.prog_theory.specs.States.{State}
use Rattle.prog_theory.specs.Limits.{program_limits}
use Rattle.prog_theory.specs.Heads.{heads}
use Rattle.prog_theory.specs.Named.{Named, nameless}
use Rattle.prog_theory.specs.PointVisits.{Visits}
use Rattle.prog_texts.specs.AssertRule.{Either}
use Rattle.prog_texts.specs.Words.{program_pieces}
use Rattle.prog_texts.specs.Programs.{IsWholeProgram}
use Rattle.prog_lang.specs.Outcomes.{IsProgramRefusal}
use Rattle.cone_reports.specs.Asserts.{Assertion, asserts}
use Rattle.cone_reports.specs.Reports.{Part, no_part}
use Rattle.dom_theory.specs.Analysis.{End}
use Rattle.cone_domain.specs.Values.{Value}
use Rattle.mixed_theory.specs.Twins.{twice}
use Rattle.mixed_theory.specs.Mixed.{mixed, IsProvedBy}
use Rattle.dom_family.specs.Family.{value_in, IsJudgedBy, IsFamily, IsTrueAtVisits}
use Rattle.mixed_print.specs.Said.{IsSaidOf, IsListStop}
use Rattle.mixed_print.specs.Texts.{mixed_text}
use Rattle.tplib_reply.specs.Meaning.{Meaning, always_yes}
use Rattle.tplib_family.specs.Stops.{IsListedStop}
use Rattle.tplib_mixed.specs.Fault.{most_variables, IsTooWide}

-- The text is the short report of the program's family. What follows from this stands beside it.
pub record IsMixedReport (delay narrow : ℕ) (p : Named) (text : List ℕ) : Type 0 where
  pub end : End (Value (Option ℤ))
  pub family : IsFamily (mixed max_ring max_numbering) (IsProvedBy max_ring max_numbering) delay narrow p end
  pub parts : List (Part (Option ℤ))
  pub verdicts : List Bool
  pub printed : text ≡ mixed_text delay narrow end.passes p parts verdicts
  -- per point the canonical list of its cone, with its external list
  pub said : AllZip IsSaidOf end.values parts
  -- per assert whether the cone at its point proves its claim
  pub judged : AllZip (IsJudgedBy (IsProvedBy max_ring max_numbering)
      (value_in (mixed max_ring max_numbering) p end.values)) (asserts (nameless p)) verdicts
  -- the ascent ends
  pub passes : end.passes ≤ length (heads (nameless p)) * (delay + 4098) + 1
  -- each inequality that is printed at a point is true, of its numbers and their opposites, at each state with which a
  -- run visits the point
  pub inequalities : (q : ℕ) (s : State) → Visits (nameless p) q s →
      All (λ i. IsTrueAt max_ring i (twice max_ring max_numbering s)) (slice_index_or parts q no_part).printed
  -- each claim that is said to be proved is true at each visit of its statement
  pub claims : (k : ℕ) (a : Assertion) → slice_get (asserts (nameless p)) k ≡ Some a →
      slice_get verdicts k ≡ Some true → IsTrueAtVisits p a

-- The bytes spell a program, whatever the words of its asserts, with few enough variables. Too many are told behind all
-- other faults. The analysis stops at its first refused part, each image by its halves, or at the first point whose
-- external list stops.
abbrev pub mixed_meaning : ℕ → ℕ → Meaning Named
mixed_meaning delay narrow = record {
  spells = λ bytes p. IsWholeProgram program_limits Either (program_pieces bytes) p
      × (length p.names ≤ most_variables);
  faulty = λ bytes fault. IsProgramRefusal Either bytes (errors.Fault fault) ⊎ IsTooWide bytes fault;
  stops = IsListedStop (mixed max_ring max_numbering) IsListStop delay narrow;
  answers = always_yes (IsMixedReport delay narrow);
}
