-- What is answered on a report: that it is inductive, or the first condition that fails.
use Rattle.std.specs.Prelude.{◌≡◌, Bool, true, false, List, ℕ, Some, slice_get, codes}
use Rattle.trop_theory.specs.Semiring.{Semiring}
use Rattle.trop_theory.specs.Numbers.{Numbering}
use Rattle.trop_spelling.specs.declared.ring_kind.RingKind.{RingKind}
use Rattle.prog_theory.specs.States.{State}
use Rattle.prog_theory.specs.PointVisits.{Visits}
use Rattle.cone_reports.specs.Claims.{IsTrueOf}
use Rattle.cone_reports.specs.Asserts.{Assertion, asserts}
use Rattle.cone_reports.specs.Reports.{Report}
use Rattle.cone_reports.specs.Inductive.{IsInductive}
use Rattle.cone_reports.specs.Verdicts.{Verdict, IsVerdict}
use Rattle.report_texts.specs.Modes.{kind_of, ring_of, numbering, is_reversed}
use Rattle.report_texts.specs.Reports.{ReportText, said_by}
use Rattle.prog_check.specs.Truths.{IsTrueAtVisits}
use Rattle.tplib_check.specs.Lines.{verdict_line}

-- the claim of each assert that is said to be proved is true, in ordinary numbers, of each state with which a run
-- visits
-- its statement
abbrev pub AreProvedTrue : {V : Type 0} → Report V → Type 0
AreProvedTrue report = (k : ℕ) (a : Assertion) → slice_get (asserts report.program) k ≡ Some a
    → slice_get report.verdicts k ≡ Some true → (s : State) → Visits report.program a.point s → IsTrueOf a.claim s

-- The report is inductive. So what it says is true at every visit of every run of its program, whoever wrote it; the
-- claims that it calls proved as well, since the text of a report has no words in its asserts but those of its mode.
pub record IsInductiveAnswer {V : Type 0} (R : Semiring V) (N : Numbering V) (reversed : Bool) (report : Report V)
    (text : List ℕ) : Type 0 where
  pub inductive : IsInductive R N reversed report
  pub true_at_visits : IsTrueAtVisits R N reversed report
  pub claims : AreProvedTrue report
  pub line : text ≡ codes "inductive\n"

-- It is not, and the line tells the first condition that fails.
pub record IsFailureAnswer {V : Type 0} (kind : RingKind) (R : Semiring V) (N : Numbering V) (reversed : Bool)
    (report : Report V) (text : List ℕ) : Type 0 where
  pub not_inductive : IsInductive R N reversed report → ⊥
  pub verdict : Verdict V
  pub first : IsVerdict R N reversed report verdict
  pub line : text ≡ verdict_line kind N verdict

abbrev pub IsVerdictReply : {V : Type 0} → RingKind → Semiring V → Numbering V → Bool → Report V → Bool → List ℕ →
    Type 0
IsVerdictReply kind R N reversed report true text = IsInductiveAnswer R N reversed report text
IsVerdictReply kind R N reversed report false text = IsFailureAnswer kind R N reversed report text

-- in the semiring of the report's mode
abbrev pub IsCheckAnswer : ReportText → Bool → List ℕ → Type 0
IsCheckAnswer r says text =
    IsVerdictReply (kind_of r.mode) (ring_of r.mode) numbering (is_reversed r.mode) (said_by r) says text
