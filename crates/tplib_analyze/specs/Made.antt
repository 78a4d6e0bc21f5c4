-- The report of a family as a value, over any semiring.
use Rattle.std.specs.Prelude.{◌≡◌, ◌≤◌, ◌+◌, ◌*◌, ℕ, Bool, All, length}
use Rattle.trop_theory.specs.Semiring.{Semiring}
use Rattle.trop_theory.specs.Numbers.{Numbering}
use Rattle.trop_theory.specs.Vectors.{rows_size}
use Rattle.prog_theory.specs.Heads.{heads}
use Rattle.prog_theory.specs.Named.{Named, nameless}
use Rattle.cone_reports.specs.Inductive.{IsInductive}
use Rattle.report_texts.specs.Limits.{greatest_entry}
use Rattle.report_value.specs.Views.{ReportOver, said}
use Rattle.report_value.specs.Kept.{IsKept}
use Rattle.tplib_reply.specs.Meaning.{Cause, OverLimit, OutOfRange}
use Rattle.tplib_reply.specs.declared.stop.Stop.{Stop}
use Rattle.tplib_reply.specs.declared.refusal.Refusal.{Refusal}
use Rattle.tplib_reply.specs.declared.refusal.Refusal.TheVariants.{Text, Limit, Range, NoMemory}
use Rattle.tplib_analyze.specs.Stops.{IsStop}
use Rattle.tplib_analyze.specs.Defined.{IsDefined}
use Rattle.tplib_analyze.specs.Visits.{ArePrintedTrue, AreProvedTrue}

pub record IsReportMade {V : Type 0} (R : Semiring V) (N : Numbering V) (reversed : Bool) (delay narrow : ℕ) (p : Named)
    (r : ReportOver V) : Type 0 where
  pub delay_is : r.delay ≡ delay
  pub narrow_is : r.narrow ≡ narrow
  pub program_is : r.program ≡ p
  pub defined : IsDefined R N reversed delay narrow p r.passes (said r)
  pub passes : r.passes ≤ length (heads (nameless p)) * (delay + 4098) + 1
  -- it may stand in a text
  pub kept : IsKept R N r
  pub small : All (λ part. rows_size R part.rows ≤ greatest_entry) r.parts
  pub unstopped : (cause : Cause) (stop : Stop) → IsStop R N reversed delay narrow p cause stop → ⊥
  pub inductive : IsInductive R N reversed (said r)
  pub inequalities : ArePrintedTrue R N (said r)
  pub claims : AreProvedTrue (said r)

-- the analysis, or the list of a point, stops there; want of memory is free
abbrev pub IsReportRefusal : {V : Type 0} → Semiring V → Numbering V → Bool → ℕ → ℕ → Named → Refusal → Type 0
IsReportRefusal R N reversed delay narrow p (Text fault) = ⊥
IsReportRefusal R N reversed delay narrow p (Limit stop) = IsStop R N reversed delay narrow p OverLimit stop
IsReportRefusal R N reversed delay narrow p (Range stop) = IsStop R N reversed delay narrow p OutOfRange stop
IsReportRefusal R N reversed delay narrow p NoMemory = Unit {0}
