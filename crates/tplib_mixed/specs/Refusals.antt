-- Why there is no report of a program.
use Rattle.std.specs.Prelude.{ℕ}
use Rattle.trop_theory.specs.MaxPlus.{max_ring, max_numbering}
use Rattle.prog_theory.specs.Named.{Named}
use Rattle.mixed_theory.specs.Mixed.{mixed}
use Rattle.mixed_print.specs.declared.error.MixedErr.{MixedErr}
use Rattle.mixed_print.specs.declared.error.MixedErr.TheVariants as print
use Rattle.mixed_print.specs.Said.{IsListStop}
use Rattle.tplib_reply.specs.Meaning.{OverLimit, OutOfRange}
use Rattle.tplib_reply.specs.declared.stop.Stop.TheVariants.{PointPolar}
use Rattle.tplib_reply.specs.declared.refusal.Refusal.{Refusal}
use Rattle.tplib_reply.specs.declared.refusal.Refusal.TheVariants.{Text, Limit, Range, NoMemory}
use Rattle.tplib_family.specs.Stops.{IsListedStop}

abbrev pub refusal_of : MixedErr → Refusal
refusal_of (print.Polar point i k) = Limit (PointPolar point i k)
refusal_of print.NoMemory = NoMemory

-- the analysis, or the list of a point, stops there; want of memory is free
abbrev pub IsReportRefusal : ℕ → ℕ → Named → Refusal → Type 0
IsReportRefusal delay narrow p (Text fault) = ⊥
IsReportRefusal delay narrow p (Limit stop) =
    IsListedStop (mixed max_ring max_numbering) IsListStop delay narrow p OverLimit stop
IsReportRefusal delay narrow p (Range stop) =
    IsListedStop (mixed max_ring max_numbering) IsListStop delay narrow p OutOfRange stop
IsReportRefusal delay narrow p NoMemory = Unit {0}
