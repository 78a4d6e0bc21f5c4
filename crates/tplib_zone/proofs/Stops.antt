-- Where an analysis by zones stops, a bound is out of range.
use Rattle.std.proofs.Common.{◌≡◌, ℕ, subst, sym}
use Rattle.prog_theory.specs.ControlGraphs.{ControlGraph}
use Rattle.dom_theory.specs.Refusals.{At}
use Rattle.dom_theory.specs.Places.{Part}
use Rattle.dom_theory.specs.Places.{Edge as EdgePart, Sum as SumPart, Head, Polar as PolarPart, Kept as KeptPart}
use Rattle.dom_theory.specs.Relations.{Call, Apply, Join, Widen, Cause, OutOfRange}
use Rattle.dom_theory.specs.Outcomes.{Stop, Stops}
use Rattle.dom_theory.specs.Parts.{part_at}
use Rattle.dom_theory.specs.Analysis.{Analysis}
use Rattle.zone_theory.specs.Domain.{Zone}
use Rattle.zone_theory.specs.Relations.{IsRefused, zones}
use Rattle.tplib_zone.proofs.Causes.{IsAsked, analysis_tells}

-- a part that zones have
abbrev pub IsPlain : Part → Type 0
IsPlain (EdgePart k) = Unit {0}
IsPlain (SumPart k) = Unit {0}
IsPlain Head = Unit {0}
IsPlain (PolarPart i k) = ⊥
IsPlain (KeptPart k) = Unit {0}

pub record IsOutOfRange (stop : Stop) : Type 0 where
  pub cause : stop.cause ≡ OutOfRange
  pub part : IsPlain stop.place.part

asked-plain : (part : Part) → IsAsked part → IsPlain part
asked-plain (EdgePart k) asked = tt
asked-plain (SumPart k) asked = tt
asked-plain Head asked = tt
asked-plain (PolarPart i k) asked = absurd asked
asked-plain (KeptPart k) asked = absurd asked

at-plain : (part : Part) (call : Call Zone) (cause : Cause) (at : At) → IsAsked part → IsRefused call cause at
    → IsPlain (part_at part at)
at-plain part (Apply op x) cause at asked h =
    subst (λ a. IsPlain (part_at part a)) (sym h.1) (asked-plain part asked)
at-plain part (Join x other) cause at asked h =
    subst (λ a. IsPlain (part_at part a)) (sym h.1) (asked-plain part asked)
at-plain part (Widen x next) cause at asked h = subst (λ a. IsPlain (part_at part a)) (sym h.3) tt

cause-range : (call : Call Zone) (cause : Cause) (at : At) → IsRefused call cause at → cause ≡ OutOfRange
cause-range (Apply op x) cause at h = h.0
cause-range (Join x other) cause at h = h.0
cause-range (Widen x next) cause at h = h.0

pub zones_stop : (G : ControlGraph) (delay narrow : ℕ) (stop : Stop) → Analysis zones G delay narrow (Stops stop)
    → IsOutOfRange stop
zones_stop G delay narrow = analysis_tells IsOutOfRange zones
    (λ spot part call cause at asked h. record {
      cause = cause-range call cause at h;
      part = at-plain part call cause at asked h;
    }) G delay narrow
