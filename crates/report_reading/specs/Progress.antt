-- What the lines so far come to, as the reader holds it.
use Rattle.std.specs.Prelude.{◌≡◌, ℕ, suc, Bool, true, false, List, [], ◌∷◌, ◌++◌, length, map, slice_get, Option, Some, None}
use Rattle.prog_theory.specs.Graph as graph
use Rattle.prog_graph.specs.Views.{point_of}
use Rattle.prog_graph.specs.declared.parts.Point.{Point}
use Rattle.report_texts.specs.Lines as lines
use Rattle.report_texts.specs.Lines.{Judged}
use Rattle.report_texts.specs.Progress as spec
use Rattle.report_texts.specs.Bodies as bodies
use Rattle.report_reading.specs.declared.place.Block.{Block}
use Rattle.report_reading.specs.declared.progress.Progress.{Progress}
use Rattle.report_reading.specs.declared.progress.Body.{Body}
use Rattle.report_reading.specs.declared.progress.Outcome.{Outcome}
use Rattle.report_reading.specs.declared.progress.Outcome.TheVariants as outcomes
use Rattle.report_reading.specs.Places.{block_of, judged_of, place_of}

-- what is there, seen by the view
abbrev pub over : {X A : Type 0} → (X → A) → Option X → Option A
over view None = None
over view (Some x) = Some (view x)

abbrev pub blocks_of : {V Store : Type 0} → List (Block V Store) → List (lines.Block V)
blocks_of bs = map block_of bs

abbrev pub progress_of : {V Store : Type 0} → Progress V Store → spec.Progress V
progress_of s = record { blocks = blocks_of s.blocks.items; place = place_of s.place }

abbrev pub body_of : {V Store : Type 0} → Body V Store → lines.Body V
body_of b = record { blocks = blocks_of b.blocks.items; judged = map judged_of b.judged.items }

abbrev pub outcome_of : {V Store : Type 0} → Outcome V Store → bodies.Outcome V
outcome_of (outcomes.Further s) = bodies.Further (progress_of s)
outcome_of (outcomes.Whole b) = bodies.Whole (body_of b)

-- the blocks behind what the place ends, and the verdicts so far
abbrev pub ended_in : {V : Type 0} → List (lines.Block V) → spec.Place V → Option (lines.Body V)
ended_in blocks place = spec.behind blocks (spec.ending place)
    (λ bs. Some (record { blocks = bs; judged = spec.verdicts place }))

-- a verdict behind these
abbrev pub more_judged : {V : Type 0} → List ℕ → List (lines.Block V) → Judged → List Judged → ℕ → Bool →
    Option (spec.Progress V)
more_judged numbers blocks j js n b =
    spec.moved blocks (spec.judged numbers (suc (length js)) (λ k. spec.Judging j (js ++ k ∷ [])) n b)

-- the same, where the place is behind verdicts
abbrev pub after_verdict : {V : Type 0} → List ℕ → List (lines.Block V) → spec.Place V → ℕ → Bool →
    Option (spec.Progress V)
after_verdict numbers blocks (spec.Judging j js) n b = more_judged numbers blocks j js n b
after_verdict numbers blocks spec.Outside n b = None
after_verdict numbers blocks (spec.Opened p) n b = None
after_verdict numbers blocks (spec.Shut p) n b = None
after_verdict numbers blocks (spec.InRows p x rows) n b = None
after_verdict numbers blocks (spec.InInvs p x rows i invs) n b = None

-- the point at a place, where the label is its own
abbrev pub IsPointAt : List graph.Point → ℕ → graph.Point → Option Point → Type 0
IsPointAt points k p None = spec.is_label p (slice_get points k) ≡ false
IsPointAt points k p (Some q) = (spec.is_label p (slice_get points k) ≡ true) × (p ≡ point_of q)

-- the number at a place, where it is this one
abbrev pub IsNumberAt : List ℕ → ℕ → ℕ → Option ℕ → Type 0
IsNumberAt numbers k n None = spec.is_number n (slice_get numbers k) ≡ false
IsNumberAt numbers k n (Some m) = (spec.is_number n (slice_get numbers k) ≡ true) × (n ≡ m)
