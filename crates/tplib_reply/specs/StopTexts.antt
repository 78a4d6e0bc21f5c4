-- The text of a stop: its numbers, each behind what it counts, and each with a blank in front.
use Rattle.std.specs.Prelude.{ℕ, List, [], ◌∷◌, ◌++◌, codes, decimal}
use Rattle.tplib_reply.specs.declared.stop_text.Label.{Label}
use Rattle.tplib_reply.specs.declared.stop_text.Label.TheVariants as label
use Rattle.tplib_reply.specs.declared.stop_text.Step.{Step}
use Rattle.tplib_reply.specs.declared.stop.Part.{Part}
use Rattle.tplib_reply.specs.declared.stop.Part.TheVariants as part
use Rattle.tplib_reply.specs.declared.stop.Stop.{Stop}
use Rattle.tplib_reply.specs.declared.stop.Stop.TheVariants.{Rows, Polar, Lean, At, PointPolar}

abbrev pub label_words : Label → List ℕ
label_words label.Inequalities = codes " inequalities "
label_words label.Polar = codes " polar "
label_words label.Rows = codes " rows "
label_words label.Lean = codes " lean "
label_words label.Pass = codes " pass "
label_words label.Point = codes " point "
label_words label.Edge = codes " edge "
label_words label.Sum = codes " sum "
label_words label.Kept = codes " kept "

abbrev pub step_text : Step → List ℕ
step_text s = label_words s.label ++ decimal s.number

abbrev pub steps_text : List Step → List ℕ
steps_text [] = []
steps_text (s ∷ steps) = step_text s ++ steps_text steps

abbrev step : Label → ℕ → Step
step label n = record { label = label; number = n }

-- a part of a pass
abbrev pub part_text : Part → List ℕ
part_text (part.Edge e) = steps_text (step label.Edge e ∷ [])
part_text (part.Sum e) = steps_text (step label.Sum e ∷ [])
part_text part.Head = codes " head"
part_text (part.Polar i k) = steps_text (step label.Polar i ∷ step label.Rows k ∷ [])
part_text (part.Kept k) = steps_text (step label.Kept k ∷ [])

abbrev pub stop_text : Stop → List ℕ
stop_text (Rows k) = steps_text (step label.Inequalities k ∷ [])
stop_text (Polar i k) = steps_text (step label.Polar i ∷ step label.Rows k ∷ [])
stop_text (Lean k j) = steps_text (step label.Lean k ∷ step label.Inequalities j ∷ [])
stop_text (At place) = steps_text (step label.Pass place.pass ∷ step label.Point place.point ∷ [])
    ++ part_text place.part
stop_text (PointPolar p i k) = steps_text (step label.Point p ∷ step label.Polar i ∷ step label.Rows k ∷ [])
