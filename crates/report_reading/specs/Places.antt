-- The lines so far, as the reader holds them.
use Rattle.std.specs.Prelude.{Bool, true, false, List, [], ◌∷◌, map}
use Rattle.trop_theory.specs.Inequalities.{Inequality}
use Rattle.prog_theory.specs.Graph as graph
use Rattle.prog_graph.specs.Views.{point_of}
use Rattle.report_texts.specs.Lines as lines
use Rattle.report_texts.specs.Progress as spec
use Rattle.report_reading.specs.declared.place.Block.{Block}
use Rattle.report_reading.specs.declared.place.Judged.{Judged}
use Rattle.report_reading.specs.declared.place.Place.{Place}
use Rattle.report_reading.specs.declared.place.Place.TheVariants as places

abbrev pub block_of : {V Store : Type 0} → Block V Store → lines.Block V
block_of b = spec.block (point_of b.point) b.rows.items b.invs.items

abbrev pub judged_of : Judged → lines.Judged
judged_of j = record { number = j.number; proved = j.proved }

-- in a block with these rows and inequalities, of which none stands before the first row
abbrev pub open_place : {V : Type 0} → graph.Point → List (List V) → List (Inequality V) → spec.Place V
open_place p [] invs = spec.Opened p
open_place p (x ∷ rows) [] = spec.InRows p x rows
open_place p (x ∷ rows) (i ∷ invs) = spec.InInvs p x rows i invs

abbrev pub place_of : {V Store : Type 0} → Place V Store → spec.Place V
place_of places.Outside = spec.Outside
place_of (places.Open b) = open_place (point_of b.point) b.rows.items b.invs.items
place_of (places.Shut p) = spec.Shut (point_of p)
place_of (places.Judging j js) = spec.Judging (judged_of j) (map judged_of js.items)

-- behind a verdict
abbrev pub judges : {V : Type 0} → spec.Place V → Bool
judges (spec.Judging j js) = true
judges spec.Outside = false
judges (spec.Opened p) = false
judges (spec.Shut p) = false
judges (spec.InRows p x rows) = false
judges (spec.InInvs p x rows i invs) = false
