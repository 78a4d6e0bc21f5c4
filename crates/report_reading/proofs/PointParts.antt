-- What is said of each point, one more at a time.
use Rattle.std.proofs.Common.{◌≡◌, List, [], ◌∷◌, ◌++◌, map, sym, ap, ap₂, ◌∙◌}
use Rattle.std.proofs.lemmas.List.{map-append}
use Rattle.cone_reports.specs.Reports.{Part}
use Rattle.report_texts.specs.Lines as lines
use Rattle.report_value.specs.declared.parts.PointPart.{PointPart}
use Rattle.report_value.specs.Views.{part_of, parts_of}
use Rattle.report_reading.specs.declared.place.Block.{Block}
use Rattle.report_reading.specs.Places.{block_of}
use Rattle.report_reading.specs.Progress.{blocks_of}

module _ {V Store : Type 0} where
  abbrev of_blocks : List (Block V Store) → List (Part V)
  of_blocks bs = map lines.Block.part (blocks_of bs)

  last_block : (bs : List (Block V Store)) (b : Block V Store) →
      of_blocks (bs ++ b ∷ []) ≡ of_blocks bs ++ lines.Block.part (block_of b) ∷ []
  last_block bs b = ap (map lines.Block.part) (map-append block_of bs (b ∷ []))
      ∙ map-append lines.Block.part (blocks_of bs) (block_of b ∷ [])

  pub parts_pushed : (out new : List (PointPart V Store)) (p : PointPart V Store) (bs : List (Block V Store))
      (b : Block V Store) → new ≡ out ++ p ∷ [] → parts_of out ≡ of_blocks bs →
      part_of p ≡ lines.Block.part (block_of b) → parts_of new ≡ of_blocks (bs ++ b ∷ [])
  parts_pushed out new p bs b e k h = ap parts_of e ∙ map-append part_of out (p ∷ [])
      ∙ ap₂ (λ (x : List (Part V)) (y : Part V). x ++ y ∷ []) k h ∙ sym (last_block bs b)
