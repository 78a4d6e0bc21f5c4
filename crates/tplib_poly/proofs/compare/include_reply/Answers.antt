use Rattle.std.proofs.Common.{◌≡◌, List, true, false, Some, refl, sym, ap, subst}
use Rattle.std.specs.Prelude.{slice_get, codes}
use Rattle.trop_poly.specs.Cones.{InCone}
use Rattle.tplib_poly.specs.Pairs.{IsIncludeAnswer, row_line}
use Rattle.tplib_poly.proofs.Compared.{outsider_at, told, include_yes, include_no}
use Rattle.tplib_poly.proofs.compare.include_reply.Goals as goal

pub returns-in-Some : goal.returns-in-Some
returns-in-Some g c =
    let S = g.S.Scalar in
    let kind = g.S.Spelling.KIND in
    let left = InCone S.ring c.args.left.now in
    let right = InCone S.ring c.args.right.now in
    let row = c.get.result.now in
    told (IsIncludeAnswer kind S.ring S.numbering left right) false
    (row_line kind S.numbering (codes "not included: row ") row)
    (include_no kind S.ring S.numbering left right row
    (outsider_at left right c.args.left.now.rows c.in-Some.place row c.rows.ensures.canonical
    (subst (λ rows. slice_get rows c.in-Some.place ≡ Some row) c.rows.ensures.rows c.get.ensures.value)
    c.in-Some.ensures.some))
    c.outsider_reply.result c.outsider_reply.ensures.says c.outsider_reply.ensures.text

pub returns-in-None : goal.returns-in-None
returns-in-None g c =
    let S = g.S.Scalar in
    let kind = g.S.Spelling.KIND in
    let left = InCone S.ring c.args.left.now in
    let right = InCone S.ring c.args.right.now in
    told (IsIncludeAnswer kind S.ring S.numbering left right) true (codes "included\n")
    (include_yes kind S.ring S.numbering left right (c.in-None.ensures.none.0 refl)) c.yes_reply.result
    c.yes_reply.ensures.says c.yes_reply.ensures.text
