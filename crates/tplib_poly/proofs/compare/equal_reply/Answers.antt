use Rattle.std.proofs.Common.{◌≡◌, List, true, false, Some, refl, sym, subst}
use Rattle.std.specs.Prelude.{slice_get, codes}
use Rattle.trop_poly.specs.Cones.{InCone}
use Rattle.tplib_poly.specs.Pairs.{IsEqualAnswer, row_line}
use Rattle.tplib_poly.proofs.Compared.{outsider_at, told, equal_yes, equal_left, equal_right}
use Rattle.tplib_poly.proofs.compare.equal_reply.Goals as goal

pub returns-in-Some : goal.returns-in-Some
returns-in-Some g c =
    let S = g.S.Scalar in
    let kind = g.S.Spelling.KIND in
    let left = InCone S.ring c.args.left.now in
    let right = InCone S.ring c.args.right.now in
    let row = c.get.result.now in
    told (IsEqualAnswer kind S.ring S.numbering left right) false
    (row_line kind S.numbering (codes "not equal: left row ") row)
    (equal_left kind S.ring S.numbering left right row
    (outsider_at left right c.args.left.now.rows c.in-Some.place row c.rows.ensures.canonical
    (subst (λ rows. slice_get rows c.in-Some.place ≡ Some row) c.rows.ensures.rows c.get.ensures.value)
    c.in-Some.ensures.some))
    c.outsider_reply.result c.outsider_reply.ensures.says c.outsider_reply.ensures.text

pub returns-in-Some-first_outside : goal.returns-in-Some-first_outside
returns-in-Some-first_outside g c =
    let S = g.S.Scalar in
    let kind = g.S.Spelling.KIND in
    let left = InCone S.ring c.args.left.now in
    let right = InCone S.ring c.args.right.now in
    let row = c.get-in-Some-first_outside.result.now in
    let place = c.in-Some-first_outside.place in
    told (IsEqualAnswer kind S.ring S.numbering left right) false
    (row_line kind S.numbering (codes "not equal: right row ") row)
    (equal_right kind S.ring S.numbering left right row (c.in-None.ensures.none.0 refl)
    (outsider_at right left c.args.right.now.rows place row c.rows-in-Some-first_outside.ensures.canonical
    (subst (λ rows. slice_get rows place ≡ Some row) c.rows-in-Some-first_outside.ensures.rows
    c.get-in-Some-first_outside.ensures.value) c.in-Some-first_outside.ensures.some))
    c.outsider_reply-in-Some-first_outside.result c.outsider_reply-in-Some-first_outside.ensures.says
    c.outsider_reply-in-Some-first_outside.ensures.text
