use Rattle.std.proofs.Common.{◌∙◌, sym, arith}
use Rattle.trop_cones.specs.Sets.{InJoin}
use Rattle.trop_poly.specs.Cones.{InCone}
use Rattle.tplib_poly.proofs.Same.{cone_file_same}
use Rattle.tplib_poly.proofs.Pairs.{represented_within, represented_same, join_replies, join_refused}
use Rattle.tplib_poly.proofs.cones.join_cones.Goals as goal

pub join-requires-clause-width : goal.join-requires-clause-width
join-requires-clause-width g c = c.requires.width ∙ sym c.requires.other_width

pub cone_text-requires : goal.cone_text-requires
cone_text-requires g c = record { names = c.in-Ok.ensures.width ∙ c.requires.width }

pub returns-in-Err-clause-refused : goal.returns-in-Err-clause-refused
returns-in-Err-clause-refused g c =
    join_refused g.S.Spelling.KIND g.S.Scalar.ring g.S.Scalar.numbering c.args.names.now
    (InCone g.S.Scalar.ring c.args.left.now) (InCone g.S.Scalar.ring c.args.right.now) c.in-Err.e c.refusal.result
    c.refusal.ensures c.in-Err.ensures.refused

pub returns-clause-reply : goal.returns-clause-reply
returns-clause-reply g c =
    let R = g.S.Scalar.ring in
    let left = c.args.left.now in
    let cone = InJoin R (InCone R left) (InCone R c.args.right.now) in
    join_replies g.S.Spelling.KIND R g.S.Scalar.numbering c.args.names.now (InCone R left)
    (InCone R c.args.right.now) c.in_ok-text.text.items
    (cone_file_same g.S.Spelling.KIND g.S.Scalar.numbering c.args.names.now
    (represented_same left.n c.in-Ok.cone.n cone c.in-Ok.cone.rows c.in-Ok.ensures.width c.in-Ok.ensures.holds)
    c.in_ok-text.text.items c.in_ok-text.ensures)
    (represented_within left.n cone c.in-Ok.cone.rows c.in-Ok.ensures.holds)
