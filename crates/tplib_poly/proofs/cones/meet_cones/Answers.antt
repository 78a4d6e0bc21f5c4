use Rattle.std.proofs.Common.{◌≡◌, ◌∙◌, ◌+◌, ℕ, length, sym, subst, arith}
use Rattle.trop_cones.specs.Sets.{InMeet}
use Rattle.trop_poly.specs.Cones.{InCone}
use Rattle.tplib_poly.proofs.Same.{cone_file_same}
use Rattle.tplib_poly.proofs.Pairs.{represented_same, meet_replied, meet_refused_in}
use Rattle.tplib_poly.proofs.cones.meet_cones.Goals as goal

pub meet-requires-clause-width : goal.meet-requires-clause-width
meet-requires-clause-width g c = c.requires.width ∙ sym c.requires.other_width

pub cone_text-requires : goal.cone_text-requires
cone_text-requires g c = record { names = c.in-Ok.ensures.width ∙ c.requires.width }

pub returns-in-Err-clause-refused : goal.returns-in-Err-clause-refused
returns-in-Err-clause-refused g c =
    let R = g.S.Scalar.ring in
    meet_refused_in g.met.S.Scalar.ring_laws g.S.Spelling.KIND g.S.Scalar.numbering c.args.names.now
    (InCone R c.args.left.now) c.args.right.now.rows c.args.left.now.n c.args.right.now.n c.requires.width
    c.requires.other_width
    c.requires.represented c.in-Err.e c.refusal.result c.refusal.ensures c.in-Err.ensures.refused

pub returns-clause-reply : goal.returns-clause-reply
returns-clause-reply g c =
    let R = g.S.Scalar.ring in
    let left = c.args.left.now in
    let cone = InMeet (InCone R left) (InCone R c.args.right.now) in
    meet_replied g.met.S.Scalar.ring_laws g.S.Spelling.KIND g.S.Scalar.numbering c.args.names.now
    (InCone R left) c.args.right.now.rows left.n c.args.right.now.n c.requires.width c.requires.other_width
    c.requires.represented c.in_ok-text.text.items
    (cone_file_same g.S.Spelling.KIND g.S.Scalar.numbering c.args.names.now
    (represented_same left.n c.in-Ok.cone.n cone c.in-Ok.cone.rows c.in-Ok.ensures.width c.in-Ok.ensures.holds)
    c.in_ok-text.text.items c.in_ok-text.ensures)
    c.in-Ok.ensures.unstopped c.in-Ok.ensures.within
