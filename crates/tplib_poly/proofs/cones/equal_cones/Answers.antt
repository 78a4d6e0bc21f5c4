use Rattle.std.proofs.Common.{◌∙◌, sym, arith}
use Rattle.trop_poly.specs.Cones.{InCone}
use Rattle.tplib_poly.proofs.Pairs.{equal_replies}
use Rattle.tplib_poly.proofs.cones.equal_cones.Goals as goal

pub equal_reply-requires-clause-width : goal.equal_reply-requires-clause-width
equal_reply-requires-clause-width g c = c.requires.width ∙ sym c.requires.other_width

pub returns-clause-reply : goal.returns-clause-reply
returns-clause-reply g c =
    equal_replies g.S.Spelling.KIND g.S.Scalar.ring g.S.Scalar.numbering c.args.names.now
    (InCone g.S.Scalar.ring c.args.left.now) (InCone g.S.Scalar.ring c.args.right.now) c.in_ok-reply.reply.yes
    c.in_ok-reply.reply.text.items c.in_ok-reply.ensures
