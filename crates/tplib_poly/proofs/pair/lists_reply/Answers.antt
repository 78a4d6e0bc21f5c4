use Rattle.std.proofs.Common.{◌≡◌, ◌≤◌, ◌+◌, ◌∙◌, length, sym, subst, arith}
use Rattle.trop_theory.specs.Combinations.{IsCombination}
use Rattle.trop_files.specs.FileLimits.{AreFileRows}
use Rattle.trop_files.specs.Views.{two_of}
use Rattle.trop_cones.specs.Represents.{Represents}
use Rattle.trop_cones.proofs.Represented.{Represents-itself}
use Rattle.trop_poly.specs.Cones.{InCone}
use Rattle.tplib_poly.proofs.Same.{AreSame}
use Rattle.tplib_poly.proofs.Pairs.{kept_same, lists_replied, lists_refused}
use Rattle.tplib_poly.proofs.pair.lists_reply.Goals as goal

pub kept_cone-requires : goal.kept_cone-requires
kept_cone-requires g c = subst (λ n. AreFileRows g.S.Scalar.ring n c.args.file.now.left.rows)
    (sym c.requires.width) c.requires.lists.left

pub kept_cone-requires-2 : goal.kept_cone-requires-2
kept_cone-requires-2 g c = subst (λ n. AreFileRows g.S.Scalar.ring n c.args.file.now.right.rows)
    (sym c.requires.other_width) c.requires.lists.right

pub cones_reply-requires-clause-width : goal.cones_reply-requires-clause-width
cones_reply-requires-clause-width g c = c.in_ok-left.ensures.width ∙ c.requires.width

pub cones_reply-requires-clause-other_width : goal.cones_reply-requires-clause-other_width
cones_reply-requires-clause-other_width g c = c.in_ok-right.ensures.width ∙ c.requires.other_width

pub cones_reply-requires-clause-represented : goal.cones_reply-requires-clause-represented
cones_reply-requires-clause-represented g c =
    let R = g.S.Scalar.ring in
    let rows = c.in_ok-right.right.rows in
    subst (λ n. Represents R n (IsCombination R n rows) rows) (sym c.in_ok-right.ensures.width)
    (Represents-itself c.args.file.now.right.n (IsCombination R c.args.file.now.right.n c.args.file.now.right.rows) rows
    c.in_ok-right.ensures.holds)

pub returns-clause-reply : goal.returns-clause-reply
returns-clause-reply g c =
    let R = g.S.Scalar.ring in
    let file = c.args.file.now in
    lists_replied g.met.S.Scalar.ring_laws c.args.command g.S.Spelling.KIND g.S.Scalar.numbering file.names
    (two_of file)
    (kept_same file.left.n c.in_ok-left.left.n (length file.names + 1) file.left.rows c.in_ok-left.left.rows
    c.requires.width c.in_ok-left.ensures.width c.in_ok-left.ensures.holds)
    (kept_same file.right.n c.in_ok-right.right.n (length file.names + 1) file.right.rows c.in_ok-right.right.rows
    c.requires.other_width c.in_ok-right.ensures.width c.in_ok-right.ensures.holds)
    c.cones_reply.result c.cones_reply.ensures.reply

pub returns-clause-refused : goal.returns-clause-refused
returns-clause-refused g c =
    let R = g.S.Scalar.ring in
    let file = c.args.file.now in
    lists_refused g.met.S.Scalar.ring_laws c.args.command g.S.Spelling.KIND g.S.Scalar.numbering file.names
    (two_of file)
    (kept_same file.left.n c.in_ok-left.left.n (length file.names + 1) file.left.rows c.in_ok-left.left.rows
    c.requires.width c.in_ok-left.ensures.width c.in_ok-left.ensures.holds)
    (kept_same file.right.n c.in_ok-right.right.n (length file.names + 1) file.right.rows c.in_ok-right.right.rows
    c.requires.other_width c.in_ok-right.ensures.width c.in_ok-right.ensures.holds)
    c.cones_reply.result c.cones_reply.ensures.refused
