use Rattle.std.proofs.Common.{sym, subst, [], ◌∷◌, ◌++◌}
use Rattle.cone_reports.specs.EdgeLists.{AreNormalised}
use Rattle.prog_check.proofs.NormalLists.{normalised_push, normalised_skip}
use Rattle.prog_check.proofs.moved.push_normal.Goals as goal

pub returns-in_ok-push : goal.returns-in_ok-push
returns-in_ok-push g c olds h =
    subst (AreNormalised g.S.Scalar.ring (olds ++ c.args.row ∷ [])) (sym c.in_ok-push.ensures.items)
    (normalised_push g.met.S.Scalar.ring_laws olds c.args.rows.now.items c.args.row c.normalise.new.self h
    c.if-normalise.ensures.yes)

pub returns-else-normalise : goal.returns-else-normalise
returns-else-normalise g c olds h =
    normalised_skip g.met.S.Scalar.ring_laws olds c.args.rows.now.items c.args.row h c.if-normalise.ensures.no
