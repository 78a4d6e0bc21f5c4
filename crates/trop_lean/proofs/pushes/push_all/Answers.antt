use Rattle.trop_lean.proofs.Standing.{fronts_later, stopped_later}
use Rattle.trop_lean.proofs.pushes.push_all.Goals as goal

pub returns-in-Err-clause-stopped : goal.returns-in-Err-clause-stopped
returns-in-Err-clause-stopped g c =
    stopped_later g.S.Scalar.ring c.args.dd.now.n c.args.dd.now.system c.args.more.now c.in-Err.err c.requires.fronts
    c.in-Err.ensures.stopped

pub returns-clause-fronts : goal.returns-clause-fronts
returns-clause-fronts g c =
    fronts_later g.S.Scalar.ring c.args.dd.now.n c.args.dd.now.system c.args.more.now c.requires.fronts
    c.in_default.ensures.within
