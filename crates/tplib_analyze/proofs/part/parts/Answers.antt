use Rattle.std.proofs.Common.{arith}
use Rattle.std.proofs.lemmas.Result.{err_from_is_err_and}
use Rattle.tplib_analyze.specs.Parts.{IsPointMade}
use Rattle.dom_family.proofs.Zips.{AllZip-take_more}
use Rattle.tplib_analyze.proofs.Parts.{parts_stopped, AllZip-all}
use Rattle.tplib_analyze.proofs.part.parts.Goals as goal

pub returns-in_err-made-clause-refused : goal.returns-in_err-made-clause-refused
returns-in_err-made-clause-refused g c =
    let p = err_from_is_err_and c.from_residual.result c.from_residual.ensures.1 in
    rw (p.1, p.2) (parts_stopped g.S.Scalar.ring c.args.values.now c.loop-q.parts.items c.loop-q.q (omega arith)
    c.loop-q.invariant c.index-values-q.result c.index-values-q.is c.in_err-made.field-0.0
    c.in_err-made.ensures.refused)

pub loop-q-preserved : goal.loop-q-preserved
loop-q-preserved g c =
    rw c.in_ok-push.ensures.items
    (AllZip-take_more (IsPointMade g.S.Scalar.ring) c.args.values.now c.loop-q.parts.items c.loop-q.q
    c.index-values-q.result _ (omega arith) c.index-values-q.is c.loop-q.invariant c.in_ok-made.ensures.made)

pub returns-clause-made : goal.returns-clause-made
returns-clause-made g c =
    AllZip-all (IsPointMade g.S.Scalar.ring) c.args.values.now c.loop-q.parts.items c.loop-q.q (omega arith)
    c.loop-q.invariant
