use Rattle.std.proofs.Common.{sym, subst}
use Rattle.std.specs.Prelude.{Err}
use Rattle.dom_theory.specs.Relations.{Widen}
use Rattle.dom_core.specs.Answers.{IsAnswer}
use Rattle.cone_domain.specs.Polyhedra.{polyhedra}
use Rattle.dom_poly.proofs.Widened.{widened_answer, widened_refused}
use Rattle.dom_poly.proofs.value.PolyDomain.widened_by.Goals as goal

pub solutions-requires-clause-few : goal.solutions-requires-clause-few
solutions-requires-clause-few g c = c.in-Ok.ensures.few

pub solutions-requires-clause-numbers : goal.solutions-requires-clause-numbers
solutions-requires-clause-numbers g c = c.in-Ok.ensures.small

pub returns-in-Ok : goal.returns-in-Ok
returns-in-Ok g c =
    widened_answer g.met.S.Scalar.ring_laws g.S.Scalar.numbering g.S.Scalar.REVERSED c.args.self.now c.args.next.now
    c.poly-value.ensures.value c.poly-next.ensures.value c.requires.vars c.requires.leaves c.in-Ok.list
    c.solutions.result c.in-Ok.ensures c.solutions.ensures

pub returns-in-Err : goal.returns-in-Err
returns-in-Err g c =
    let R = g.S.Scalar.ring in
    let N = g.S.Scalar.numbering in
    let reversed = g.S.Scalar.REVERSED in
    subst (λ err. IsAnswer (polyhedra R N reversed) (Widen c.args.self.now c.args.next.now) (Err err))
    (sym c.refused_part.ensures)
    (widened_refused g.met.S.Scalar.ring_laws N reversed c.args.self.now c.args.next.now c.in-Err.err c.in-Err.ensures)
