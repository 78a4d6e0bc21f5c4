use Rattle.std.proofs.Common.{sym, ap, subst}
use Rattle.std.specs.Prelude.{Err}
use Rattle.dom_poly.specs.Answers.{IsFittedFrom}
use Rattle.dom_poly.proofs.answers.fitted_from.Goals as goal

pub returns-in-Ok : goal.returns-in-Ok
returns-in-Ok g c = subst (λ made. IsFittedFrom g.S.Scalar.ring made c.fitted.result) (sym c.in-Ok.is) c.fitted.ensures

pub returns-in-Err : goal.returns-in-Err
returns-in-Err g c = subst (λ made. IsFittedFrom g.S.Scalar.ring made (Err c.refused_whole.result)) (sym c.in-Err.is)
    (ap Err c.refused_whole.ensures)
