use Rattle.std.proofs.Common.{refl, sym, ap, ◌∙◌, subst}
use Rattle.std.specs.Prelude.{◌↔◌}
use Rattle.trop_theory.specs.Inequalities.{IsIn, InGuard}
use Rattle.trop_theory.specs.Combinations.{IsCombination}
use Rattle.trop_theory.specs.Canonical.{IsCanonical}
use Rattle.trop_cones.specs.Represents.{Represents}
use Rattle.trop_poly.specs.Cones.{InCone}
use Rattle.trop_poly.specs.Refusals.{IsConeRefusal}
use Rattle.trop_poly.proofs.Kept.{represents_itself_as, cone_is}
use Rattle.trop_poly.proofs.narrowing.narrowed.Goals as goal

pub narrowed_rows-requires-clause-canonical : goal.narrowed_rows-requires-clause-canonical
narrowed_rows-requires-clause-canonical g c =
    let R = g.S.Scalar.ring in
    let here = cone_is c.rows.result.now.n c.rows.result.now.rows c.args.cone.now c.rows.ensures.width
    c.rows.ensures.rows in
    subst (λ p. IsCanonical R (InCone R p) p.rows) (sym here) c.rows.ensures.canonical

pub from_canonical-requires : goal.from_canonical-requires
from_canonical-requires g c =
    let R = g.S.Scalar.ring in
    let gens = c.rows.result.now in
    represents_itself_as R gens.n c.in-Ok.rows.n (InGuard R (IsCombination R gens.n gens.rows) c.args.ineq.now)
    c.in-Ok.rows.rows c.in-Ok.rows.rows c.in-Ok.ensures.width refl c.in-Ok.ensures.holds

pub returns-in-Ok-clause-holds : goal.returns-in-Ok-clause-holds
returns-in-Ok-clause-holds g c =
    let R = g.S.Scalar.ring in
    let gens = c.rows.result.now in
    let here = cone_is gens.n gens.rows c.args.cone.now c.rows.ensures.width c.rows.ensures.rows in
    subst (λ rows. Represents R c.args.cone.now.n (InGuard R (InCone R c.args.cone.now) c.args.ineq.now) rows)
    (sym c.from_canonical.ensures.rows)
    (subst (λ p. Represents R p.n (InGuard R (InCone R p) c.args.ineq.now) c.in-Ok.rows.rows) here
    c.in-Ok.ensures.holds)

pub returns-in-Err-clause-refused : goal.returns-in-Err-clause-refused
returns-in-Err-clause-refused g c =
    let R = g.S.Scalar.ring in
    let gens = c.rows.result.now in
    let here = cone_is gens.n gens.rows c.args.cone.now c.rows.ensures.width c.rows.ensures.rows in
    subst (λ p. IsConeRefusal R c.args.number (InGuard R (InCone R p) c.args.ineq.now) c.in-Err.err) here
    c.in-Err.ensures.refused
