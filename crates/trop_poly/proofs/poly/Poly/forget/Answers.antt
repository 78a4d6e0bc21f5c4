use Rattle.std.proofs.Common.{List, refl, ◌∙◌, subst}
use Rattle.std.specs.Prelude.{◌↔◌}
use Rattle.std.proofs.lemmas.Result.{IfOk-weaker, IfErr-weaker}
use Rattle.trop_theory.specs.Combinations.{IsCombination}
use Rattle.trop_cones.specs.Sets.{InForget}
use Rattle.trop_cones.specs.Represents.{Represents}
use Rattle.trop_poly.specs.Cones.{InCone}
use Rattle.trop_poly.specs.Refusals.{IsConeRefusal}
use Rattle.trop_poly.proofs.Kept.{represents_as, cone_refusal_same, cone_is}
use Rattle.trop_poly.proofs.poly.Poly.forget.Goals as goal

pub returns-clause-holds : goal.returns-clause-holds
returns-clause-holds g c =
    let R = g.S.Scalar.ring in
    let out = c.in_ok-rows.rows in
    let C = IsCombination R out.n out.rows in
    let D = InForget R (InCone R c.args.self.now) c.args.i in
    let self_is = cone_is c.rows.result.now.n c.rows.result.now.rows c.args.self.now c.rows.ensures.width
    c.rows.ensures.rows in
    let same : (x : List _) → C x ↔ D x = subst (λ p. (x : List _) → C x ↔ InForget R (InCone R p) c.args.i x) self_is
    c.in_ok-rows.ensures.same in
    IfOk-weaker c.from_gens.result (λ cone. Represents R out.n C cone.rows)
    (λ cone. Represents R c.args.self.now.n D cone.rows)
    (λ cone h. represents_as R c.args.self.now.n out.n C D cone.rows cone.rows
    (c.in_ok-rows.ensures.width ∙ c.rows.ensures.width) refl same h) c.from_gens.ensures.holds

pub returns-clause-refused : goal.returns-clause-refused
returns-clause-refused g c =
    let R = g.S.Scalar.ring in
    let out = c.in_ok-rows.rows in
    let C = IsCombination R out.n out.rows in
    let D = InForget R (InCone R c.args.self.now) c.args.i in
    let self_is = cone_is c.rows.result.now.n c.rows.result.now.rows c.args.self.now c.rows.ensures.width
    c.rows.ensures.rows in
    let same : (x : List _) → C x ↔ D x = subst (λ p. (x : List _) → C x ↔ InForget R (InCone R p) c.args.i x) self_is
    c.in_ok-rows.ensures.same in
    IfErr-weaker c.from_gens.result (IsConeRefusal R 0 C) (IsConeRefusal R 0 D)
    (λ err h. cone_refusal_same R g.met.S.Scalar.ring_laws out.n 0 C D same err h) c.from_gens.ensures.refused
