use Rattle.std.proofs.Common.{subst}
use Rattle.std.specs.Prelude.{◌↔◌, All, IsTrue}
use Rattle.trop_theory.specs.Inequalities.{IsTrueAt}
use Rattle.trop_cones.proofs.Cones.{valid_is_rows}
use Rattle.cone_claims.proofs.validity.is_valid.Goals as goal

pub returns : goal.returns
returns g c =
    let R = g.S.Scalar.ring in
    let rows = c.args.rows.now in
    let p = c.args.ineq.now in
    let e = valid_is_rows g.met.S.Scalar.ring_laws rows.n p c.requires.inside rows.rows c.as_slice.ensures.wide in
    let s : IsTrue c.holds_at_each.result ↔ All (IsTrueAt R p) rows.rows =
    subst (λ l. IsTrue c.holds_at_each.result ↔ All (IsTrueAt R p) l) c.as_slice.ensures.rows c.holds_at_each.ensures in
    (λ t. e.1 (s.0 t), λ h. s.1 (e.0 h))
