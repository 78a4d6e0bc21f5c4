use Rattle.std.proofs.Common.{subst₂}
use Rattle.std.specs.Prelude.{◌↔◌, All, IsTrue}
use Rattle.trop_theory.specs.Inequalities.{IsTrueAt}
use Rattle.prog_tree.specs.Claims.{claim_of}
use Rattle.cone_reports.specs.Readings.{claim_inequalities}
use Rattle.cone_claims.proofs.Proven.{proven_each}
use Rattle.cone_claims.proofs.claims.proven_by.Goals as goal

pub returns : goal.returns
returns g c =
    let R = g.S.Scalar.ring in
    let rows = c.args.rows.now in
    let claim = claim_of c.args.claim.now in
    let e = proven_each g.met.S.Scalar.ring_laws g.met.S.Numeric.numeric_laws rows.n c.as_slice.ensures.at_least claim
    rows.rows c.as_slice.ensures.wide in
    let s : IsTrue c.is_true_at_each.result ↔ All (λ x.
    All (λ p. IsTrueAt R p x) (claim_inequalities R g.S.Scalar.numbering g.S.Scalar.REVERSED rows.n claim))
    rows.rows =
    subst₂ (λ m l. IsTrue c.is_true_at_each.result
    ↔ All (λ x. All (λ p. IsTrueAt R p x) (claim_inequalities R g.S.Scalar.numbering g.S.Scalar.REVERSED m claim))
    l) c.n.ensures.value c.as_slice.ensures.rows c.is_true_at_each.ensures in
    (λ t. e.0 (s.0 t), λ h. s.1 (e.1 h))
