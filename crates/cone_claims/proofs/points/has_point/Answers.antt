use Rattle.std.proofs.Common.{◌≢◌, subst}
use Rattle.std.specs.Prelude.{◌↔◌, Any, IsTrue}
use Rattle.trop_theory.specs.Vectors.{entry}
use Rattle.cone_claims.proofs.Proven.{point_rows}
use Rattle.cone_claims.proofs.points.has_point.Goals as goal

pub returns : goal.returns
returns g c =
    let R = g.S.Scalar.ring in
    let r = point_rows g.met.S.Scalar.ring_laws g.met.S.Numeric.numeric_laws c.args.rows.now.n
    c.as_slice.ensures.at_least c.args.rows.now.rows c.as_slice.ensures.wide in
    let s : IsTrue c.some_finite.result ↔ Any (λ x. entry R x 0 ≢ R.zero) c.args.rows.now.rows =
    subst (λ l. IsTrue c.some_finite.result ↔ Any (λ x. entry R x 0 ≢ R.zero) l) c.as_slice.ensures.rows
    c.some_finite.ensures in
    (λ t. r.0 (s.0 t), λ h. s.1 (r.1 h))
