use Rattle.std.proofs.Common.{true≢false, subst}
use Rattle.trop_theory.specs.Residual.{IsFirstUnmet}
use Rattle.trop_theory.proofs.Residual.{unmet_apart}
use Rattle.trop_row.proofs.membership.first_unmet.Goals as goal

pub returns-in-Some-clause-none : goal.returns-in-Some-clause-none
returns-in-Some-clause-none g c =
    let R = g.S.Scalar.ring in
    let first = subst (λ rows. IsFirstUnmet R rows c.args.row.now c.in-Some.t) c.as_slice.ensures.rows
    (subst (λ x. IsFirstUnmet R c.as_slice.result.now x c.in-Some.t) c.as_slice-2.ensures.entries
    c.in-Some.ensures.first) in (
      λ e. absurd (true≢false e),
      λ h. absurd (unmet_apart g.met.S.Scalar.ring_laws c.args.gens.now.n
          c.args.gens.now.rows c.args.row.now c.in-Some.t c.as_slice.ensures.wide first h),
    )
