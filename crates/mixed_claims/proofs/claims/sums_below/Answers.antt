use Rattle.std.proofs.Common.{◌∙◌}
use Rattle.mixed_claims.proofs.Sides.{own_told}
use Rattle.mixed_claims.proofs.claims.sums_below.Goals as goal

pub returns : goal.returns
returns g c = own_told g.S.Scalar.ring g.S.Scalar.numbering c.args.vars c.args.rows.now c.as_slice-first.result.now
    c.as_slice-second.result.now c.args.left.now.terms c.args.right.now.terms
    (c.as_slice-first.ensures ∙ c.terms.ensures.value)
    (c.as_slice-second.ensures ∙ c.terms-2.ensures.value) c.is_sum_below.result c.is_sum_below.ensures
