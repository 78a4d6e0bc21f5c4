use Rattle.std.proofs.Common.{◌∙◌, sym}
use Rattle.trop_theory.specs.Residual.{Meets}
use Rattle.trop_row.proofs.Others.{any_found}
use Rattle.trop_row.proofs.membership.some_meets_of.Goals as goal

pub returns : goal.returns
returns g c =
    let both = any_found (Meets g.S.Scalar.ring c.args.target.now c.args.t) c.args.rows.now c.row_that_meets.result
    c.row_that_meets.ensures.within c.row_that_meets.ensures.meets in
    (λ e. both.0 (sym c.is_some.ensures ∙ e), λ a. c.is_some.ensures ∙ both.1 a)
