use Rattle.std.proofs.Common.{◌∙◌, sym, subst, true≢false, length}
use Rattle.trop_duality.specs.Barriers.{IsBarrier}
use Rattle.trop_duality.proofs.Separation.{not_combination_from_separates}
use Rattle.trop_polar.proofs.Separated.{separates_there}
use Rattle.trop_polar.proofs.separation.separate.Goals as goal

pub returns-in_ok-right-in-Some-clause-some : goal.returns-in_ok-right-in-Some-clause-some
returns-in_ok-right-in-Some-clause-some g c =
    separates_there g.met.S.Scalar.ring_laws c.args.gens.now.n c.n.result c.args.gens.now.rows c.as_slice.result.now
    c.args.row.now c.in-Some.t c.new.result c.requires.wide c.n.ensures.value c.as_slice.ensures.rows
    c.as_slice.ensures.wide c.in-Some.ensures.first
    (c.new.ensures.left ∙ c.in_ok-left-in-Some.ensures.entries)
    (subst (IsBarrier g.S.Scalar.ring (length c.args.row.now) c.as_slice.result.now c.args.row.now c.in-Some.t)
    (sym c.new.ensures.right) c.in_ok-right-in-Some.ensures)

pub returns-in_ok-right-in-Some-clause-none : goal.returns-in_ok-right-in-Some-clause-none
returns-in_ok-right-in-Some-clause-none g c = (
  λ e. absurd (true≢false e),
  λ h. absurd (not_combination_from_separates g.met.S.Scalar.ring_laws c.args.gens.now.n c.args.gens.now.rows
      c.as_slice.ensures.wide c.args.row.now c.requires.wide c.new.result (returns-in_ok-right-in-Some-clause-some g c)
      h),
)
