use Rattle.std.proofs.Common.{sym, ap, ◌∙◌}
use Rattle.trop_theory.proofs.Order.{plus_itself}
use Rattle.trop_pairs.proofs.reading.with_product.Goals as goal

pub returns-then-eq-clause-value : goal.returns-then-eq-clause-value
returns-then-eq-clause-value g c = sym (plus_itself g.met.S.Scalar.ring_laws c.args.product)
    ∙ ap (λ s. g.S.Scalar.ring.plus s c.args.product)
    ((g.met.S.Scalar.decides c.args.product c.args.sum.value).0 (sym c.eq.ensures ∙ c.if-eq.true))
