use Rattle.std.proofs.Common.{◌-◌, get_or, arith, subst}
use Rattle.std.specs.Prelude.{remove}
use Rattle.trop_theory.specs.Combinations.{IsCombination}
use Rattle.trop_row.proofs.Kept.{kept_remove, kept_next}
use Rattle.trop_row.proofs.reduction.drop_combinations.Goals as goal

pub loop-k-preserved-then-depends : goal.loop-k-preserved-then-depends
loop-k-preserved-then-depends g c =
    kept_remove g.met.S.Scalar.ring_laws c.args.n c.args.rows.now.items c.loop-k.rows.items c.remove-row.new.self.items
    (c.loop-k.k - 1) c.loop-k.k c.loop-k.invariant
    (omega arith)
    (λ d. subst (λ v. IsCombination g.S.Scalar.ring c.args.n (remove v (c.loop-k.k - 1)) (get_or v (c.loop-k.k - 1) d))
    c.as_slice.ensures.value (c.depends.ensures.yes c.if-depends.true d))
    c.remove-row.ensures.items

pub loop-k-preserved : goal.loop-k-preserved
loop-k-preserved g c =
    kept_next g.met.S.Scalar.ring_laws c.args.n c.args.rows.now.items c.loop-k.rows.items (c.loop-k.k - 1) c.loop-k.k
    c.loop-k.invariant
    (omega arith)
    (λ d. subst (λ v. IsCombination g.S.Scalar.ring c.args.n (remove v (c.loop-k.k - 1)) (get_or v (c.loop-k.k - 1) d) →
    ⊥) c.as_slice.ensures.value (c.depends.ensures.no c.if-depends.false d))
