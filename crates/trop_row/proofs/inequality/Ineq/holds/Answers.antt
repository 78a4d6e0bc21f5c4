use Rattle.std.proofs.Common.{length, sym, ap, ◌∙◌, subst}
use Rattle.std.specs.Prelude.{IsTrue, ◌↔◌}
use Rattle.trop_theory.specs.Inequalities.{IsTrueAt}
use Rattle.trop_row.proofs.Truths.{truth_of_sums}
use Rattle.trop_row.proofs.inequality.Ineq.holds.Goals as goal

pub returns : goal.returns
returns g c =
    let x = c.args.row.now in
    let left = ap (λ p. length p.left) c.self.view_is ∙ sym c.requires.lengths in
    subst (λ p. IsTrue c.le.result ↔ IsTrueAt g.S.Scalar.ring p x) c.self.view_is
    (truth_of_sums g.met.S.Scalar.ring_laws (record { left = c.self.inside.left; right = c.self.inside.right }) x _ _ _
    left (sym c.self.invariant ∙ left) c.dot.ensures c.dot-2.ensures c.le.ensures)
