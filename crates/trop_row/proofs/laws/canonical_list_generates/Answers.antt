use Rattle.trop_theory.specs.Combinations.{IsCombination}
use Rattle.trop_theory.proofs.Generation.{canonical_generates}
use Rattle.trop_row.proofs.laws.canonical_list_generates.Goals as goal

pub returns : goal.returns
returns g c =
    let R = g.S.Scalar.ring in
    λ n rows others wide canonical x. canonical_generates g.met.S.Scalar.ring_laws n (IsCombination R n rows) rows
    others wide (λ y. (λ h. h, λ h. h)) canonical x
