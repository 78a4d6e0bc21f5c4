use Rattle.trop_theory.specs.Combinations.{IsCombination}
use Rattle.trop_duality.proofs.External.{IsExternal-unique}
use Rattle.trop_polar.proofs.laws.external_list_is_unique.Goals as goal

pub returns : goal.returns
returns g c =
    let R = g.S.Scalar.ring in
    λ n rows others first second same one other. IsExternal-unique g.met.S.Scalar.ring_laws n (IsCombination R n rows)
    (IsCombination R n others) first second same one other
