use Rattle.trop_theory.specs.Combinations.{IsCombination}
use Rattle.trop_theory.proofs.Unique.{IsCanonical-unique}
use Rattle.trop_row.proofs.laws.canonical_list_of_rows_is_unique.Goals as goal

pub returns : goal.returns
returns g c =
    let R = g.S.Scalar.ring in
    λ n rows others first second same f s. IsCanonical-unique g.met.S.Scalar.ring_laws (IsCombination R n rows)
    (IsCombination R n others) first second same f s
