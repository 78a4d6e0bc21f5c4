use Rattle.trop_theory.specs.Inequalities.{Solves}
use Rattle.trop_theory.proofs.Unique.{IsCanonical-unique}
use Rattle.trop_row.proofs.laws.canonical_list_of_system_is_unique.Goals as goal

pub returns : goal.returns
returns g c =
    let R = g.S.Scalar.ring in
    λ n system other first second same f s. IsCanonical-unique g.met.S.Scalar.ring_laws (Solves R n system)
    (Solves R n other) first second same f s
