-- The solutions of a polar system are the polar.
use Rattle.std.proofs.Common.{◌≡◌, ℕ, List, length, sym, subst}
use Rattle.std.specs.Prelude.{All, ◌↔◌}
use Rattle.trop_theory.specs.Semiring.{Semiring, SemiringLaws}
use Rattle.trop_theory.specs.Inequalities.{Inequality, Solves}
use Rattle.trop_theory.specs.Combinations.{IsCombination}
use Rattle.trop_duality.specs.Polars.{polar_system, InPolar}
use Rattle.trop_duality.proofs.Polars.{polar_system_is_polar}

pub solutions_are_polar : {V : Type 0} {R : Semiring V} (laws : SemiringLaws R) (n i : ℕ) (rows : List (List V))
    (system : List (Inequality V)) → All (λ g. length g ≡ n) rows → system ≡ polar_system R i rows → (u : List V) →
    Solves R n system u ↔ InPolar R n (IsCombination R n rows) i u
solutions_are_polar {V} {R} laws n i rows system w e =
    subst (λ s. (u : List V) → Solves R n s u ↔ InPolar R n (IsCombination R n rows) i u) (sym e)
    (λ u. polar_system_is_polar laws n i rows w u)
