-- The external list, coordinate by coordinate.
use Rattle.std.specs.Prelude.{◌≡◌, ◌≢◌, ◌++◌, ℕ, List, map}
use Rattle.trop_theory.specs.Semiring.{Semiring}
use Rattle.trop_theory.specs.Vectors.{entry}
use Rattle.trop_theory.specs.Inequalities.{Inequality}
use Rattle.trop_theory.specs.StepList.{AreChosen}
use Rattle.trop_duality.specs.External.{bound_of}

-- the bounds that the rows with finite entry i give are appended
pub record AreAppended {V : Type 0} (R : Semiring V) (i : ℕ) (polar : List (List V)) (old new : List (Inequality V)) :
    Type 0 where
  pub finite : List (List V)
  pub chosen : AreChosen (λ u. entry R u i ≢ R.zero) polar finite
  pub appended : new ≡ old ++ map (bound_of R i) finite
