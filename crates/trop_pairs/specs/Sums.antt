-- The finite entries of a side, and its sum at a row with the coordinates that reach it.
use Rattle.std.specs.Prelude.{◌≡◌, ◌≢◌, ◌⊎◌, ◌+◌, ◌<◌, ◌≤◌, ◌↔◌, ℕ, List, All, Any, length}
use Rattle.trop_theory.specs.Sizes.{most_element}
use Rattle.trop_theory.specs.Semiring.{Semiring}
use Rattle.trop_theory.specs.Vectors.{entry, dot, row_size}
use Rattle.trop_theory.specs.Inequalities.{Inequality}
use Rattle.trop_criterion.specs.Hypergraphs.{Has}
use Rattle.trop_criterion.specs.Tangents.{Attains}
use Rattle.trop_pairs.specs.declared.terms.Term.{Term}
use Rattle.trop_pairs.specs.declared.reading.Sum.{Sum}
use Rattle.trop_pairs.specs.declared.reading.Sums.{Sums}

-- a finite entry of the side
pub record IsTerm {V : Type 0} (R : Semiring V) (side : List V) (term : Term V) : Type 0 where
  pub within : term.place < length side
  pub read : term.coefficient ≡ entry R side term.place
  pub finite : term.coefficient ≢ R.zero

-- finite entries of the side, among which each coordinate is where the side is finite
pub record AreTerms {V : Type 0} (R : Semiring V) (side : List V) (terms : List (Term V)) : Type 0 where
  pub each : All (IsTerm R side) terms
  pub all : (i : ℕ) → (entry R side i ≡ R.zero) ⊎ Any (λ term. term.place ≡ i) terms

-- the finite entries of both sides
pub record HasTerms {V : Type 0} (R : Semiring V) (p : Inequality V) (lefts rights : List (Term V)) : Type 0 where
  pub left : AreTerms R p.left lefts
  pub right : AreTerms R p.right rights

-- the row has the place of the term, and their product is no element that is too great
pub record Fits {V : Type 0} (R : Semiring V) (x : List V) (term : Term V) : Type 0 where
  pub within : term.place < length x
  pub size : R.size term.coefficient + row_size R x ≤ most_element

-- the sum of the side at the row, and exactly the coordinates that reach it, none where it is the zero
pub record IsSum {V : Type 0} (R : Semiring V) (side x : List V) (sum : Sum V) : Type 0 where
  pub value : sum.value ≡ dot R side x
  pub reached : (j : ℕ) → Has sum.reached j ↔ ((dot R side x ≢ R.zero) × Attains R side x j)

-- the sums of both sides
pub record AreSums {V : Type 0} (R : Semiring V) (p : Inequality V) (x : List V) (sums : Sums V) : Type 0 where
  pub left : IsSum R p.left x sums.left
  pub right : IsSum R p.right x sums.right
