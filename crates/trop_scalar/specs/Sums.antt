-- Sums of lists and products of entries, by which sums of products are cut in parts.
use Rattle.std.specs.Prelude.{List, [], ◌∷◌}
use Rattle.trop_theory.specs.Semiring.{Semiring}

-- the sum of a list, the zero of none
abbrev pub total : {V : Type 0} → Semiring V → List V → V
total R [] = R.zero
total R (a ∷ x) = R.plus a (total R x)

-- the product of each two entries
abbrev pub products : {V : Type 0} → Semiring V → List V → List V → List V
products R [] y = []
products R (a ∷ x) [] = []
products R (a ∷ x) (b ∷ y) = R.times a b ∷ products R x y
