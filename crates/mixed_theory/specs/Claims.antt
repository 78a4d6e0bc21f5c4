-- Which claims are proved on a set of vectors in n coordinates, of d variables and their opposites. What a claim says
-- in numbers is in `cone_reports`.
use Rattle.std.specs.Prelude.{◌≡◌, ◌⊎◌, ℕ, false, List, [], ◌∷◌, All, Any, length, map}
use Rattle.trop_theory.specs.Semiring.{Semiring}
use Rattle.trop_theory.specs.Numbers.{Numbering}
use Rattle.trop_theory.specs.Inequalities.{IsValidOn}
use Rattle.prog_theory.specs.States.{Term}
use Rattle.prog_theory.specs.Statements.{Rel, AtMost, AtLeast, Same, SideWord, Greatest, Least, Side, Claim}
use Rattle.cone_reports.specs.Sides.{at_most, side}
use Rattle.mixed_theory.specs.Twins.{opposite_term}

-- A side with this word is read as such. A side of one term is its greatest and its least.
abbrev pub IsReadAs : SideWord → Side → Type 0
IsReadAs word s = (s.word ≡ word) ⊎ (length s.terms ≡ 1)

module _ {V : Type 0} (R : Semiring V) (N : Numbering V) (d n : ℕ) (vectors : List V → Type 0) where
  -- the greatest of the first terms is at most that of the others
  abbrev pub IsSumBelow : List Term → List Term → Type 0
  IsSumBelow ls rs = IsValidOn R vectors (at_most false (side R N n ls) (side R N n rs))

  -- the greatest of the opposites of the other terms is at most that of the opposites of the first
  abbrev pub IsOppositeBelow : List Term → List Term → Type 0
  IsOppositeBelow ls rs = IsSumBelow (map (opposite_term d) rs) (map (opposite_term d) ls)

  -- the first term is at most the second, by their inequality or by that of their opposites
  abbrev pub IsPairBelow : Term → Term → Type 0
  IsPairBelow l r = IsSumBelow (l ∷ []) (r ∷ []) ⊎ IsOppositeBelow (l ∷ []) (r ∷ [])

  abbrev pub IsEachBelow : List Term → List Term → Type 0
  IsEachBelow ls rs = All (λ l. All (λ r. IsPairBelow l r) rs) ls

  abbrev pub IsSomeBelow : List Term → List Term → Type 0
  IsSomeBelow ls rs = Any (λ l. Any (λ r. IsPairBelow l r) rs) ls

  -- The first side is at most the second, as one of the readings of their words proves it.
  abbrev pub IsSideBelow : Side → Side → Type 0
  IsSideBelow l r =
      (IsReadAs Greatest l × IsReadAs Greatest r × IsSumBelow l.terms r.terms)
      ⊎ (IsReadAs Least l × IsReadAs Least r × IsOppositeBelow l.terms r.terms)
      ⊎ (IsReadAs Greatest l × IsReadAs Least r × IsEachBelow l.terms r.terms)
      ⊎ (IsReadAs Least l × IsReadAs Greatest r × IsSomeBelow l.terms r.terms)

  abbrev pub IsRelated : Rel → Side → Side → Type 0
  IsRelated AtMost l r = IsSideBelow l r
  IsRelated AtLeast l r = IsSideBelow r l
  IsRelated Same l r = IsSideBelow l r × IsSideBelow r l

  abbrev pub IsProvedOn : Claim → Type 0
  IsProvedOn claim = IsRelated claim.rel claim.left claim.right
