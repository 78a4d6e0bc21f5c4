-- The exact list that the elementary step gives: the rows at which the inequality is true, in their order, then the new
-- rows. Allamigeon, Gaubert, Goubault: The tropical double description method (2010).
use Rattle.std.specs.Prelude.{◌≡◌, ◌≢◌, ◌⊎◌, List, [], ◌∷◌, ◌++◌}
use Rattle.std.specs.List.{AllZip}
use Rattle.trop_theory.specs.Semiring.{Semiring}
use Rattle.trop_theory.specs.Vectors.{dot}
use Rattle.trop_theory.specs.Normal.{Normalises}
use Rattle.trop_theory.specs.Inequalities.{Inequality, IsTrueAt}
use Rattle.trop_theory.specs.Steps.{mixed}

-- the elements that have the property, in their order
abbrev pub AreChosen : {X : Type 0} → (X → Type 0) → List X → List X → Type 0
AreChosen P [] chosen = chosen ≡ []
AreChosen {X} P (x ∷ xs) chosen = (P x × ((rest : List X) × (chosen ≡ x ∷ rest) × AreChosen P xs rest))
    ⊎ ((P x → ⊥) × AreChosen P xs chosen)

-- the new rows of one kept row v: none where its right side is the zero, else the mixed row with each dropped row in
-- turn, in normal form
abbrev pub AreMixedOf : {V : Type 0} → Semiring V → Inequality V → List (List V) → List V → List (List V) → Type 0
AreMixedOf R p dropped v fresh = ((dot R p.right v ≡ R.zero) × (fresh ≡ []))
    ⊎ ((dot R p.right v ≢ R.zero) × AllZip (λ w x. Normalises R (mixed R p.left p.right v w) x) dropped fresh)

-- the new rows of each kept row in turn
abbrev pub AreMixed : {V : Type 0} → Semiring V → Inequality V → List (List V) → List (List V) → List (List V) → Type 0
AreMixed R p dropped [] fresh = fresh ≡ []
AreMixed {V} R p dropped (v ∷ kept) fresh = (front : List (List V)) × (rest : List (List V)) × (fresh ≡ front ++ rest)
    × AreMixedOf R p dropped v front × AreMixed R p dropped kept rest

-- the kept rows, and behind them the new rows
pub record IsStepList {V : Type 0} (R : Semiring V) (p : Inequality V) (rows others : List (List V)) : Type 0 where
  pub kept : List (List V)
  pub dropped : List (List V)
  pub fresh : List (List V)
  pub are_kept : AreChosen (IsTrueAt R p) rows kept
  pub are_dropped : AreChosen (λ w. IsTrueAt R p w → ⊥) rows dropped
  pub are_fresh : AreMixed R p dropped kept fresh
  pub in_order : others ≡ kept ++ fresh
