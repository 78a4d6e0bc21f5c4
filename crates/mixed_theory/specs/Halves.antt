-- Images in two halves: what an operation does to the variables, and then what it does to their opposites.
use Rattle.std.specs.Prelude.{◌≡◌, ◌⊎◌, ◌/◌, ℕ, false, Option, Some, None, MatchOption}
use Rattle.trop_theory.specs.Semiring.{Semiring}
use Rattle.trop_theory.specs.Numbers.{Numbering}
use Rattle.prog_theory.specs.Edges.{Op, Skips, Sets, Havocs, Guards}
use Rattle.prog_theory.specs.Fits.{FitsOp}
use Rattle.dom_theory.specs.Refusals.{Whole}
use Rattle.dom_theory.specs.Relations.{Apply, Cause}
use Rattle.cone_domain.specs.Values.{Value}
use Rattle.cone_domain.specs.Operations.{IsImage}
use Rattle.cone_domain.specs.Refused.{IsRefused}
use Rattle.mixed_theory.specs.Twins.{opposite, opposite_term}

-- Among d variables the first half is the operation itself, and this is the second: the same of the opposites. Nothing
-- has one half.
abbrev pub second_half : ℕ → Op → Option Op
second_half d Skips = None
second_half d (Sets x t) = Some (Sets (opposite d x) (opposite_term d t))
second_half d (Havocs x) = Some (Havocs (opposite d x))
second_half d (Guards l r) = Some (Guards (opposite_term d r) (opposite_term d l))

-- the variables of a polyhedron that has a coordinate for each of them and one for its opposite
abbrev pub variables : {V : Type 0} → Value V → ℕ
variables v = v.vars / 2

-- by this half the first value becomes the second
abbrev pub IsHalf : {V : Type 0} → Semiring V → Numbering V → Option Op → Value V → Value V → Type 0
IsHalf R N None v w = w ≡ v
IsHalf R N (Some op) v w = IsImage R N false op v w

-- The image of v by the operation. Each half is bottom alone where it leaves no vector with a finite coordinate 0.
pub record IsMixedImage {V : Type 0} (R : Semiring V) (N : Numbering V) (op : Op) (v w : Value V) : Type 0 where
  pub fits : FitsOp (variables v) op
  pub between : Value V
  pub first : IsImage R N false op v between
  pub second : IsHalf R N (second_half (variables v) op) between w

-- the image by this operation, which is one half, is refused
abbrev pub IsHalfRefused : {V : Type 0} → Semiring V → Numbering V → Op → Value V → Cause → Type 0
IsHalfRefused R N op v cause = IsRefused R N false (Apply op v) cause Whole

-- the first half isn't refused, and the second is
pub record IsSecondRefused {V : Type 0} (R : Semiring V) (N : Numbering V) (op : Op) (v : Value V)
    (cause : Cause) : Type 0 where
  pub between : Value V
  pub first : IsImage R N false op v between
  pub free : (c : Cause) → IsHalfRefused R N op v c → ⊥
  pub refused : MatchOption (second_half (variables v) op) ⊥ (λ half. IsHalfRefused R N half between cause)

-- the halves are judged in their order
abbrev pub IsImageRefused : {V : Type 0} → Semiring V → Numbering V → Op → Value V → Cause → Type 0
IsImageRefused R N op v cause = IsHalfRefused R N op v cause ⊎ IsSecondRefused R N op v cause
