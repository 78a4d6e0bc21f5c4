-- The image of a cone by an operation of a program.
-- X. Allamigeon, S. Gaubert, E. Goubault: Inferring min and max invariants using max-plus polyhedra (2008).
use Rattle.std.specs.Prelude.{◌≢◌, ◌⊎◌, ℕ, Bool, List}
use Rattle.trop_theory.specs.Semiring.{Semiring}
use Rattle.trop_theory.specs.Vectors.{entry}
use Rattle.trop_theory.specs.Numbers.{Numbering}
use Rattle.trop_theory.specs.Inequalities.{InGuard}
use Rattle.trop_cones.specs.Sets.{InForget, InAssign, IsBottom}
use Rattle.prog_theory.specs.Edges.{Op, Skips, Sets, Havocs, Guards}
use Rattle.cone_reports.specs.Sides.{guard_inequality}

-- the vectors that the operation makes of those of the set
abbrev pub InMoved : {V : Type 0} → Semiring V → Numbering V → Bool → ℕ → Op → (List V → Type 0) → List V → Type 0
InMoved R N reversed n Skips vectors = vectors
InMoved R N reversed n (Sets x t) vectors = InAssign R vectors x t.coord (N.of t.add)
InMoved R N reversed n (Havocs x) vectors = InForget R vectors x
InMoved R N reversed n (Guards l r) vectors = InGuard R vectors (guard_inequality R N reversed n l r)

-- A point of the set is a vector whose coordinate 0 is finite. Where there is none, the set has no state.
pub record HasPoint {V : Type 0} (R : Semiring V) (vectors : List V → Type 0) : Type 0 where
  pub point : List V
  pub member : vectors point
  pub finite : entry R point 0 ≢ R.zero

-- the set where it has a point, and else bottom alone
abbrev pub InPointed : {V : Type 0} → Semiring V → ℕ → (List V → Type 0) → List V → Type 0
InPointed R n vectors x = (HasPoint R vectors × vectors x) ⊎ ((HasPoint R vectors → ⊥) × IsBottom R n x)

-- the image of a cone in n coordinates
abbrev pub InImage : {V : Type 0} → Semiring V → Numbering V → Bool → ℕ → Op → (List V → Type 0) → List V → Type 0
InImage R N reversed n op cone = InPointed R n (InMoved R N reversed n op cone)
