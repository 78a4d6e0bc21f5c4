-- When rows represent a cone.
use Rattle.std.proofs.Common.{◌≡◌, ◌≤◌, ℕ, List, length}
use Rattle.std.specs.Prelude.{All, ◌↔◌}
use Rattle.trop_theory.specs.Semiring.{Semiring, SemiringLaws}
use Rattle.trop_theory.specs.Combinations.{IsCombination}
use Rattle.trop_theory.specs.Canonical.{IsCanonical, row_limit}
use Rattle.trop_theory.proofs.Canonical.{IsCanonical-same}
use Rattle.trop_theory.proofs.Generation.{canonical_generates}
use Rattle.trop_cones.specs.Represents.{Represents}

module _ {V : Type 0} {R : Semiring V} (laws : SemiringLaws R) (n : ℕ) where
  -- the canonical list of a generated cone, within the limit
  pub Represents-canonical : (cone : List V → Type 0) (gens rows : List (List V)) → All (λ g. length g ≡ n) gens →
      ((x : List V) → cone x ↔ IsCombination R n gens x) → IsCanonical R cone rows → length rows ≤ row_limit →
      Represents R n cone rows
  Represents-canonical cone gens rows w same canonical within = record {
    canonical = canonical;
    generates = canonical_generates laws n cone gens rows w same canonical;
    within = within;
  }

-- it represents each cone with the same vectors
pub Represents-same : {V : Type 0} {R : Semiring V} (n : ℕ) (cone other : List V → Type 0) →
    ((x : List V) → cone x ↔ other x) → (rows : List (List V)) → Represents R n cone rows → Represents R n other rows
Represents-same n cone other same rows h = record {
  canonical = IsCanonical-same cone other same rows h.canonical;
  generates = λ x. (λ c. (h.generates x).0 ((same x).1 c), λ c. (same x).0 ((h.generates x).1 c));
  within = h.within;
}

-- so rows that represent a cone represent their combinations
pub Represents-itself : {V : Type 0} {R : Semiring V} (n : ℕ) (cone : List V → Type 0) (rows : List (List V)) →
    Represents R n cone rows → Represents R n (IsCombination R n rows) rows
Represents-itself n cone rows h = Represents-same n cone (IsCombination _ n rows) h.generates rows h
