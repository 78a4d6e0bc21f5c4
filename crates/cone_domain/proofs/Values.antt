-- A fresh value has the vectors of its set.
use Rattle.std.proofs.Common.{◌≡◌, ℕ, suc, List, length, MatchOption, sym, ap, ◌∙◌, subst}
use Rattle.std.specs.Prelude.{◌↔◌}
use Rattle.trop_theory.specs.Semiring.{Semiring, SemiringLaws}
use Rattle.trop_theory.specs.Vectors.{AreWide}
use Rattle.trop_theory.specs.Combinations.{IsCombination}
use Rattle.trop_theory.specs.Canonical.{IsCanonical}
use Rattle.trop_theory.proofs.Canonical.{IsCanonical-same}
use Rattle.trop_theory.proofs.Generation.{canonical_generates}
use Rattle.trop_theory.proofs.Combinations.{IsCombination-length}
use Rattle.trop_cones.specs.Cones.{IsCone}
use Rattle.trop_cones.proofs.Cones.{combinations_are_cone}
use Rattle.trop_cones.proofs.Generated.{Generated}
use Rattle.cone_domain.specs.Values.{Value, coordinates, cone_of, Describes, IsValue, IsFreshFor}

-- values with the same parts are the same
pub value_same : {V : Type 0} (v w : Value V) → v.vars ≡ w.vars → v.rows ≡ w.rows → v.kept ≡ w.kept → v ≡ w
value_same v w p q r =
    ap (λ n. record { vars = n; rows = v.rows; kept = v.kept }) p
    ∙ ap (λ g. record { vars = w.vars; rows = g; kept = v.kept }) q
    ∙ ap (λ k. record { vars = w.vars; rows = w.rows; kept = k }) r

module _ {V : Type 0} {R : Semiring V} (laws : SemiringLaws R) where
  pub value_cone : (v : Value V) → IsValue R v → IsCone R (coordinates v) (cone_of R v)
  value_cone v h = combinations_are_cone laws (coordinates v) v.rows h.wide

  -- the canonical rows of a generated set are as wide as the set
  canonical_wide : (n : ℕ) (vectors : List V → Type 0) → ((x : List V) → vectors x → length x ≡ n)
      → (rows : List (List V)) → IsCanonical R vectors rows → AreWide n rows
  canonical_wide n vectors wide rows c k d l = wide _ (c.extreme k d l).member

  -- a fresh value, by rows that generate its set
  pub fresh_same : (vars : ℕ) (vectors : List V → Type 0) (w : Value V) → Generated laws (suc vars) vectors
      → IsFreshFor R vars vectors w → (x : List V) → vectors x ↔ cone_of R w x
  fresh_same vars vectors w g f =
      subst (λ n. (x : List V) → vectors x ↔ IsCombination R (suc n) w.rows x) (sym f.vars_are)
      (canonical_generates laws (suc vars) vectors g.rows w.rows g.wide g.same f.rows_are)

  pub fresh_is_value : (vars : ℕ) (vectors : List V → Type 0) (w : Value V) → Generated laws (suc vars) vectors
      → IsFreshFor R vars vectors w → IsValue R w
  fresh_is_value vars vectors w g f = record {
    wide = subst (λ n. AreWide (suc n) w.rows) (sym f.vars_are)
        (canonical_wide (suc vars) vectors (λ x h. IsCombination-length laws (suc vars) g.rows x g.wide
        ((g.same x).0 h)) w.rows f.rows_are);
    canonical = IsCanonical-same vectors (cone_of R w) (fresh_same vars vectors w g f) w.rows f.rows_are;
    described = subst (λ k. MatchOption k (Unit {0}) (Describes R w)) (sym f.no_list) tt;
  }
