-- What is told of the terms of the code is told of those of the sides that they stand for.
use Rattle.std.proofs.Common.{◌≡◌, ◌⊎◌, inl, inr, ⊎_elim, true, false, true≢false, sym, ◌∙◌, subst₂, ℕ, List, map, get_or}
use Rattle.std.specs.Prelude.{◌↔◌, Bool, IsTrue, All, Any}
use Rattle.trop_theory.specs.Semiring.{Semiring}
use Rattle.trop_theory.specs.Numbers.{Numbering}
use Rattle.trop_theory.specs.Combinations.{IsCombination}
use Rattle.trop_row.specs.Lists.{RowList}
use Rattle.prog_theory.specs.States as theory
use Rattle.prog_tree.specs.declared.term.Term.{Term}
use Rattle.prog_tree.specs.Terms.{term_of}
use Rattle.prog_theory.specs.Statements.{Side}
use Rattle.mixed_theory.specs.Claims.{IsSumBelow, IsOppositeBelow, IsPairBelow, IsEachBelow, IsSomeBelow, IsSideBelow}
use Rattle.mixed_claims.specs.declared.sums.Reading.TheVariants.{Own, Opposite}
use Rattle.mixed_claims.specs.Sides.{AreSidesOn}
use Rattle.mixed_claims.specs.Terms.{read_terms, IsPairOn, IsAlikeBelow, IsMixedBelow}
use Rattle.mixed_claims.proofs.Readings.{opposites_read}
use Rattle.mixed_claims.proofs.Searches.{each_mapped, some_mapped}

pub swapped : {V : Type 0} (R : Semiring V) (d : ℕ) (rows : RowList V) (ls rs : List theory.Term)
    → AreSidesOn R d rows ls rs → AreSidesOn R d rows rs ls
swapped R d rows ls rs h = record {
  few = h.few;
  left_fits = h.right_fits;
  right_fits = h.left_fits;
  wide = h.wide;
  size = h.size;
}

through : {P Q : Type 0} (b : Bool) → IsTrue b ↔ P → P ↔ Q → IsTrue b ↔ Q
through b h k = (λ t. k.0 (h.0 t), λ q. h.1 (k.1 q))

module _ {V : Type 0} (R : Semiring V) (N : Numbering V) (d : ℕ) (rows : RowList V) (first second : List Term)
    (ls rs : List theory.Term) (is_first : map term_of first ≡ ls) (is_second : map term_of second ≡ rs)
    (b : Bool) where
  abbrev C : List V → Type 0
  C = IsCombination R rows.n rows.rows

  pub own_told : IsTrue b ↔ IsSumBelow R N d rows.n C (read_terms Own d first) (read_terms Own d second)
      → IsTrue b ↔ IsSumBelow R N d rows.n C ls rs
  own_told h = subst₂ (λ x y. IsTrue b ↔ IsSumBelow R N d rows.n C x y) is_first is_second h

  pub opposite_told : IsTrue b ↔ IsSumBelow R N d rows.n C (read_terms Opposite d second) (read_terms Opposite d first)
      → IsTrue b ↔ IsOppositeBelow R N d rows.n C ls rs
  opposite_told h = subst₂ (λ x y. IsTrue b ↔ IsOppositeBelow R N d rows.n C x y) is_first is_second
      (subst₂ (λ x y. IsTrue b ↔ IsSumBelow R N d rows.n C x y) (opposites_read d second) (opposites_read d first) h)

  abbrev P : theory.Term → theory.Term → Type 0
  P = IsPairBelow R N d rows.n C

  pub each_told : IsTrue b ↔ All (λ l. All (IsPairOn R N d rows l) second) first
      → IsTrue b ↔ IsEachBelow R N d rows.n C ls rs
  each_told h = subst₂ (λ x y. IsTrue b ↔ IsEachBelow R N d rows.n C x y) is_first is_second
      (through b (through b h (inner, outer))
      (each_mapped (λ l. All (P l) (map term_of second)) term_of first))
    where
      inner : All (λ l. All (IsPairOn R N d rows l) second) first
          → All (λ l. All (P (term_of l)) (map term_of second)) first
      inner h k t l = (each_mapped (P (term_of (get_or first k t))) term_of second).0 (h k t l)

      outer : All (λ l. All (P (term_of l)) (map term_of second)) first
          → All (λ l. All (IsPairOn R N d rows l) second) first
      outer h k t l = (each_mapped (P (term_of (get_or first k t))) term_of second).1 (h k t l)

  pub some_told : IsTrue b ↔ Any (λ l. Any (IsPairOn R N d rows l) second) first
      → IsTrue b ↔ IsSomeBelow R N d rows.n C ls rs
  some_told h = subst₂ (λ x y. IsTrue b ↔ IsSomeBelow R N d rows.n C x y) is_first is_second
      (through b (through b h (inner, outer))
      (some_mapped (λ l. Any (P l) (map term_of second)) term_of first))
    where
      inner : Any (λ l. Any (IsPairOn R N d rows l) second) first
          → Any (λ l. Any (P (term_of l)) (map term_of second)) first
      inner h = (h.0, h.1, h.2, h.3, (some_mapped (P (term_of h.1)) term_of second).0 h.4)

      outer : Any (λ l. Any (P (term_of l)) (map term_of second)) first
          → Any (λ l. Any (IsPairOn R N d rows l) second) first
      outer h = (h.0, h.1, h.2, h.3, (some_mapped (P (term_of h.1)) term_of second).1 h.4)

-- ---- a choice of two, one judged behind the other
pub or_then : {P S : Type 0} (a : Bool) → IsTrue a ↔ P → a ≡ true → (P → S) → IsTrue a ↔ S
or_then a h t k = (λ u. k (h.0 u), λ s. t)

pub or_else : {P Q S : Type 0} (a b : Bool) → IsTrue a ↔ P → IsTrue b ↔ Q → a ≡ false → (P ⊎ Q) ↔ S → IsTrue b ↔ S
or_else a b h g f k = (
  λ t. k.0 (inr (g.0 t)),
  λ s. ⊎_elim (λ p. absurd (true≢false (sym (h.1 p) ∙ f))) (λ q. g.1 q) (k.1 s),
)

pub inl_of : {P Q : Type 0} → P → P ⊎ Q
inl_of p = inl p

pub same : {P : Type 0} → P ↔ P
same = (λ p. p, λ p. p)

-- ---- both of two, one judged behind the other
pub and_then : {P Q : Type 0} (a b : Bool) → IsTrue a ↔ P → IsTrue b ↔ Q → a ≡ true → IsTrue b ↔ (P × Q)
and_then a b h g t = (λ u. (h.0 t, g.0 u), λ p. g.1 p.1)

pub and_else : {P Q : Type 0} (a : Bool) → IsTrue a ↔ P → a ≡ false → IsTrue a ↔ (P × Q)
and_else a h f = (λ u. absurd (true≢false (sym u ∙ f)), λ p. h.1 p.0)

module _ {V : Type 0} (R : Semiring V) (N : Numbering V) (d : ℕ) (rows : RowList V) (l r : Side) where
  abbrev Below : Type 0
  Below = IsSideBelow R N d rows.n (IsCombination R rows.n rows.rows) l r

  pub from_alike : IsAlikeBelow R N d rows l r → Below
  from_alike (inl h) = inl (h.0.0, h.0.1, h.1)
  from_alike (inr h) = inr (inl (h.0.0, h.0.1, h.1))

  from_mixed : IsMixedBelow R N d rows l r → Below
  from_mixed (inl h) = inr (inr (inl (h.0.0, h.0.1, h.1)))
  from_mixed (inr h) = inr (inr (inr (h.0.0, h.0.1, h.1)))

  either : Below → IsAlikeBelow R N d rows l r ⊎ IsMixedBelow R N d rows l r
  either (inl h) = inl (inl ((h.0, h.1), h.2))
  either (inr (inl h)) = inl (inr ((h.0, h.1), h.2))
  either (inr (inr (inl h))) = inr (inl ((h.0, h.1), h.2))
  either (inr (inr (inr h))) = inr (inr ((h.0, h.1), h.2))

  pub below_is_either : (IsAlikeBelow R N d rows l r ⊎ IsMixedBelow R N d rows l r) ↔ Below
  below_is_either = (λ h. ⊎_elim from_alike from_mixed h, either)
