-- Steps of the loops over entries.
use Rattle.std.proofs.Common.{◌≡◌, ◌≢◌, ◌<◌, ◌≤◌, ◌+◌, ◌++◌, ℕ, zero, suc, List, [], ◌∷◌, length, map, take, drop, get_or, sym, ap, ◌∙◌, refl, arith, subst, ⊎_elim}
use Rattle.std.proofs.lemmas.List.{get_or_past, get_or-map, length-map}
use Rattle.std.proofs.lemmas.Bool.{cases_lt}
use Rattle.trop_theory.specs.Semiring.{Semiring, SemiringLaws, Le}
use Rattle.trop_theory.specs.Vectors.{entry, scaled, Below, row_size, AreWide}
use Rattle.trop_theory.specs.Combinations.{IsCombination}
use Rattle.trop_theory.specs.Normal.{Normalises}
use Rattle.trop_theory.specs.Residual.{Meets}
use Rattle.std.specs.Prelude.{Any}
use Rattle.trop_theory.proofs.Residual.{IsCombination_from_met, none_meets, meets_from_below, below_from_meets}
use Rattle.trop_theory.proofs.Order.{times_zero, zero_below}
use Rattle.trop_theory.proofs.Rows.{entry-scaled}
use Rattle.std.proofs.Common.{ap₂}
use Rattle.trop_theory.proofs.Sizes.{entry_read, size-entry}

-- after i entries the next one still stands
pub kept_at : {X : Type 0} (f : X → X) (x now : List X) (i : ℕ) (d : X) → i < length x →
    now ≡ map f (take i x) ++ drop i x → get_or now i d ≡ get_or x i d
kept_at f [] now i d l h = absurd (omega arith)
kept_at f (a ∷ x) now zero d l h = ap (λ w. get_or w 0 d) h
kept_at f (a ∷ x) now (suc i) d l h = ap (λ w. get_or w (suc i) d) h ∙
    kept_at f x (map f (take i x) ++ drop i x) i d (omega arith) refl

-- a multiple of a front is the front of the multiple
pub scaled-take : {V : Type 0} (R : Semiring V) (c : V) (i : ℕ) (x : List V) →
    scaled R c (take i x) ≡ take i (scaled R c x)
scaled-take R c zero x = refl
scaled-take R c (suc i) [] = refl
scaled-take R c (suc i) (a ∷ x) = ap (λ w. R.times c a ∷ w) (scaled-take R c i x)

module _ {V : Type 0} {R : Semiring V} (laws : SemiringLaws R) where
  -- what a product that was read says where the multiple lies below
  pub below_at : (c : V) (row above : List V) (i : ℕ) (r t a : V) → r ≡ get_or row i r → t ≡ R.times c r →
      a ≡ get_or above i a → i < length row → i < length above → Below R (scaled R c row) above → Le R t a
  below_at c row above i r t a er et ea lr la h =
      subst (λ v. Le R v a) (entry-scaled laws c row i ∙ ap (R.times c) (entry_read R row i r er lr) ∙ sym et)
      (subst (λ v. Le R (entry R (scaled R c row) i) v) (entry_read R above i a ea la) (h i))

  -- all entries were compared
  pub below_all : (c : V) (row above : List V) (i : ℕ) → length row ≡ length above → length row ≤ i →
      ((k : ℕ) → k < i → Le R (R.times c (entry R row k)) (entry R above k)) → Below R (scaled R c row) above
  below_all c row above i l far h k =
      subst (λ v. Le R v (entry R above k)) (sym (entry-scaled laws c row k))
      (⊎_elim (h k)
      (λ q. subst (λ v. Le R v (entry R above k)) (sym (ap (R.times c) (get_or_past row k R.zero (omega arith)) ∙
      times_zero laws c)) (zero_below laws _))
      (cases_lt k i))

-- a product that was read is the entry of the multiple
pub read_scaled : {V : Type 0} (R : Semiring V) (c : V) (x : List V) (i : ℕ) (r t : V) → r ≡ get_or x i r →
    t ≡ R.times c r → i < length x → t ≡ get_or (scaled R c x) i t
read_scaled R c x i r t er et l = et ∙ ap (R.times c) er ∙ sym (get_or-map (R.times c) x i r t l)

module _ {V : Type 0} {R : Semiring V} (laws : SemiringLaws R) where
  pub zero_read : (x row : List V) (t : ℕ) (r : V) → r ≡ get_or row t r → t < length row → r ≡ R.zero →
      entry R x t ≢ R.zero → Meets R x t row → ⊥
  zero_read x row t r er lr z f = none_meets laws x row t (entry_read R row t r er lr ∙ z) f

  pub meets_read : (x row : List V) (t : ℕ) (r a inv c : V) → r ≡ get_or row t r → a ≡ get_or x t a → t < length row →
      t < length x → inv ≡ R.inverse r → c ≡ R.times a inv → r ≢ R.zero →
      (Below R (scaled R c row) x → Meets R x t row) × (Meets R x t row → Below R (scaled R c row) x)
  meets_read x row t r a inv c er ea lr la ei ec f =
      let er' : entry R row t ≡ r = entry_read R row t r er lr in
      let ec' : c ≡ R.times (entry R x t) (R.inverse (entry R row t)) = ec ∙
      ap₂ R.times (sym (entry_read R x t a ea la)) (ei ∙ ap R.inverse (sym er')) in
      let f' : entry R row t ≢ R.zero = λ z. f (sym er' ∙ z) in (
        λ b. meets_from_below laws x row t f' (subst (λ v. Below R (scaled R v row) x) ec' b),
        λ m. subst (λ v. Below R (scaled R v row) x) (sym ec') (below_from_meets laws x row t f' m),
      )

  pub size_of_quotient : (x row : List V) (t : ℕ) (r a inv : V) (m n : ℕ) → r ≡ get_or row t r → a ≡ get_or x t a →
      t < length row → t < length x → inv ≡ R.inverse r → r ≢ R.zero → row_size R x ≤ m → row_size R row ≤ n →
      R.size a + R.size inv ≤ m + n
  size_of_quotient x row t r a inv m n er ea lr la ei f bx br =
      omega (
        arith,
        ap R.size er,
        ap R.size ea,
        ap R.size ei,
        laws.size_inverse r f,
        size-entry R row t r lr,
        size-entry
            R x t a la,
      )

-- all entries were met
pub all_met : {V : Type 0} {R : Semiring V} (laws : SemiringLaws R) (rows : List (List V)) (x : List V) (i : ℕ) →
    AreWide (length x) rows → length x ≤ i → ((k : ℕ) → k < i → entry R x k ≢ R.zero → Any (Meets R x k) rows) →
    IsCombination R (length x) rows x
all_met {V} {R} laws rows x i w far h =
    IsCombination_from_met laws (length x) rows x w refl (λ t f. ⊎_elim (λ q. h t q f)
    (λ q. absurd (f (get_or_past x t R.zero (omega arith)))) (cases_lt t i))

module _ {V : Type 0} {R : Semiring V} (laws : SemiringLaws R) where
  pub size_of_inverse : (x : List V) (i : ℕ) (r inv : V) → r ≡ get_or x i r → i < length x → entry R x i ≢ R.zero →
      inv ≡ R.inverse r → R.size inv ≤ row_size R x
  size_of_inverse x i r inv er l f ei =
      omega (
        arith,
        ap R.size ei,
        laws.size_inverse r (λ z. f (entry_read R x i r er l ∙ z)),
        ap R.size er,
        size-entry R
            x i r l,
      )

  -- scaled by the inverse of its first finite entry
  pub normalised : (old new : List V) (i : ℕ) (r inv : V) → r ≡ get_or old i r → i < length old →
      entry R old i ≢ R.zero → ((k : ℕ) → k < i → entry R old k ≡ R.zero) → inv ≡ R.inverse r → new ≡ scaled R inv old →
      Normalises R old new
  normalised old new i r inv er l f before ei en = record {
    factor = inv;
    finite = inverse_finite;
    multiple = en;
    normal = record {
      first = i;
      within = omega (arith, ap length en, length-map old (R.times inv));
      is_one = at i ∙ laws.times_comm inv (entry R old i) ∙ ap (R.times (entry R old i)) (ei ∙ ap R.inverse (sym read))
          ∙ laws.invertible (entry R old i) f;
      before = λ k q. at k ∙ ap (R.times inv) (before k q) ∙ times_zero laws inv;
    };
  }
    where
      read : entry R old i ≡ r
      read = entry_read R old i r er l

      at : (k : ℕ) → entry R new k ≡ R.times inv (entry R old k)
      at k = ap (λ v. entry R v k) en ∙ entry-scaled laws inv old k

      inverse_finite : inv ≢ R.zero
      inverse_finite z =
          laws.one_finite (sym (laws.invertible (entry R old i) f) ∙
          ap (R.times (entry R old i)) (ap R.inverse read ∙ sym ei ∙ z) ∙ times_zero laws (entry R old i))
