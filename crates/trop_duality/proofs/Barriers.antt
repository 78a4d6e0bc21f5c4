-- A barrier at each coordinate, one entry after another, and its size.
-- Index: high_none, high_skip, high_more, barrier, IsBarrier-barrier, row_size-barrier.
use Rattle.std.proofs.Common.{◌≡◌, ◌≢◌, ◌⊎◌, ◌<◌, ◌≤◌, ◌+◌, ◌*◌, ℕ, zero, suc, List, [], ◌∷◌, ◌++◌, length, take, get_or, inl, inr, ⊎_elim, sym, ap, ◌∙◌, refl, arith, subst}
use Rattle.std.specs.Prelude.{Contains}
use Rattle.std.proofs.lemmas.Bool.{cases_eq}
use Rattle.std.proofs.lemmas.List.{take_more}
use Rattle.std.proofs.lemmas.List.Elements.{Contains-push_cases}
use Rattle.trop_theory.specs.Semiring.{Semiring, SemiringLaws, Le}
use Rattle.trop_theory.specs.Vectors.{entry, row_size, rows_size}
use Rattle.trop_theory.proofs.Order.{le_trans, le-plus_left, le-plus_right, times_mono_left, redo_times}
use Rattle.plain_lemmas.proofs.Lists.{Contains-cons_cases, Contains-none}
use Rattle.trop_cones.proofs.Sizes.{row_size-each, size_entry, size_quotient}
use Rattle.trop_duality.specs.Barriers.{IsHigh, IsBarrierAt, IsBarrier}

module _ {V : Type 0} (R : Semiring V) where
  -- the vector of the first m values of a function
  abbrev listed : (ℕ → V) → ℕ → List V
  listed f zero = []
  listed f (suc m) = f 0 ∷ listed (λ i. f (suc i)) m

  length-listed : (f : ℕ → V) (m : ℕ) → length (listed f m) ≡ m
  length-listed f zero = refl
  length-listed f (suc m) = ap suc (length-listed (λ i. f (suc i)) m)

  entry-listed : (f : ℕ → V) (m i : ℕ) → i < m → entry R (listed f m) i ≡ f i
  entry-listed f zero i l = absurd (omega arith)
  entry-listed f (suc m) zero l = refl
  entry-listed f (suc m) (suc i) l = entry-listed (λ i. f (suc i)) m i (omega arith)

module _ {V : Type 0} {R : Semiring V} (laws : SemiringLaws R) where
  pub high_none : (t j : ℕ) (v : V) → IsHigh R [] t j v
  high_none t j v g c f = absurd (Contains-none g c)

  -- one more row whose entry j is the zero
  high_over : (rows others : List (List V)) (h : List V) (t j : ℕ) (v : V) →
      ((g : List V) → Contains others g → (h ≡ g) ⊎ Contains rows g) → entry R h j ≡ R.zero → IsHigh R rows t j v →
      IsHigh R others t j v
  high_over rows others h t j v cases z high g c f =
      ⊎_elim (λ e. absurd (f (ap (λ r. entry R r j) (sym e) ∙ z))) (λ q. high g q f) (cases g c)

  -- one more row whose entry j is finite
  high_with : (rows others : List (List V)) (h : List V) (t j : ℕ) (v : V) →
      ((g : List V) → Contains others g → (h ≡ g) ⊎ Contains rows g) → entry R h j ≢ R.zero → IsHigh R rows t j v →
      IsHigh R others t j (R.plus v (R.times (entry R h t) (R.inverse (entry R h j))))
  high_with rows others h t j v cases p high g c f = ⊎_elim
      (λ e. subst (λ r. Le R (entry R r t) (R.times (R.plus v (R.times (entry R h t) (R.inverse (entry R h j))))
      (entry R r j))) e
      (subst (λ a. Le R a (R.times (R.plus v (R.times (entry R h t) (R.inverse (entry R h j)))) (entry R h j)))
      (redo_times laws (entry R h j) (entry R h t) p)
      (times_mono_left laws (entry R h j) _ _ (le-plus_right laws _ _))))
      (λ q. le_trans laws _ _ _ (high g q f) (times_mono_left laws (entry R g j) _ _ (le-plus_left laws _ _)))
      (cases g c)

  next : (rows : List (List V)) (k : ℕ) (h : List V) → k < length rows → h ≡ get_or rows k h → (g : List V) →
      Contains (take (k + 1) rows) g → (h ≡ g) ⊎ Contains (take k rows) g
  next rows k h l e g c = ⊎_elim (λ q. inr q) (λ q. inl q)
      (Contains-push_cases (take k rows) h g (subst (λ list. Contains list g)
      (take_more rows k h l ∙ ap (λ r. take k rows ++ r ∷ []) (sym e)) c))

  -- the same in a loop over the rows
  pub high_skip : (rows : List (List V)) (k : ℕ) (h : List V) (t j : ℕ) (v : V) → k < length rows →
      h ≡ get_or rows k h → entry R h j ≡ R.zero → IsHigh R (take k rows) t j v → IsHigh R (take (k + 1) rows) t j v
  high_skip rows k h t j v l e z high = high_over (take k rows) (take (k + 1) rows) h t j v (next rows k h l e) z high

  pub high_more : (rows : List (List V)) (k : ℕ) (h : List V) (t j : ℕ) (v : V) → k < length rows →
      h ≡ get_or rows k h → entry R h j ≢ R.zero → IsHigh R (take k rows) t j v →
      IsHigh R (take (k + 1) rows) t j (R.plus v (R.times (entry R h t) (R.inverse (entry R h j))))
  high_more rows k h t j v l e p high = high_with (take k rows) (take (k + 1) rows) h t j v (next rows k h l e) p high

  -- a value that is high enough, and no larger than twice the rows
  record High (rows : List (List V)) (t j : ℕ) : Type 0 where
    value : V
    enough : IsHigh R rows t j value
    small : R.size value ≤ 2 * rows_size R rows

  high_cons : (h : List V) (rows : List (List V)) (t j : ℕ) → High rows t j → High (h ∷ rows) t j
  high_cons h rows t j rest = ⊎_elim
      (λ z. record {
        value = rest.value;
        enough = high_over rows (h ∷ rows) h t j rest.value (λ g c. Contains-cons_cases h rows g c) z rest.enough;
        small = omega (arith, rest.small);
      })
      (λ p. record {
        value = R.plus rest.value (R.times (entry R h t) (R.inverse (entry R h j)));
        enough = high_with rows (h ∷ rows) h t j rest.value (λ g c. Contains-cons_cases h rows g c) p rest.enough;
        small = omega (
          arith,
          rest.small,
          laws.size_plus rest.value (R.times (entry R h t) (R.inverse (entry R h j))),
          size_quotient laws h h t j p,
        );
      })
      (laws.discrete (entry R h j) R.zero)

  high_of : (rows : List (List V)) (t j : ℕ) → High rows t j
  high_of [] t j = record { value = R.zero; enough = high_none t j R.zero; small = omega (arith, laws.size_zero) }
  high_of (h ∷ rows) t j = high_cons h rows t j (high_of rows t j)

module _ {V : Type 0} {R : Semiring V} (laws : SemiringLaws R) (n : ℕ) (rows : List (List V)) (x : List V) (t : ℕ) where
  record Entry (j : ℕ) : Type 0 where
    value : V
    is : IsBarrierAt R rows x t j value
    small : (m : ℕ) → row_size R x ≤ m → rows_size R rows ≤ m → R.size value ≤ 2 * m + 1

  entry_of : (j : ℕ) → Entry j
  entry_of j = ⊎_elim
      (λ e. record {
        value = R.zero;
        is = record { here = λ e'. refl; finite = λ f. absurd (f e); high = λ f. absurd (f e) };
        small = λ m p q. omega (arith, laws.size_zero);
      })
      (λ f. ⊎_elim (λ z. of_zero f z) (λ q. of_finite f q) (laws.discrete (entry R x j) R.zero))
      (cases_eq j t)
    where
      of_zero : j ≢ t → entry R x j ≡ R.zero → Entry j
      of_zero f z =
          let h : High laws rows t j = high_of laws rows t j in
          record {
            value = h.value;
            is = record { here = λ e. absurd (f e); finite = λ f' q. absurd (q z); high = λ f' z'. h.enough };
            small = λ m p q. omega (arith, h.small);
          }

      of_finite : j ≢ t → entry R x j ≢ R.zero → Entry j
      of_finite f q = record {
        value = R.times (R.times R.delta (entry R x t)) (R.inverse (entry R x j));
        is = record { here = λ e. absurd (f e); finite = λ f' q'. refl; high = λ f' z. absurd (q z) };
        small = λ m p r. omega (
          arith,
          laws.size_times (R.times R.delta (entry R x t)) (R.inverse (entry R x j)),
          laws.size_times R.delta (entry R x t),
          laws.size_inverse (entry R x j) q,
          laws.size_delta,
          size_entry laws x t,
          size_entry laws x j,
        );
      }

  pub barrier : List V
  barrier = listed R (λ j. (entry_of j).value) n

  pub IsBarrier-barrier : IsBarrier R n rows x t barrier
  unfolding barrier
  IsBarrier-barrier = record {
    wide = length-listed R (λ j. (entry_of j).value) n;
    each = λ j l. subst (IsBarrierAt R rows x t j) (sym (entry-listed R (λ j. (entry_of j).value) n j l))
        (entry_of j).is;
  }

  -- a barrier need not be larger than twice what is given, and one
  pub row_size-barrier : (m : ℕ) → row_size R x ≤ m → rows_size R rows ≤ m → row_size R barrier ≤ 2 * m + 1
  unfolding barrier
  row_size-barrier m p q =
      row_size-each R (listed R (λ j. (entry_of j).value) n) (2 * m + 1)
      (λ j l. subst (λ v. R.size v ≤ 2 * m + 1) (sym
      (entry-listed R (λ j. (entry_of j).value) n j (omega (arith, length-listed R (λ j. (entry_of j).value) n))))
      ((entry_of j).small m p q))
