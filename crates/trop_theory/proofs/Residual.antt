-- Membership by residuation: x is a combination where each finite entry is met by a multiple of a row below x.
-- Index: IsCombination-at, met, met_from_IsCombination, IsCombination_from_met, none_meets, meets_from_below,
-- below_from_meets, unmet_apart.
use Rattle.std.proofs.Common.{◌≡◌, ◌≢◌, ◌<◌, ℕ, zero, suc, List, [], ◌∷◌, length, ⊎_elim, sym, ap, ◌∙◌, refl, arith, subst, get_or}
use Rattle.std.specs.Prelude.{All, Any}
use Rattle.std.proofs.lemmas.List.{length-map, get_or_past}
use Rattle.std.proofs.lemmas.List.Elements.{All-head, All-tail}
use Rattle.std.proofs.lemmas.Bool.{cases_lt}
use Rattle.trop_theory.specs.Semiring.{Semiring, SemiringLaws, Le}
use Rattle.trop_theory.specs.Vectors.{entry, scaled, joined, bottom, Below}
use Rattle.trop_theory.specs.Combinations.{combined, IsCombination}
use Rattle.trop_theory.specs.Residual.{Meets, IsFirstUnmet}
use Rattle.trop_theory.proofs.Order.{le_refl, le_trans, le-plus_left, le-plus_right, plus-least, zero_below, below_zero, le_antisym, factor_finite, undo_times, redo_times}
use Rattle.trop_theory.proofs.Rows.{same_rows, entry-joined, entry-scaled, entry-bottom}
use Rattle.trop_theory.proofs.Combinations.{length-combined, IsCombination-length, IsCombination-bottom, IsCombination-joined, IsCombination-scaled, IsCombination-cons, IsCombination-head}
use Rattle.plain_lemmas.proofs.Lists.{Any-cons, Any-head}

module _ {V : Type 0} {R : Semiring V} (laws : SemiringLaws R) (n : ℕ) where
  -- a row of the list is a combination
  pub IsCombination-at : (rows : List (List V)) (k : ℕ) (d : List V) → All (λ g. length g ≡ n) rows → k < length rows →
      IsCombination R n rows (get_or rows k d)
  IsCombination-at [] k d w l = absurd (omega arith)
  IsCombination-at (g ∷ rows) zero d w l = IsCombination-head laws n g rows w
  IsCombination-at (g ∷ rows) (suc k) d w l = IsCombination-cons laws n g rows _ w
      (IsCombination-at rows k d (All-tail (λ g. length g ≡ n) g rows w) (omega arith))

  -- each finite entry of a combination is met
  pub met : (cs : List V) (rows : List (List V)) (x : List V) → All (λ g. length g ≡ n) rows → length x ≡ n →
      Below R (combined R n cs rows) x → (t : ℕ) → entry R (combined R n cs rows) t ≡ entry R x t →
      entry R x t ≢ R.zero → Any (Meets R x t) rows
  met [] rows x w l b t e f = absurd (f (sym e ∙ entry-bottom R n t))
  met (c ∷ cs) [] x w l b t e f = absurd (f (sym e ∙ entry-bottom R n t))
  met (c ∷ cs) (g ∷ rows) x w l b t e f =
      let wide = All-head (λ g. length g ≡ n) g rows w in
      let rest_wide = All-tail (λ g. length g ≡ n) g rows w in
      let same : length (scaled R c g) ≡ length (combined R n cs rows) =
      length-map g (R.times c) ∙ wide ∙ sym (length-combined laws n cs rows rest_wide) in
      let at = entry-joined laws (scaled R c g) (combined R n cs rows) same in
      let front : Below R (scaled R c g) x = λ i. le_trans laws _ _ _
      (subst (λ v. Le R (entry R (scaled R c g) i) v) (sym (at i)) (le-plus_left laws _ _)) (b i) in
      let back : Below R (combined R n cs rows) x =
      λ i. le_trans laws _ _ _ (subst (λ v. Le R (entry R (combined R n cs rows) i) v) (sym (at i))
      (le-plus_right laws _ _)) (b i) in
      ⊎_elim
      (λ p. Any-head (Meets R x t) g rows (record {
        multiple = c;
        below = front;
        meets =
            sym (entry-scaled laws c g t) ∙ sym p ∙ sym (at t) ∙ e;
      }))
      (λ q. Any-cons (Meets R x t) g rows (met cs rows x rest_wide l back t (sym q ∙ sym (at t) ∙ e) f))
      (laws.selective (entry R (scaled R c g) t) (entry R (combined R n cs rows) t))

  pub met_from_IsCombination : (rows : List (List V)) (x : List V) → All (λ g. length g ≡ n) rows →
      IsCombination R n rows x → (t : ℕ) → entry R x t ≢ R.zero → Any (Meets R x t) rows
  met_from_IsCombination rows x w h t f =
      met h.coefficients rows x w (IsCombination-length laws n rows x w h)
      (λ i. subst (λ v. Le R v (entry R x i)) (ap (λ y. entry R y i) h.is_sum) (le_refl laws _)) t
      (ap (λ y. entry R y t) (sym h.is_sum)) f

  -- a combination below x that agrees with it below m
  record UpTo (rows : List (List V)) (x : List V) (m : ℕ) : Type 0 where
    part : List V
    comb : IsCombination R n rows part
    below : Below R part x
    agrees : (t : ℕ) → t < m → entry R part t ≡ entry R x t

  up_to_more : (rows : List (List V)) (x : List V) → All (λ g. length g ≡ n) rows → (m : ℕ) → UpTo rows x m →
      (entry R x m ≢ R.zero → Any (Meets R x m) rows) → UpTo rows x (suc m)
  up_to_more rows x w m u h = ⊎_elim stays joins (laws.discrete (entry R x m) R.zero)
    where
      -- the entry is met already
      reached : (part : List V) → Below R part x → ((t : ℕ) → t < m → entry R part t ≡ entry R x t) →
          entry R part m ≡ entry R x m → (t : ℕ) → t < suc m → entry R part t ≡ entry R x t
      reached part b a e t l = ⊎_elim (λ q. a t q)
          (λ q. ap (entry R part) (omega arith) ∙ e ∙ ap (entry R x) (omega arith)) (cases_lt t m)

      stays : entry R x m ≡ R.zero → UpTo rows x (suc m)
      stays z = record {
        part = u.part;
        comb = u.comb;
        below = u.below;
        agrees = reached u.part u.below u.agrees (below_zero laws _
            (subst (λ v. Le R (entry R u.part m) v) z (u.below m)) ∙ sym z);
      }

      with_row : Any (Meets R x m) rows → UpTo rows x (suc m)
      with_row any =
          let g = any.1 in
          let k = any.4 in
          let c : IsCombination R n rows (scaled R k.multiple g) =
          IsCombination-scaled laws n rows k.multiple g
          (subst (IsCombination R n rows) any.3 (IsCombination-at rows any.0 g w any.2)) in
          let same : length u.part ≡ length (scaled R k.multiple g) =
          IsCombination-length laws n rows _ w u.comb ∙ sym (IsCombination-length laws n rows _ w c) in
          let at = entry-joined laws u.part (scaled R k.multiple g) same in
          let b : Below R (joined R u.part (scaled R k.multiple g)) x =
          λ i. subst (λ v. Le R v (entry R x i)) (sym (at i)) (plus-least laws _ _ _ (u.below i) (k.below i)) in
          let covers : (i : ℕ) → Le R (entry R u.part i) (entry R (joined R u.part (scaled R k.multiple g)) i) =
          λ i. subst (λ v. Le R (entry R u.part i) v) (sym (at i)) (le-plus_left laws _ _) in
          record {
            part = joined R u.part (scaled R k.multiple g);
            comb = IsCombination-joined laws n rows _ _ u.comb c;
            below = b;
            agrees = reached (joined R u.part (scaled R k.multiple g)) b
                (λ t l. le_antisym laws _ _ (b t) (subst
                (λ v. Le R v (entry R (joined R u.part (scaled R k.multiple g)) t)) (u.agrees t l) (covers t)))
                (le_antisym laws _ _ (b m)
                (subst (λ v. Le R v (entry R (joined R u.part (scaled R k.multiple g)) m))
                (entry-scaled laws k.multiple g m ∙ k.meets)
                (subst (λ v. Le R (entry R (scaled R k.multiple g) m) v) (sym (at m)) (le-plus_right laws _ _))));
          }

      joins : entry R x m ≢ R.zero → UpTo rows x (suc m)
      joins f = with_row (h f)

  up_to : (rows : List (List V)) (x : List V) → All (λ g. length g ≡ n) rows →
      ((t : ℕ) → entry R x t ≢ R.zero → Any (Meets R x t) rows) → (m : ℕ) → UpTo rows x m
  up_to rows x w h zero = record {
    part = bottom R n;
    comb = IsCombination-bottom laws n rows w;
    below = λ i. subst (λ v. Le R v (entry R x i)) (sym (entry-bottom R n i)) (zero_below laws _);
    agrees = λ t l. absurd (omega arith);
  }
  up_to rows x w h (suc m) = up_to_more rows x w m (up_to rows x w h m) (h m)

  pub IsCombination_from_met : (rows : List (List V)) (x : List V) → All (λ g. length g ≡ n) rows → length x ≡ n →
      ((t : ℕ) → entry R x t ≢ R.zero → Any (Meets R x t) rows) → IsCombination R n rows x
  IsCombination_from_met rows x w l h =
      let u = up_to rows x w h n in
      let wide : length u.part ≡ n = IsCombination-length laws n rows _ w u.comb in
      let same : u.part ≡ x = same_rows R u.part x (wide ∙ sym l)
      (λ i. ⊎_elim (λ q. u.agrees i q) (λ q. get_or_past u.part i R.zero (omega arith)
      ∙ sym (get_or_past x i R.zero (omega arith))) (cases_lt i n)) in
      subst (IsCombination R n rows) same u.comb

module _ {V : Type 0} {R : Semiring V} (laws : SemiringLaws R) where
  -- a row that is zero at t meets no finite entry
  pub none_meets : (x g : List V) (t : ℕ) → entry R g t ≡ R.zero → entry R x t ≢ R.zero → Meets R x t g → ⊥
  none_meets x g t z f m = factor_finite laws m.multiple (entry R g t) (entry R x t) m.meets f z

  -- the only multiple to try
  pub meets_from_below : (x g : List V) (t : ℕ) → entry R g t ≢ R.zero →
      Below R (scaled R (R.times (entry R x t) (R.inverse (entry R g t))) g) x → Meets R x t g
  meets_from_below x g t f b = record {
    multiple = R.times (entry R x t) (R.inverse (entry R g t));
    below = b;
    meets = redo_times laws (entry R g t) (entry R x t) f;
  }

  pub below_from_meets : (x g : List V) (t : ℕ) → entry R g t ≢ R.zero → Meets R x t g →
      Below R (scaled R (R.times (entry R x t) (R.inverse (entry R g t))) g) x
  below_from_meets x g t f m =
      subst (λ c. Below R (scaled R c g) x) (undo_times laws (entry R g t) m.multiple (entry R x t) f m.meets) m.below

  -- a vector with a coordinate that no row meets is no combination
  pub unmet_apart : (n : ℕ) (rows : List (List V)) (x : List V) (t : ℕ) → All (λ g. length g ≡ n) rows →
      IsFirstUnmet R rows x t → IsCombination R n rows x → ⊥
  unmet_apart n rows x t w h c = h.unmet (met_from_IsCombination laws n rows x w c t h.finite)
