-- What makes a list of rows the canonical list of their combinations.
-- Index: drop_small, below_delta, IsCombination-least, All-IsCombination, SplitOff, split_off, extreme_from_alone,
-- multiple_from_extreme, same_from_multiple, Contains-extreme, IsExtreme-same, IsCanonical-same,
-- IsCanonical-from_alone, IsCombination-remove.
use Rattle.std.proofs.Common.{◌≡◌, ◌≢◌, ◌⊎◌, ◌<◌, ◌≤◌, ◌+◌, ◌-◌, ℕ, zero, suc, List, [], ◌∷◌, length, inl, inr, ⊎_elim, sym, ap, ◌∙◌, refl, arith, subst, get_or}
use Rattle.std.specs.Prelude.{All, Any, AllPairs, remove, Contains, ◌↔◌}
use Rattle.std.proofs.lemmas.List.{length-map, get_or_default}
use Rattle.std.proofs.lemmas.Bool.{cases_lt}
use Rattle.std.proofs.lemmas.List.Edits.{get_or-remove_below, get_or-remove_above, length-remove}
use Rattle.std.proofs.lemmas.List.Elements.{All-head, All-tail, All-append, All-take, All-drop}
use Rattle.trop_theory.specs.Semiring.{Semiring, SemiringLaws, Le}
use Rattle.trop_theory.specs.Vectors.{entry, scaled, joined, bottom}
use Rattle.trop_theory.specs.Normal.{IsNormal}
use Rattle.trop_theory.specs.Combinations.{combined, IsCombination}
use Rattle.trop_theory.specs.Extreme.{IsExtreme}
use Rattle.trop_theory.specs.Canonical.{RowBelow, IsCanonical}
use Rattle.trop_theory.proofs.Order.{le_trans, le-plus_left, le-plus_right, plus-least, below_zero, le_antisym, times_one, times_mono_left, undo_times, left_factor_finite, times_zero}
use Rattle.plain_lemmas.proofs.Operations.{swap_middle}
use Rattle.trop_theory.proofs.Rows.{same_rows, entry-joined, entry-scaled, entry-bottom, length-joined, joined_assoc, joined_comm, scaled_one}
use Rattle.std.proofs.Common.{ap₂}
use Rattle.trop_theory.proofs.Combinations.{IsCombination-length, IsCombination-bottom, IsCombination-joined, IsCombination-scaled}
use Rattle.trop_theory.proofs.Residual.{IsCombination-at}
use Rattle.plain_lemmas.proofs.Lists.{Any-head, Any-cons, All-remove}

module _ {V : Type 0} {R : Semiring V} (laws : SemiringLaws R) where
  -- a value that is the sum of small multiples of itself and of others is the sum of the others
  pub drop_small : (g c d p q : V) → g ≡ R.plus (R.plus (R.times c g) p) (R.plus (R.times d g) q) → Le R c R.delta →
      Le R d R.delta → g ≡ R.plus p q
  drop_small g c d p q e hc hd = ⊎_elim if_zero if_finite (laws.discrete g R.zero)
    where
      regrouped : g ≡ R.plus (R.plus (R.times c g) (R.times d g)) (R.plus p q)
      regrouped = e ∙ swap_middle R.plus laws.plus_assoc laws.plus_comm (R.times c g) p (R.times d g) q

      rest_below : Le R (R.plus p q) g
      rest_below = subst (λ v. Le R (R.plus p q) v) (sym regrouped) (le-plus_right laws _ _)

      if_zero : g ≡ R.zero → g ≡ R.plus p q
      if_zero z = z ∙ sym (below_zero laws (R.plus p q) (subst (λ v. Le R (R.plus p q) v) z rest_below))

      front_below : Le R (R.plus (R.times c g) (R.times d g)) (R.times R.delta g)
      front_below = plus-least laws _ _ _ (times_mono_left laws g c R.delta hc) (times_mono_left laws g d R.delta hd)

      impossible : g ≢ R.zero → R.plus (R.plus (R.times c g) (R.times d g)) (R.plus p q) ≡ R.plus (R.times c g)
          (R.times d g) → ⊥
      impossible f s =
          let low : Le R g (R.times R.delta g) = subst (λ v. Le R v (R.times R.delta g))
          (sym (regrouped ∙ s)) front_below in
          let high : Le R (R.times R.delta g) g = subst (λ v. Le R (R.times R.delta g) v) (laws.one_neutral g)
          (times_mono_left laws g R.delta R.one laws.delta_below) in
          let same : R.times R.delta g ≡ g = le_antisym laws _ _ high low in
          laws.delta_differs (undo_times laws g R.delta g f same ∙ laws.invertible g f)

      if_finite : g ≢ R.zero → g ≡ R.plus p q
      if_finite f = ⊎_elim (λ s. absurd (impossible f s)) (λ s. regrouped ∙ s)
          (laws.selective (R.plus (R.times c g) (R.times d g)) (R.plus p q))

  pub below_delta : (c : V) → Le R c R.one → c ≢ R.one → Le R c R.delta
  below_delta c h d = subst (λ v. Le R c v) (times_one laws R.delta) (laws.delta_next c R.one h d)

module _ {V : Type 0} {R : Semiring V} (laws : SemiringLaws R) (n : ℕ) where
  least : (cs : List V) (rows others : List (List V)) → All (λ g. length g ≡ n) others →
      All (IsCombination R n others) rows → IsCombination R n others (combined R n cs rows)
  least [] rows others w h = IsCombination-bottom laws n others w
  least (c ∷ cs) [] others w h = IsCombination-bottom laws n others w
  least (c ∷ cs) (g ∷ rows) others w h =
      IsCombination-joined laws n others _ _ (IsCombination-scaled laws n others c g
      (All-head (IsCombination R n others) g rows h))
      (least cs rows others w (All-tail (IsCombination R n others) g rows h))

  -- combinations of combinations
  pub IsCombination-least : (rows others : List (List V)) (x : List V) → All (λ g. length g ≡ n) others →
      All (IsCombination R n others) rows → IsCombination R n rows x → IsCombination R n others x
  IsCombination-least rows others x w h k = subst (IsCombination R n others) (sym k.is_sum)
      (least k.coefficients rows others w h)

  pub All-IsCombination : (rows : List (List V)) → All (λ g. length g ≡ n) rows → All (IsCombination R n rows) rows
  All-IsCombination rows w k d l = IsCombination-at laws n rows k d w l

  -- a combination as a multiple of one row and a combination of the others
  pub record SplitOff (g : List V) (others : List (List V)) (y : List V) : Type 0 where
    pub factor : V
    pub rest : List V
    pub comb : IsCombination R n others rest
    pub sum : y ≡ joined R (scaled R factor g) rest

  split : (cs : List V) (rows : List (List V)) (k : ℕ) (d : List V) → All (λ g. length g ≡ n) rows →
      length cs ≡ length rows → k < length rows → SplitOff (get_or rows k d) (remove rows k) (combined R n cs rows)
  split cs [] k d w e l = absurd (omega arith)
  split [] (g ∷ rows) k d w e l = absurd (omega arith)
  split (c ∷ cs) (g ∷ rows) zero d w e l = record {
    factor = c;
    rest = combined R n cs rows;
    comb = record { coefficients = cs; one_each = omega arith; is_sum = refl };
    sum = refl;
  }
  split (c ∷ cs) (g ∷ rows) (suc k) d w e l =
      let s = split cs rows k d (All-tail (λ g. length g ≡ n) g rows w) (omega arith) (omega arith) in
      record {
        factor = s.factor;
        rest = joined R (scaled R c g) s.rest;
        comb = record {
          coefficients = c ∷ s.comb.coefficients;
          one_each = ap suc s.comb.one_each;
          is_sum = ap (joined R (scaled R c g)) s.comb.is_sum;
        };
        sum =
            ap (joined R (scaled R c g)) s.sum
            ∙ sym (joined_assoc laws (scaled R c g) (scaled R s.factor (get_or rows k d)) s.rest)
            ∙ ap (λ v. joined R v s.rest) (joined_comm laws (scaled R c g) (scaled R s.factor (get_or rows k d)))
            ∙ joined_assoc laws (scaled R s.factor (get_or rows k d)) (scaled R c g) s.rest;
      }

  pub split_off : (rows : List (List V)) (k : ℕ) (d y : List V) → All (λ g. length g ≡ n) rows → k < length rows →
      IsCombination R n rows y → SplitOff (get_or rows k d) (remove rows k) y
  split_off rows k d y w l h = subst (SplitOff (get_or rows k d) (remove rows k)) (sym h.is_sum)
      (split h.coefficients rows k d w h.one_each l)

  -- an entry of a sum of two rows of one length, with the first multiplied
  entry_of_split : (c : V) (g r y : List V) → y ≡ joined R (scaled R c g) r → length g ≡ n → length r ≡ n → (i : ℕ) →
      entry R y i ≡ R.plus (R.times c (entry R g i)) (entry R r i)
  entry_of_split c g r y e lg lr i =
      ap (λ v. entry R v i) e ∙ entry-joined laws (scaled R c g) r (length-map g (R.times c) ∙ lg ∙ sym lr) i
      ∙ ap (λ v. R.plus v (entry R r i)) (entry-scaled laws c g i)

  -- a part of a sum that is above the whole is the whole
  part_is_whole : (g y z r : List V) → length g ≡ n → length y ≡ n →
      ((i : ℕ) → entry R g i ≡ R.plus (entry R y i) (entry R z i)) →
      ((i : ℕ) → entry R y i ≡ R.plus (entry R g i) (entry R r i)) → g ≡ y
  part_is_whole g y z r lg ly e f =
      same_rows R g y (lg ∙ sym ly) (λ i. le_antisym laws _ _
      (subst (λ v. Le R (entry R g i) v) (sym (f i)) (le-plus_left laws _ _))
      (subst (λ v. Le R (entry R y i) v) (sym (e i)) (le-plus_left laws _ _)))

  -- a row in normal form that is no combination of the others is extreme
  pub extreme_from_alone : (rows : List (List V)) (k : ℕ) (d : List V) → All (λ g. length g ≡ n) rows →
      k < length rows → IsNormal R (get_or rows k d) → (IsCombination R n (remove rows k) (get_or rows k d) → ⊥) →
      IsExtreme R (IsCombination R n rows) (get_or rows k d)
  extreme_from_alone rows k d w l normal alone = record {
    member = IsCombination-at laws n rows k d w l;
    not_bottom = λ e. laws.one_finite (sym normal.is_one ∙ ap (λ v. entry R v normal.first) e
        ∙ entry-bottom R (length g) normal.first);
    unsplit = λ y z hy hz e. unsplit y z hy hz e;
  }
    where
      g : List V
      g = get_or rows k d

      wide : length (get_or rows k d) ≡ n
      wide = w k d l

      others_wide : All (λ g. length g ≡ n) (remove rows k)
      others_wide = All-remove (λ g. length g ≡ n) rows k w

      unsplit : (y z : List V) → IsCombination R n rows y → IsCombination R n rows z → get_or rows k d ≡ joined R y z →
          (get_or rows k d ≡ y) ⊎ (get_or rows k d ≡ z)
      unsplit y z hy hz e =
          let sy = split_off rows k d y w l hy in
          let sz = split_off rows k d z w l hz in
          let ly : length y ≡ n = IsCombination-length laws n rows y w hy in
          let lz : length z ≡ n = IsCombination-length laws n rows z w hz in
          let ry : length sy.rest ≡ n = IsCombination-length laws n (remove rows k) sy.rest others_wide sy.comb in
          let rz : length sz.rest ≡ n = IsCombination-length laws n (remove rows k) sz.rest others_wide sz.comb in
          cases y z sy.factor sy.rest sz.factor sz.rest ly lz ry rz sy.comb sz.comb
          (λ i. ap (λ v. entry R v i) e ∙ entry-joined laws y z (ly ∙ sym lz) i)
          (entry_of_split sy.factor g sy.rest y sy.sum wide ry)
          (entry_of_split sz.factor g sz.rest z sz.sum wide rz)
        where
          cases : (y z : List V) (c : V) (p : List V) (b : V) (q : List V) → length y ≡ n → length z ≡ n →
              length p ≡ n → length q ≡ n → IsCombination R n (remove rows k) p → IsCombination R n (remove rows k) q →
              ((i : ℕ) → entry R g i ≡ R.plus (entry R y i) (entry R z i)) →
              ((i : ℕ) → entry R y i ≡ R.plus (R.times c (entry R g i)) (entry R p i)) →
              ((i : ℕ) → entry R z i ≡ R.plus (R.times b (entry R g i)) (entry R q i)) → (g ≡ y) ⊎ (g ≡ z)
          cases y z c p b q ly lz lp lq hp hq eg ey ez =
              ⊎_elim first (λ nc. ⊎_elim second (λ nb. absurd (alone (neither nc nb))) (laws.discrete b R.one))
              (laws.discrete c R.one)
            where
              first : c ≡ R.one → (g ≡ y) ⊎ (g ≡ z)
              first e = inl (part_is_whole g y z p wide ly eg
                  (λ i. ey i ∙ ap (λ v. R.plus v (entry R p i))
                  (ap (λ v. R.times v (entry R g i)) e ∙ laws.one_neutral (entry R g i))))

              second : b ≡ R.one → (g ≡ y) ⊎ (g ≡ z)
              second e = inr (part_is_whole g z y q wide lz (λ i. eg i ∙ laws.plus_comm _ _)
                  (λ i. ez i ∙ ap (λ v. R.plus v (entry R q i))
                  (ap (λ v. R.times v (entry R g i)) e ∙ laws.one_neutral (entry R g i))))

              at_one : (v : V) (r : List V) (t : List V) →
                  ((i : ℕ) → entry R t i ≡ R.plus (R.times v (entry R g i)) (entry R r i)) →
                  Le R (entry R t normal.first) (entry R g normal.first) → Le R v R.one
              at_one v r t et h =
                  let up : Le R v (entry R t normal.first) =
                  subst (λ u. Le R u (entry R t normal.first)) (ap (R.times v) normal.is_one ∙ times_one laws v)
                  (subst (λ u. Le R (R.times v (entry R g normal.first)) u) (sym (et normal.first))
                  (le-plus_left laws _ _)) in
                  le_trans laws v (entry R t normal.first) R.one up
                  (subst (λ u. Le R (entry R t normal.first) u) normal.is_one h)

              neither : c ≢ R.one → b ≢ R.one → IsCombination R n (remove rows k) g
              neither nc nb =
                  let hc : Le R c R.delta = below_delta laws c
                  (at_one c p y ey (subst (λ v. Le R (entry R y normal.first) v) (sym (eg normal.first))
                  (le-plus_left laws _ _))) nc in
                  let hb : Le R b R.delta = below_delta laws b
                  (at_one b q z ez (subst (λ v. Le R (entry R z normal.first) v) (sym (eg normal.first))
                  (le-plus_right laws _ _))) nb in
                  let same : joined R p q ≡ g = same_rows R (joined R p q) g (length-joined R p q n lp lq ∙ sym wide)
                  (λ i. entry-joined laws p q (lp ∙ sym lq) i
                  ∙ sym (drop_small laws (entry R g i) c b (entry R p i) (entry R q i)
                  (eg i ∙ ap₂ R.plus (ey i) (ez i)) hc hb)) in
                  subst (IsCombination R n (remove rows k)) same (IsCombination-joined laws n (remove rows k) p q hp hq)

  -- an extreme vector of a cone that has the rows is a multiple of a row
  row_from_extreme : (cone : List V → Type 0) (x : List V) → IsExtreme R cone x →
      ((y : List V) → cone y → length y ≡ n) → ((cs : List V) (rows : List (List V)) → All cone rows →
      cone (combined R n cs rows)) → ((c : V) (y : List V) → cone y → cone (scaled R c y)) →
      (cs : List V) (rows : List (List V)) → All cone rows → x ≡ combined R n cs rows →
      Any (λ g. (c : V) × (x ≡ scaled R c g)) rows
  row_from_extreme cone x h lengths sums multiples [] rows w e =
      absurd (h.not_bottom (e ∙ ap (bottom R) (sym (lengths x h.member))))
  row_from_extreme cone x h lengths sums multiples (c ∷ cs) [] w e =
      absurd (h.not_bottom (e ∙ ap (bottom R) (sym (lengths x h.member))))
  row_from_extreme cone x h lengths sums multiples (c ∷ cs) (g ∷ rows) w e =
      ⊎_elim
      (λ p. Any-head (λ g. (c : V) × (x ≡ scaled R c g)) g rows (c, p))
      (λ q. Any-cons (λ g. (c : V) × (x ≡ scaled R c g)) g rows
      (row_from_extreme cone x h lengths sums multiples cs rows (All-tail cone g rows w) q))
      (h.unsplit (scaled R c g) (combined R n cs rows) (multiples c g (All-head cone g rows w))
      (sums cs rows (All-tail cone g rows w)) e)

  -- an extreme vector of the combinations of rows is a multiple of a row
  pub multiple_from_extreme : (rows : List (List V)) (x : List V) → All (λ g. length g ≡ n) rows →
      IsExtreme R (IsCombination R n rows) x → Any (λ g. (c : V) × (x ≡ scaled R c g)) rows
  multiple_from_extreme rows x w h =
      row_from_extreme (IsCombination R n rows) x h (λ y k. IsCombination-length laws n rows y w k)
      (λ cs rs k. least cs rs rows w k) (λ c y k. IsCombination-scaled laws n rows c y k)
      h.member.coefficients rows (All-IsCombination rows w) h.member.is_sum

  -- two rows in normal form, one a multiple of the other, are the same
  pub same_from_multiple : (x g : List V) (c : V) → IsNormal R x → IsNormal R g → x ≡ scaled R c g → x ≡ g
  same_from_multiple x g c hx hg e = e ∙ ap (λ v. scaled R v g) is_one ∙ scaled_one laws g
    where
      at : (i : ℕ) → entry R x i ≡ R.times c (entry R g i)
      at i = ap (λ v. entry R v i) e ∙ entry-scaled laws c g i

      c_finite : c ≢ R.zero
      c_finite = left_factor_finite laws c (entry R g hx.first) R.one (sym (at hx.first) ∙ hx.is_one) laws.one_finite

      not_before : hx.first < hg.first → ⊥
      not_before l = laws.one_finite (sym hx.is_one ∙ at hx.first ∙ ap (R.times c) (hg.before hx.first l)
          ∙ times_zero laws c)

      not_after : hg.first < hx.first → ⊥
      not_after l =
          c_finite (sym (times_one laws c) ∙ ap (R.times c) (sym hg.is_one) ∙ sym (at hg.first) ∙ hx.before hg.first l)

      same_place : hx.first ≡ hg.first
      same_place = ⊎_elim (λ l. absurd (not_before l))
          (λ h. ⊎_elim (λ l. absurd (not_after l)) (λ h'. omega arith) (cases_lt hg.first hx.first))
          (cases_lt hx.first hg.first)

      is_one : c ≡ R.one
      is_one = sym (times_one laws c) ∙ ap (R.times c) (sym hg.is_one ∙ ap (entry R g) (sym same_place))
          ∙ sym (at hx.first) ∙ hx.is_one

  -- an extreme vector in normal form is one of the rows, where these are in normal form
  pub Contains-extreme : (rows : List (List V)) (x : List V) → All (λ g. length g ≡ n) rows → All (IsNormal R) rows →
      IsNormal R x → IsExtreme R (IsCombination R n rows) x → Contains rows x
  Contains-extreme rows x w normal hx h =
      let found = multiple_from_extreme rows x w h in
      let g = found.1 in
      let same : x ≡ g = same_from_multiple x g found.4.0 hx (subst (IsNormal R) found.3 (normal found.0 g found.2))
      found.4.1 in
      (found.0, found.2, get_or_default rows found.0 x g found.2 ∙ found.3 ∙ sym same)

module _ {V : Type 0} {R : Semiring V} where
  pub IsExtreme-same : (C D : List V → Type 0) → ((x : List V) → C x ↔ D x) → (x : List V) → IsExtreme R C x →
      IsExtreme R D x
  IsExtreme-same C D e x h = record {
    member = (e x).0 h.member;
    not_bottom = h.not_bottom;
    unsplit = λ y z hy hz s. h.unsplit y z ((e y).1 hy) ((e z).1 hz) s;
  }

  pub IsCanonical-same : (C D : List V → Type 0) → ((x : List V) → C x ↔ D x) → (rows : List (List V)) →
      IsCanonical R C rows → IsCanonical R D rows
  IsCanonical-same C D e rows h = record {
    ascending = h.ascending;
    normal = h.normal;
    extreme = λ k d l. IsExtreme-same C D e _ (h.extreme k d l);
    complete = λ x normal extreme. h.complete x normal (IsExtreme-same D C (λ y. ((e y).1, (e y).0)) x extreme);
  }

module _ {V : Type 0} {R : Semiring V} (laws : SemiringLaws R) (n : ℕ) where
  pub IsCanonical-from_alone : (rows : List (List V)) → All (λ g. length g ≡ n) rows → AllPairs (RowBelow R) rows →
      All (IsNormal R) rows → ((k : ℕ) (d : List V) → k < length rows →
      IsCombination R n (remove rows k) (get_or rows k d) → ⊥) → IsCanonical R (IsCombination R n rows) rows
  IsCanonical-from_alone rows w ascending normal alone = record {
    ascending = ascending;
    normal = normal;
    extreme = λ k d l. extreme_from_alone laws n rows k d w l (normal k d l) (alone k d l);
    complete = λ x hx h. Contains-extreme laws n rows x w normal hx h;
  }

  -- a row that is a combination of the others may go
  pub IsCombination-remove : (rows : List (List V)) (k : ℕ) (d : List V) → All (λ g. length g ≡ n) rows →
      k < length rows → IsCombination R n (remove rows k) (get_or rows k d) → (x : List V) →
      IsCombination R n rows x ↔ IsCombination R n (remove rows k) x
  IsCombination-remove rows k d w l h x = (
    λ c. IsCombination-least laws n rows (remove rows k) x others_wide each c,
    λ c. IsCombination-least laws n (remove rows k) rows x w
        (All-remove (IsCombination R n rows) rows k (All-IsCombination laws n rows w)) c,
  )
    where
      others_wide : All (λ g. length g ≡ n) (remove rows k)
      others_wide = All-remove (λ g. length g ≡ n) rows k w

      each : All (IsCombination R n (remove rows k)) rows
      each j e m = ⊎_elim before (λ q. after (cases_lt k j) q) (cases_lt j k)
        where
          before : j < k → IsCombination R n (remove rows k) (get_or rows j e)
          before q =
              let here : j < length (remove rows k) = omega (arith, length-remove rows k l) in
              subst (IsCombination R n (remove rows k)) (get_or-remove_below rows k e j q l)
              (IsCombination-at laws n (remove rows k) j e others_wide here)

          later : (i : ℕ) → j ≡ i + 1 → k < j → IsCombination R n (remove rows k) (get_or rows j e)
          later i p q =
              let here : i < length (remove rows k) = omega (arith, length-remove rows k l) in
              subst (IsCombination R n (remove rows k))
              (get_or-remove_above rows k e i (omega arith) l ∙ ap (λ v. get_or rows v e) (sym p))
              (IsCombination-at laws n (remove rows k) i e others_wide here)

          after : (k < j) ⊎ (j ≤ k) → k ≤ j → IsCombination R n (remove rows k) (get_or rows j e)
          after (inl q) h' = later (j - 1) (omega arith) q
          after (inr q) h' =
              let same : k ≡ j = omega arith in
              subst (IsCombination R n (remove rows k)) (get_or_default rows k d e l ∙ ap (λ v. get_or rows v e) same) h
