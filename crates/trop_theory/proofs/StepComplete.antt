-- Each combination that the inequality holds of is a combination of the rows that the step gives.
-- Index: IsStep, complete.
use Rattle.std.proofs.Common.{◌≡◌, ◌≢◌, ℕ, zero, suc, List, [], ◌∷◌, length, ⊎_elim, sym, ap, ◌∙◌, refl, arith, subst, get_or, ◌⊎◌}
use Rattle.std.specs.Prelude.{All, Contains}
use Rattle.std.proofs.lemmas.List.{length-map, length-replicate, get_or_default}
use Rattle.std.proofs.lemmas.List.Elements.{All-head, All-tail, All-cons, All-nil, All-contains}
use Rattle.trop_theory.specs.Semiring.{Semiring, SemiringLaws, Le}
use Rattle.trop_theory.specs.Vectors.{scaled, joined, bottom, dot}
use Rattle.trop_theory.specs.Combinations.{combined, IsCombination}
use Rattle.trop_theory.specs.Steps.{mixed}
use Rattle.trop_theory.proofs.Truth.{HoldsOf}
use Rattle.trop_theory.proofs.Order.{plus_itself, le_trans, le_total, le-plus_left, le-plus_right, times_mono, times_mono_left, plus_zero, times_zero, zero_below, below_zero, factor_finite, left_factor_finite, redo_times, undo_times, times_one}
use Rattle.trop_theory.proofs.Rows.{joined_assoc, joined_comm, scaled-joined, scaled-scaled, scaled_plus, scaled_zero, joined_bottom}
use Rattle.std.proofs.Common.{ap₂}
use Rattle.trop_theory.proofs.Combinations.{length-combined, IsCombination-joined, IsCombination-scaled}
use Rattle.trop_theory.proofs.Canonical.{IsCombination-least}
use Rattle.trop_theory.proofs.SameCones.{IsCombination-contained}
use Rattle.trop_theory.proofs.StepLaws.{dot-joined, dot-scaled}

-- The rows that the step gives: each kept row, and each mixed row of a kept one with b.v finite and a dropped one.
pub record IsStep {V : Type 0} (R : Semiring V) (a b : List V) (rows others : List (List V)) : Type 0 where
  pub kept : (v : List V) → Contains rows v → HoldsOf R a b v → Contains others v
  pub mixes : (v w : List V) → Contains rows v → Contains rows w → HoldsOf R a b v → dot R b v ≢ R.zero →
      (HoldsOf R a b w → ⊥) → Contains others (mixed R a b v w)
  pub only : (x : List V) → Contains others x → (Contains rows x × HoldsOf R a b x)
      ⊎ ((v : List V) × (w : List V) × Contains rows v × Contains rows w × HoldsOf R a b v × (HoldsOf R a b w → ⊥)
      × (x ≡ mixed R a b v w))

module _ {V : Type 0} {R : Semiring V} (laws : SemiringLaws R) where
  joined_itself : (x : List V) → joined R x x ≡ x
  joined_itself [] = refl
  joined_itself (a ∷ x) = ap₂ (λ h t. h ∷ t) (plus_itself laws a) (joined_itself x)

  -- a sum in another order
  joined_left : (x y z : List V) → joined R x (joined R y z) ≡ joined R y (joined R x z)
  joined_left x y z = sym (joined_assoc laws x y z) ∙ ap (λ v. joined R v z) (joined_comm laws x y)
      ∙ joined_assoc laws y x z

  -- a smaller multiple is absorbed where a greater one is
  absorbs_less : (v p : List V) (e c : V) → Le R e c → joined R (scaled R c v) p ≡ p → joined R (scaled R e v) p ≡ p
  absorbs_less v p e c h a =
      ap (joined R (scaled R e v)) (sym a)
      ∙ sym (joined_assoc laws (scaled R e v) (scaled R c v) p)
      ∙ ap (λ s. joined R s p) (sym (scaled_plus laws e c v) ∙ ap (λ t. scaled R t v) h)
      ∙ a

  cancel_le : (d x y : V) → d ≢ R.zero → Le R (R.times d x) (R.times d y) → Le R x y
  cancel_le d x y f h = subst (λ v. Le R v y) (undo x)
      (subst (λ v. Le R (R.times (R.inverse d) (R.times d x)) v) (undo y)
      (times_mono laws (R.inverse d) (R.times d x) (R.times d y) h))
    where
      undo : (z : V) → R.times (R.inverse d) (R.times d z) ≡ z
      undo z = sym (laws.times_assoc (R.inverse d) d z)
          ∙ ap (λ v. R.times v z) (laws.times_comm (R.inverse d) d ∙ laws.invertible d f) ∙ laws.one_neutral z

module _ {V : Type 0} {R : Semiring V} (laws : SemiringLaws R) (n : ℕ) where
  -- a row of the sum that reaches its product with b
  record Attained (b : List V) (rows : List (List V)) (p : List V) : Type 0 where
    row : List V
    factor : V
    contained : Contains rows row
    value : dot R b p ≡ R.times factor (dot R b row)
    absorbed : joined R (scaled R factor row) p ≡ p

  attained : (b : List V) (cs : List V) (rows : List (List V)) → All (λ g. length g ≡ n) rows →
      dot R b (combined R n cs rows) ≢ R.zero → Attained b rows (combined R n cs rows)
  attained b [] rows w f = absurd (f (dot-bottom b n))
    where
      dot-bottom : (b : List V) (m : ℕ) → dot R b (bottom R m) ≡ R.zero
      dot-bottom [] m = refl
      dot-bottom (c ∷ b) zero = refl
      dot-bottom (c ∷ b) (suc m) = ap₂ R.plus (times_zero laws c) (dot-bottom b m) ∙ plus_zero laws R.zero
  attained b (c ∷ cs) [] w f = absurd (f (dot-bottom b n))
    where
      dot-bottom : (b : List V) (m : ℕ) → dot R b (bottom R m) ≡ R.zero
      dot-bottom [] m = refl
      dot-bottom (c ∷ b) zero = refl
      dot-bottom (c ∷ b) (suc m) = ap₂ R.plus (times_zero laws c) (dot-bottom b m) ∙ plus_zero laws R.zero
  attained b (c ∷ cs) (g ∷ rows) w f =
      let rest = combined R n cs rows in
      let wide_rest = All-tail (λ g. length g ≡ n) g rows w in
      let same : length (scaled R c g) ≡ length (combined R n cs rows) =
      length-map g (R.times c) ∙ All-head (λ g. length g ≡ n) g rows w
      ∙ sym (length-combined laws n cs rows wide_rest) in
      let sum : dot R b (joined R (scaled R c g) (combined R n cs rows)) ≡ R.plus (dot R b (scaled R c g))
      (dot R b (combined R n cs rows)) = dot-joined laws b (scaled R c g) (combined R n cs rows) same in
      ⊎_elim
      (λ e. record {
        row = g;
        factor = c;
        contained = (0, omega arith, refl);
        value = sum ∙ e ∙ dot-scaled laws b g c;
        absorbed = sym (joined_assoc laws (scaled R c g) (scaled R c g) (combined R n cs rows))
            ∙ ap (λ v. joined R v (combined R n cs rows)) (joined_itself laws (scaled R c g));
      })
      (λ e.
      let r = attained b cs rows wide_rest (λ z. f (sum ∙ e ∙ z)) in
      record {
        row = r.row;
        factor = r.factor;
        contained = (suc r.contained.0, omega (arith, r.contained.1), r.contained.2);
        value = sum ∙ e ∙ r.value;
        absorbed = joined_left laws (scaled R r.factor r.row) (scaled R c g) (combined R n cs rows)
            ∙ ap (joined R (scaled R c g)) r.absorbed;
      })
      (laws.selective (dot R b (scaled R c g)) (dot R b (combined R n cs rows)))

  module _ (a b : List V) (rows others : List (List V)) (wide : All (λ g. length g ≡ n) rows)
      (wide_others : All (λ g. length g ≡ n) others) (step : IsStep R a b rows others) where
    abbrev IsKept : List V → Type 0
    IsKept v = Contains rows v × HoldsOf R a b v

    abbrev IsDropped : List V → Type 0
    IsDropped w = Contains rows w × (HoldsOf R a b w → ⊥)

    length_of : (v : List V) → Contains rows v → length v ≡ n
    length_of v h = All-contains (λ g. length g ≡ n) rows v wide h

    -- a multiple of a dropped row on top of a sum that has enough of a kept one
    add_dropped : (p v w : List V) (c d : V) → IsCombination R n others p → Contains rows v → HoldsOf R a b v →
        Contains rows w → (HoldsOf R a b w → ⊥) → joined R (scaled R c v) p ≡ p → dot R b v ≢ R.zero →
        Le R (R.times d (dot R a w)) (R.times c (dot R b v)) → IsCombination R n others (joined R (scaled R d w) p)
    add_dropped p v w c d hp cv kv cw kw absorbed f h =
        let m : V = R.times d (R.inverse (dot R b v)) in
        let row : IsCombination R n others (mixed R a b v w) =
        IsCombination-contained laws n others (mixed R a b v w) wide_others (step.mixes v w cv cw kv f kw) in
        let first : V = R.times (R.times d (R.inverse (dot R b v))) (dot R a w) in
        let small : Le R (R.times (R.times d (R.inverse (dot R b v))) (dot R a w)) c =
        subst (λ t. Le R t c) (sym (laws.times_assoc d (R.inverse (dot R b v)) (dot R a w)
        ∙ ap (R.times d) (laws.times_comm (R.inverse (dot R b v)) (dot R a w))
        ∙ sym (laws.times_assoc d (dot R a w) (R.inverse (dot R b v)))))
        (subst (λ t. Le R (R.times (R.times d (dot R a w)) (R.inverse (dot R b v))) t)
        (laws.times_assoc c (dot R b v) (R.inverse (dot R b v)) ∙ ap (R.times c) (laws.invertible (dot R b v) f)
        ∙ times_one laws c)
        (times_mono_left laws (R.inverse (dot R b v)) _ _ h)) in
        let parts : scaled R (R.times d (R.inverse (dot R b v))) (mixed R a b v w) ≡ joined R
        (scaled R (R.times (R.times d (R.inverse (dot R b v))) (dot R a w)) v) (scaled R d w) =
        scaled-joined laws m _ _ ∙ ap₂ (joined R) (scaled-scaled laws m (dot R a w) v)
        (scaled-scaled laws m (dot R b v) w ∙ ap (λ t. scaled R t w) (redo_times laws (dot R b v) d f)) in
        let total : joined R (scaled R (R.times d (R.inverse (dot R b v))) (mixed R a b v w)) p ≡ joined R
        (scaled R d w) p =
        ap (λ t. joined R t p) parts ∙ joined_assoc laws (scaled R first v) (scaled R d w) p
        ∙ joined_left laws (scaled R first v) (scaled R d w) p
        ∙ ap (joined R (scaled R d w)) (absorbs_less laws v p first c small absorbed) in
        subst (IsCombination R n others) total (IsCombination-joined laws n others _ _
        (IsCombination-scaled laws n others m (mixed R a b v w) row) hp)

    -- a dropped row has more on the left
    more_left : (w : List V) → (HoldsOf R a b w → ⊥) → Le R (dot R b w) (dot R a w)
    more_left w k = ⊎_elim (λ h. absurd (k h)) (λ h. h) (le_total laws (dot R a w) (dot R b w))

    left_finite : (w : List V) → (HoldsOf R a b w → ⊥) → dot R a w ≢ R.zero
    left_finite w k z = k (subst (λ v. Le R v (dot R b w)) (sym z) (zero_below laws (dot R b w)))

    -- dropped rows one after another, on top of a sum of kept ones
    add_all : (ds : List V) (dropped : List (List V)) (k : List V) → length k ≡ n → IsCombination R n others k →
        All IsDropped dropped → (att : Attained b rows k) → HoldsOf R a b att.row → dot R b k ≢ R.zero →
        Le R (dot R a (combined R n ds dropped)) (dot R b k) → All (λ g. length g ≡ n) dropped →
        IsCombination R n others (joined R (combined R n ds dropped) k)
    add_all [] dropped k lk hk w att ha f h wd = subst (IsCombination R n others)
        (sym (joined_bottom laws k) ∙ ap (λ m. joined R (bottom R m) k) lk) hk
    add_all (d ∷ ds) [] k lk hk w att ha f h wd = subst (IsCombination R n others)
        (sym (joined_bottom laws k) ∙ ap (λ m. joined R (bottom R m) k) lk) hk
    add_all (d ∷ ds) (g ∷ dropped) k lk hk w att ha f h wd =
        let rest = combined R n ds dropped in
        let wide_rest = All-tail (λ g. length g ≡ n) g dropped wd in
        let head = All-head IsDropped g dropped w in
        let same : length (scaled R d g) ≡ length (combined R n ds dropped) =
        length-map g (R.times d) ∙ All-head (λ g. length g ≡ n) g dropped wd
        ∙ sym (length-combined laws n ds dropped wide_rest) in
        let sum : dot R a (joined R (scaled R d g) (combined R n ds dropped)) ≡ R.plus (R.times d (dot R a g))
        (dot R a (combined R n ds dropped)) = dot-joined laws a (scaled R d g) (combined R n ds dropped) same
        ∙ ap (λ t. R.plus t (dot R a (combined R n ds dropped))) (dot-scaled laws a g d) in
        let below : Le R (R.plus (R.times d (dot R a g)) (dot R a (combined R n ds dropped))) (dot R b k) =
        subst (λ t. Le R t (dot R b k)) sum h in
        let front : Le R (R.times d (dot R a g)) (dot R b k) = le_trans laws _ _ _ (le-plus_left laws _ _) below in
        let back : Le R (dot R a (combined R n ds dropped)) (dot R b k) =
        le_trans laws _ _ _ (le-plus_right laws _ _) below in
        let inner : IsCombination R n others (joined R (combined R n ds dropped) k) =
        add_all ds dropped k lk hk (All-tail IsDropped g dropped w) att ha f back wide_rest in
        let absorbed : joined R (scaled R att.factor att.row) (joined R (combined R n ds dropped) k) ≡ joined R
        (combined R n ds dropped) k = joined_left laws _ _ _
        ∙ ap (joined R (combined R n ds dropped)) att.absorbed in
        subst (IsCombination R n others) (sym (joined_assoc laws (scaled R d g) (combined R n ds dropped) k))
        (add_dropped (joined R (combined R n ds dropped) k) att.row g att.factor d inner att.contained ha head.0 head.1
        absorbed
        (factor_finite laws att.factor (dot R b att.row) (dot R b k) (sym att.value) f)
        (subst (λ t. Le R (R.times d (dot R a g)) t) att.value front))

    -- dropped rows whose products with a are zero add nothing
    add_none : (ds : List V) (dropped : List (List V)) (k : List V) → length k ≡ n → All IsDropped dropped →
        All (λ g. length g ≡ n) dropped → dot R a (combined R n ds dropped) ≡ R.zero →
        joined R (combined R n ds dropped) k ≡ k
    add_none [] dropped k lk w wd z = ap (λ m. joined R (bottom R m) k) (sym lk) ∙ joined_bottom laws k
    add_none (d ∷ ds) [] k lk w wd z = ap (λ m. joined R (bottom R m) k) (sym lk) ∙ joined_bottom laws k
    add_none (d ∷ ds) (g ∷ dropped) k lk w wd z =
        let wide_rest = All-tail (λ g. length g ≡ n) g dropped wd in
        let lg = All-head (λ g. length g ≡ n) g dropped wd in
        let head = All-head IsDropped g dropped w in
        let same : length (scaled R d g) ≡ length (combined R n ds dropped) =
        length-map g (R.times d) ∙ lg ∙ sym (length-combined laws n ds dropped wide_rest) in
        let sum : R.plus (R.times d (dot R a g)) (dot R a (combined R n ds dropped)) ≡ R.zero =
        sym (dot-joined laws a (scaled R d g) (combined R n ds dropped) same
        ∙ ap (λ t. R.plus t (dot R a (combined R n ds dropped))) (dot-scaled laws a g d)) ∙ z in
        let front : R.times d (dot R a g) ≡ R.zero =
        below_zero laws _ (subst (λ t. Le R (R.times d (dot R a g)) t) sum (le-plus_left laws _ _)) in
        let back : dot R a (combined R n ds dropped) ≡ R.zero =
        below_zero laws _ (subst (λ t. Le R (dot R a (combined R n ds dropped)) t) sum (le-plus_right laws _ _)) in
        let d_zero : d ≡ R.zero = undo_times laws (dot R a g) d R.zero (left_finite g head.1) front
        ∙ laws.zero_absorbs _ in
        joined_assoc laws (scaled R d g) (combined R n ds dropped) k
        ∙ ap (joined R (scaled R d g)) (add_none ds dropped k lk (All-tail IsDropped g dropped w) wide_rest back)
        ∙ ap (λ t. joined R (scaled R t g) k) d_zero
        ∙ ap (λ t. joined R t k) (scaled_zero laws g ∙ ap (bottom R) (lg ∙ sym lk)) ∙ joined_bottom laws k

    -- what the dropped rows have on the left is at most what the kept ones have on the right
    enough : (ds : List V) (dropped : List (List V)) (k : List V) → length k ≡ n → All IsDropped dropped →
        All (λ g. length g ≡ n) dropped → HoldsOf R a b (joined R (combined R n ds dropped) k) →
        Le R (dot R a (combined R n ds dropped)) (dot R b k)
    enough ds dropped k lk w wd h = ⊎_elim from_dropped from_kept (laws.selective (dot R b sum) (dot R b k))
      where
        sum : List V
        sum = combined R n ds dropped

        same : length (combined R n ds dropped) ≡ length k
        same = length-combined laws n ds dropped wd ∙ sym lk

        low : Le R (dot R a (combined R n ds dropped)) (R.plus (dot R b (combined R n ds dropped)) (dot R b k))
        low =
            le_trans laws _ _ _ (le-plus_left laws _ _)
            (subst (λ t. Le R (R.plus (dot R a (combined R n ds dropped)) (dot R a k)) t)
            (dot-joined laws b (combined R n ds dropped) k same)
            (subst (λ t. Le R t (dot R b (joined R (combined R n ds dropped) k)))
            (dot-joined laws a (combined R n ds dropped) k same) h))

        from_kept : R.plus (dot R b (combined R n ds dropped)) (dot R b k) ≡ dot R b k →
            Le R (dot R a (combined R n ds dropped)) (dot R b k)
        from_kept e = subst (λ t. Le R (dot R a (combined R n ds dropped)) t) e low

        impossible : Le R (dot R a (combined R n ds dropped)) (dot R b (combined R n ds dropped)) →
            dot R b (combined R n ds dropped) ≢ R.zero → ⊥
        impossible l f =
            let r = attained b ds dropped wd f in
            let dropped_row = All-contains IsDropped dropped r.row w r.contained in
            let lr : length r.row ≡ n = length_of r.row dropped_row.0 in
            let part : Le R (R.times r.factor (dot R a r.row)) (dot R a (combined R n ds dropped)) =
            subst (λ t. Le R t (dot R a (combined R n ds dropped))) (dot-scaled laws a r.row r.factor)
            (sym (dot-joined laws a (scaled R r.factor r.row) (combined R n ds dropped)
            (length-map r.row (R.times r.factor) ∙ lr ∙ sym (length-combined laws n ds dropped wd)))
            ∙ ap (dot R a) r.absorbed) in
            let both : Le R (R.times r.factor (dot R a r.row)) (R.times r.factor (dot R b r.row)) =
            subst (λ t. Le R (R.times r.factor (dot R a r.row)) t) r.value (le_trans laws _ _ _ part l) in
            dropped_row.1 (cancel_le laws r.factor (dot R a r.row) (dot R b r.row)
            (left_factor_finite laws r.factor (dot R b r.row) (dot R b (combined R n ds dropped)) (sym r.value) f)
            both)

        from_dropped : R.plus (dot R b (combined R n ds dropped)) (dot R b k) ≡ dot R b (combined R n ds dropped) →
            Le R (dot R a (combined R n ds dropped)) (dot R b k)
        from_dropped e =
            let l : Le R (dot R a (combined R n ds dropped)) (dot R b (combined R n ds dropped)) =
            subst (λ t. Le R (dot R a (combined R n ds dropped)) t) e low in
            ⊎_elim
            (λ z. subst (λ t. Le R t (dot R b k)) (sym
            (below_zero laws _ (subst (λ t. Le R (dot R a (combined R n ds dropped)) t) z l)))
            (zero_below laws (dot R b k)))
            (λ f. absurd (impossible l f))
            (laws.discrete (dot R b (combined R n ds dropped)) R.zero)

    -- a combination as one of kept rows and one of dropped ones
    record Parts (x : List V) : Type 0 where
      kept : List (List V)
      kept_by : List V
      dropped : List (List V)
      dropped_by : List V
      all_kept : All IsKept kept
      all_dropped : All IsDropped dropped
      one_each : length kept_by ≡ length kept
      sum : x ≡ joined R (combined R n dropped_by dropped) (combined R n kept_by kept)

    both_bottom : bottom R n ≡ joined R (bottom R n) (bottom R n)
    both_bottom = sym (ap (λ m. joined R (bottom R m) (bottom R n)) (sym (length-replicate n R.zero))
        ∙ joined_bottom laws (bottom R n))

    nothing : Parts (bottom R n)
    nothing = record {
      kept = [];
      kept_by = [];
      dropped = [];
      dropped_by = [];
      all_kept = All-nil IsKept;
      all_dropped = All-nil IsDropped;
      one_each = refl;
      sum = both_bottom;
    }

    parts : (cs : List V) (some : List (List V)) → All (Contains rows) some → Parts (combined R n cs some)
    parts [] some w = nothing
    parts (c ∷ cs) [] w = nothing
    parts (c ∷ cs) (g ∷ some) w =
        let r = parts cs some (All-tail (Contains rows) g some w) in
        let here : Contains rows g = All-head (Contains rows) g some w in
        ⊎_elim
        (λ h. record {
          kept = g ∷ r.kept;
          kept_by = c ∷ r.kept_by;
          dropped = r.dropped;
          dropped_by = r.dropped_by;
          all_kept = All-cons IsKept g r.kept (here, h) r.all_kept;
          all_dropped = r.all_dropped;
          one_each = ap suc r.one_each;
          sum = ap (joined R (scaled R c g)) r.sum ∙ joined_left laws _ _ _;
        })
        (λ h. record {
          kept = r.kept;
          kept_by = r.kept_by;
          dropped = g ∷ r.dropped;
          dropped_by = c ∷ r.dropped_by;
          all_kept = r.all_kept;
          all_dropped = All-cons IsDropped g r.dropped (here, h) r.all_dropped;
          one_each = r.one_each;
          sum = ap (joined R (scaled R c g)) r.sum ∙ sym (joined_assoc laws _ _ _);
        })
        (laws.discrete (R.plus (dot R a g) (dot R b g)) (dot R b g))

    pub complete : (x : List V) → IsCombination R n rows x → HoldsOf R a b x → IsCombination R n others x
    complete x h holds =
        let p = parts h.coefficients rows (λ k d l. (k, l, get_or_default rows k (get_or rows k d) d l)) in
        subst (IsCombination R n others) (sym (h.is_sum ∙ p.sum))
        (finish p (subst (HoldsOf R a b) (h.is_sum ∙ p.sum) holds))
      where
        finish : (p : Parts (combined R n h.coefficients rows)) →
            HoldsOf R a b (joined R (combined R n p.dropped_by p.dropped) (combined R n p.kept_by p.kept)) →
            IsCombination R n others (joined R (combined R n p.dropped_by p.dropped) (combined R n p.kept_by p.kept))
        finish p s = ⊎_elim if_none if_some (laws.discrete (dot R b (combined R n p.kept_by p.kept)) R.zero)
          where
            kept_wide : All (λ g. length g ≡ n) p.kept
            kept_wide k d l = length_of _ (p.all_kept k d l).0

            dropped_wide : All (λ g. length g ≡ n) p.dropped
            dropped_wide k d l = length_of _ (p.all_dropped k d l).0

            lk : length (combined R n p.kept_by p.kept) ≡ n
            lk = length-combined laws n p.kept_by p.kept kept_wide

            comb_kept : IsCombination R n others (combined R n p.kept_by p.kept)
            comb_kept = IsCombination-least laws n p.kept others _ wide_others
                (λ k d l. IsCombination-contained laws n others _ wide_others
                (step.kept _ (p.all_kept k d l).0 (p.all_kept k d l).1))
                (record { coefficients = p.kept_by; one_each = p.one_each; is_sum = refl })

            low : Le R (dot R a (combined R n p.dropped_by p.dropped)) (dot R b (combined R n p.kept_by p.kept))
            low = enough p.dropped_by p.dropped (combined R n p.kept_by p.kept) lk p.all_dropped dropped_wide s

            if_none : dot R b (combined R n p.kept_by p.kept) ≡ R.zero →
                IsCombination R n others (joined R (combined R n p.dropped_by p.dropped)
                (combined R n p.kept_by p.kept))
            if_none z =
                subst (IsCombination R n others)
                (sym (add_none p.dropped_by p.dropped (combined R n p.kept_by p.kept) lk p.all_dropped dropped_wide
                (below_zero laws _ (subst (λ t. Le R (dot R a (combined R n p.dropped_by p.dropped)) t) z low))))
                comb_kept

            if_some : dot R b (combined R n p.kept_by p.kept) ≢ R.zero →
                IsCombination R n others (joined R (combined R n p.dropped_by p.dropped)
                (combined R n p.kept_by p.kept))
            if_some f =
                let r = attained b p.kept_by p.kept kept_wide f in
                let kr = All-contains IsKept p.kept r.row p.all_kept r.contained in
                add_all p.dropped_by p.dropped (combined R n p.kept_by p.kept) lk comb_kept p.all_dropped
                (record { row = r.row; factor = r.factor; contained = kr.0; value = r.value; absorbed = r.absorbed })
                kr.1 f low dropped_wide
