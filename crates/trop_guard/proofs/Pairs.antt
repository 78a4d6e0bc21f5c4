-- What is known of a kept and a dropped row, of their mixed row, and of the rows that were found.
-- Index: can_mix, mixed_wide, mixed_row_small, mixed_extreme, HasMixed-found, HasMixed-stale, stays_more, found_more,
-- found_over, HasMixed-stays, dropped_more, kept_more, kept_skip, parts_are, over_same, found_first, few_first,
-- found_last, wide_there, refused_there, parts_there, found_there, last_there, contains_read, can_compare,
-- small_chosen, wide_chosen, few_chosen.
use Rattle.std.proofs.Common.{◌≡◌, ◌≢◌, ◌⊎◌, ◌<◌, ◌≤◌, ◌+◌, ◌^◌, ℕ, List, [], ◌∷◌, ◌++◌, length, map, take, get_or, inl, inr, ⊎_elim, sym, ap, ◌∙◌, refl, arith, subst}
use Rattle.std.specs.Prelude.{All, AllPairs, Contains, ◌↔◌}
use Rattle.std.proofs.lemmas.Bool.{cases_lt}
use Rattle.std.proofs.lemmas.List.{length-map, take_more}
use Rattle.std.proofs.lemmas.List.Elements.{All-append, All-contains, All-push, All-contains_itself, Contains-get_or, Contains-append_left, Contains-append_right, Contains-append_cases}
use Rattle.trop_theory.specs.Semiring.{Semiring, SemiringLaws}
use Rattle.trop_theory.specs.Vectors.{entry, dot, bottom, row_size, rows_size, scaled}
use Rattle.trop_theory.specs.Normal.{IsNormal, Normalises}
use Rattle.trop_theory.specs.Inequalities.{Inequality, IsTrueAt, InGuard, IsIn, inequality_size}
use Rattle.trop_theory.specs.Combinations.{IsCombination}
use Rattle.trop_theory.specs.Extreme.{IsExtreme}
use Rattle.trop_theory.specs.Canonical.{RowBelow, IsCanonical, IsOverLimit, row_limit}
use Rattle.trop_theory.specs.Steps.{mixed}
use Rattle.trop_theory.specs.StepList.{AreChosen}
use Rattle.trop_theory.proofs.Rows.{entry-bottom}
use Rattle.trop_theory.proofs.Combinations.{IsCombination-length}
use Rattle.trop_theory.proofs.Canonical.{IsExtreme-same}
use Rattle.trop_theory.proofs.Mixed.{row_size-mixed, length-mixed, size-dot}
use Rattle.trop_theory.proofs.StepLists.{Contains-chosen, from_chosen, all_chosen, All-chosen, length_chosen}
use Rattle.trop_row.specs.Mixing.{CanStep, CanMix}
use Rattle.trop_row.proofs.NormalSteps.{size_normalised}
use Rattle.trop_guard.specs.Fresh.{IsFreshAt}
use Rattle.trop_cones.specs.Represents.{Represents}
use Rattle.trop_cones.proofs.Sizes.{All-rows_size, rows_size-each}
use Rattle.trop_theory.proofs.Chosen.{pairs_chosen, chosen_or_not}
use Rattle.trop_cones.proofs.Represented.{Represents-same}
use Rattle.trop_cones.proofs.Operations.{IsCombination-within}
use Rattle.trop_guard.proofs.FreshRows.{normal_form_unique, guarded-mixed, kept_stays_extreme, fresh_is_extreme, extreme_is_fresh, narrowed_canonical, narrowed_generates}
use Rattle.trop_guard.specs.declared.error.GuardErr.{GuardErr}
use Rattle.trop_guard.specs.declared.error.GuardErr.TheVariants.{Limit, NoMemory}
use Rattle.trop_guard.specs.Refusals.{IsRefusedBy}
use Rattle.trop_guard.specs.Parts.{AreParts}
use Rattle.trop_guard.specs.Pairs.{CanCompare}
use Rattle.trop_guard.specs.Found.{Smaller, AreFound, HasMixed}

module _ {V : Type 0} {R : Semiring V} (laws : SemiringLaws R) where
  not_bottom : (x : List V) → IsNormal R x → x ≢ bottom R (length x)
  not_bottom x h e = laws.one_finite (sym h.is_one ∙ ap (λ y. entry R y h.first) e ∙ entry-bottom R (length x) h.first)

  small_row : (rows : List (List V)) (m : ℕ) (x : List V) → rows_size R rows ≤ m → Contains rows x → row_size R x ≤ m
  small_row rows m x h c = All-contains (λ g. row_size R g ≤ m) rows x (All-rows_size laws rows m h) c

module _ {V : Type 0} {R : Semiring V} (laws : SemiringLaws R) (n : ℕ) (p : Inequality V) (kept : List (List V))
    (rights : List V) (dropped : List (List V)) (h : AreParts R n p kept rights dropped) where
  module _ (v w : List V) (cv : Contains kept v) (cw : Contains dropped w) where
    v_wide : length v ≡ n
    v_wide = All-contains (λ g. length g ≡ n) kept v h.kept_wide cv

    w_wide : length w ≡ n
    w_wide = All-contains (λ g. length g ≡ n) dropped w h.dropped_wide cw

    can_step : (x : List V) → length x ≡ n → row_size R x ≤ 2 ^ 57 → IsNormal R x → CanStep R p x
    can_step x l s normal = record {
      sides = record { left = h.inside.left ∙ sym l; right = h.inside.right ∙ sym l };
      row_small = s;
      small = h.small;
      finite = not_bottom laws x normal;
    }

    pub can_mix : CanMix R p v w
    can_mix = record {
      kept = can_step v v_wide (small_row laws kept (2 ^ 57) v h.kept_small cv)
          (All-contains (IsNormal R) kept v h.kept_normal cv);
      dropped = can_step w w_wide (small_row laws dropped (2 ^ 57) w h.dropped_small cw)
          (All-contains (IsNormal R) dropped w h.dropped_normal cw);
      lengths = v_wide ∙ sym w_wide;
      true_at = All-contains (IsTrueAt R p) kept v h.kept_true cv;
      false_at = All-contains (λ w. IsTrueAt R p w → ⊥) dropped w h.dropped_false cw;
    }

    module _ (x : List V) (m : Normalises R (mixed R p.left p.right v w) x) where
      pub mixed_wide : length x ≡ n
      mixed_wide = ap length m.multiple ∙ length-map (mixed R p.left p.right v w) (R.times m.factor)
          ∙ length-mixed laws p.left p.right v w (v_wide ∙ sym w_wide) ∙ v_wide

      pub mixed_row_small : row_size R x ≤ 2 ^ 60
      mixed_row_small =
          let s : row_size R (mixed R p.left p.right v w) ≤ 2 ^ 57 + 2 ^ 57 + 2 ^ 49 =
          row_size-mixed laws p v w (2 ^ 57) (2 ^ 49) (small_row laws kept (2 ^ 57) v h.kept_small cv)
          (small_row laws dropped (2 ^ 57) w h.dropped_small cw) h.small in
          let t : row_size R x ≤ row_size R (mixed R p.left p.right v w) + row_size R (mixed R p.left p.right v w) =
          size_normalised laws (mixed R p.left p.right v w) x m in
          omega arith

      pub mixed_extreme : dot R p.right v ≢ R.zero → ((t : ℕ) × IsFreshAt R p kept dropped x t) →
          IsExtreme R (Smaller R n p kept dropped) x
      mixed_extreme f fresh = fresh_is_extreme laws n p h.inside kept dropped h.kept_wide h.dropped_wide h.kept_true
          h.dropped_false x fresh.0
          (guarded-mixed laws n p h.inside kept dropped h.kept_wide h.dropped_wide h.kept_true h.dropped_false v w
          x cv cw f m) fresh.1

      -- once it stands among those that were found
      pub HasMixed-found : (found : List (List V)) → Contains found x → HasMixed R n p kept dropped found v w
      HasMixed-found found c y f my ey = subst (Contains found)
          (normal_form_unique laws (mixed R p.left p.right v w) x y m my) c

      -- or where it is not fresh
      pub HasMixed-stale : (found : List (List V)) → AreFound R n p kept dropped found →
          (((t : ℕ) × IsFreshAt R p kept dropped x t) → ⊥) → HasMixed R n p kept dropped found v w
      HasMixed-stale found are stale y f my ey =
          let e : x ≡ y = normal_form_unique laws (mixed R p.left p.right v w) x y m my in
          ⊎_elim
          (λ c. All-contains (Contains found) kept y are.stay c)
          (λ fresh. absurd (stale (fresh.0, subst (λ z. IsFreshAt R p kept dropped z fresh.0) (sym e) fresh.1)))
          (extreme_is_fresh laws n p h.inside kept dropped h.kept_wide h.dropped_wide h.kept_true h.dropped_false y
          h.kept_normal my.normal ey)

-- what stands in a list that stands in another
pub stays_more : {X : Type 0} (a b c : List X) → All (Contains b) a → All (Contains c) b → All (Contains c) a
stays_more a b c h k i d l = All-contains (Contains c) b _ k (h i d l)

next : {X : Type 0} (P : X → Type 0) (xs : List X) (k : ℕ) (x : X) → k < length xs → x ≡ get_or xs k x →
    All P (take k xs) → P x → All P (take (k + 1) xs)
next P xs k x l e h q = subst (All P) (sym (take_more xs k x l ∙ ap (λ y. take k xs ++ y ∷ []) (sym e)))
    (All-push P (take k xs) x h q)

module _ {V : Type 0} (R : Semiring V) (n : ℕ) (p : Inequality V) (kept dropped : List (List V)) where
  abbrev cone : List V → Type 0
  cone = Smaller R n p kept dropped

  -- one more row
  pub found_more : (old new : List (List V)) (x : List V) → AreFound R n p kept dropped old →
      AllPairs (RowBelow R) new → All (λ z. Contains old z ⊎ (z ≡ x)) new → All (Contains new) old → IsNormal R x →
      IsExtreme R cone x → AreFound R n p kept dropped new
  found_more old new x h ascending only stay normal extreme = record {
    ascending = ascending;
    normal = λ k d l. ⊎_elim (λ c. All-contains (IsNormal R) old _ h.normal c) (λ e. subst (IsNormal R) (sym e) normal)
        (only k d l);
    extreme = λ k d l. ⊎_elim (λ c. All-contains (IsExtreme R cone) old _ h.extreme c)
        (λ e. subst (IsExtreme R cone) (sym e) extreme) (only k d l);
    stay = λ k d l. All-contains (Contains new) old _ stay (h.stay k d l);
  }

  -- found rows above the limit
  pub found_over : (found : List (List V)) → AreFound R n p kept dropped found → row_limit < length found →
      IsOverLimit R cone
  found_over found h many = record {
    rows = found;
    ascending = h.ascending;
    normal = h.normal;
    extreme =
        h.extreme;
    many = many;
  }

  -- what was found stays
  pub HasMixed-stays : (old new : List (List V)) (v w : List V) → All (Contains new) old →
      HasMixed R n p kept dropped old v w → HasMixed R n p kept dropped new v w
  HasMixed-stays old new v w stay h x f m e = All-contains (Contains new) old x stay (h x f m e)

  -- one more dropped row was tried
  pub dropped_more : (old new : List (List V)) (v : List V) (k : ℕ) (w : List V) → k < length dropped →
      w ≡ get_or dropped k w → All (Contains new) old → All (HasMixed R n p kept dropped old v) (take k dropped) →
      HasMixed R n p kept dropped new v w → All (HasMixed R n p kept dropped new v) (take (k + 1) dropped)
  dropped_more old new v k w l e stay h q = next (HasMixed R n p kept dropped new v) dropped k w l e
      (λ i d m. HasMixed-stays old new v _ stay (h i d m)) q

  -- one more kept row was tried
  pub kept_more : (old new : List (List V)) (k : ℕ) (v : List V) → k < length kept → v ≡ get_or kept k v →
      All (Contains new) old → All (λ u. All (HasMixed R n p kept dropped old u) dropped) (take k kept) →
      All (HasMixed R n p kept dropped new v) dropped →
      All (λ u. All (HasMixed R n p kept dropped new u) dropped) (take (k + 1) kept)
  kept_more old new k v l e stay h q = next (λ u. All (HasMixed R n p kept dropped new u) dropped) kept k v l e
      (λ i d m j d' m'. HasMixed-stays old new _ _ stay (h i d m j d' m')) q

  -- a kept row whose right side is the zero gives none
  pub kept_skip : (found : List (List V)) (v : List V) → dot R p.right v ≡ R.zero →
      All (HasMixed R n p kept dropped found v) dropped
  kept_skip found v z k d l x f m e = absurd (f z)

module _ {V : Type 0} {R : Semiring V} (laws : SemiringLaws R) (n : ℕ) (p : Inequality V)
    (rows kept dropped : List (List V)) (rights : List V) (inside : IsIn n p) (small : inequality_size R p ≤ 2 ^ 49)
    (wide : All (λ g. length g ≡ n) rows) (sizes : rows_size R rows ≤ 2 ^ 57)
    (canonical : IsCanonical R (IsCombination R n rows) rows) (ck : AreChosen (IsTrueAt R p) rows kept)
    (cd : AreChosen (λ w. IsTrueAt R p w → ⊥) rows dropped) (are_rights : rights ≡ map (dot R p.right) kept) where
  each_small : All (λ g. row_size R g ≤ 2 ^ 57) rows
  each_small = All-rows_size laws rows (2 ^ 57) sizes

  pub parts_are : AreParts R n p kept rights dropped
  parts_are = record {
    inside = inside;
    small = small;
    kept_wide = All-chosen (IsTrueAt R p) (λ g. length g ≡ n) rows kept ck wide;
    dropped_wide = All-chosen (λ w. IsTrueAt R p w → ⊥) (λ g. length g ≡ n) rows dropped cd wide;
    kept_small = rows_size-each laws kept (2 ^ 57)
        (All-chosen (IsTrueAt R p) (λ g. row_size R g ≤ 2 ^ 57) rows kept ck each_small);
    dropped_small = rows_size-each laws dropped (2 ^ 57)
        (All-chosen (λ w. IsTrueAt R p w → ⊥) (λ g. row_size R g ≤ 2 ^ 57) rows dropped cd each_small);
    kept_normal = All-chosen (IsTrueAt R p) (IsNormal R) rows kept ck canonical.normal;
    dropped_normal = All-chosen (λ w. IsTrueAt R p w → ⊥) (IsNormal R) rows dropped cd canonical.normal;
    kept_true = all_chosen (IsTrueAt R p) rows kept ck;
    dropped_false = all_chosen (λ w. IsTrueAt R p w → ⊥) rows dropped cd;
    rights_are = are_rights;
  }

  in_parts : (g : List V) → Contains rows g → Contains (kept ++ dropped) g
  in_parts g c = ⊎_elim
      (λ k. Contains-append_left kept dropped g k)
      (λ f. Contains-append_right kept dropped g (Contains-chosen (λ w. IsTrueAt R p w → ⊥) rows dropped cd g c f))
      (chosen_or_not (IsTrueAt R p) rows kept ck g c)

  in_rows : (g : List V) → Contains (kept ++ dropped) g → Contains rows g
  in_rows g c = ⊎_elim
      (λ q. (from_chosen (IsTrueAt R p) rows kept ck g q).0)
      (λ q. (from_chosen (λ w. IsTrueAt R p w → ⊥) rows dropped cd g q).0)
      (Contains-append_cases kept dropped g c)

  -- both parts together generate the cone
  parts_generate : (x : List V) → IsCombination R n rows x ↔ IsCombination R n (kept ++ dropped) x
  parts_generate x = (
    λ c. IsCombination-within laws n rows (kept ++ dropped)
        (All-append (λ g. length g ≡ n) kept dropped parts_are.kept_wide parts_are.dropped_wide) in_parts x c,
    λ c. IsCombination-within laws n (kept ++ dropped) rows wide in_rows x c,
  )

  -- so the smaller cone is that of the rows
  smaller_same : (x : List V) → Smaller R n p kept dropped x ↔ InGuard R (IsCombination R n rows) p x
  smaller_same x = (λ h. ((parts_generate x).1 h.0, h.1), λ h. ((parts_generate x).0 h.0, h.1))

  pub over_same : IsOverLimit R (Smaller R n p kept dropped) → IsOverLimit R (InGuard R (IsCombination R n rows) p)
  over_same h = record {
    rows = h.rows;
    ascending = h.ascending;
    normal = h.normal;
    extreme =
        λ k d l. IsExtreme-same (Smaller R n p kept dropped) (InGuard R (IsCombination R n rows) p) smaller_same _
        (h.extreme k d l);
    many = h.many;
  }

  -- at the start the kept rows were found
  pub found_first : AreFound R n p kept dropped kept
  found_first = record {
    ascending = pairs_chosen (RowBelow R) (IsTrueAt R p) rows kept ck canonical.ascending;
    normal = parts_are.kept_normal;
    extreme = λ k d l. kept_stays_extreme laws n p inside kept dropped parts_are.kept_wide parts_are.dropped_wide
        parts_are.kept_true parts_are.dropped_false (get_or kept k d) (Contains-get_or kept k d l)
        (IsExtreme-same (IsCombination R n rows) (IsCombination R n (kept ++ dropped)) parts_generate (get_or kept k d)
        (All-chosen (IsTrueAt R p) (IsExtreme R (IsCombination R n rows)) rows kept ck canonical.extreme k d l));
    stay = All-contains_itself kept;
  }

  pub few_first : length rows ≤ row_limit → length kept ≤ row_limit
  few_first few = omega (arith, length_chosen (IsTrueAt R p) rows kept ck)

  -- and at the end all of the smaller cone
  pub found_last : (found : List (List V)) → AreFound R n p kept dropped found →
      All (λ v. All (HasMixed R n p kept dropped found v) dropped) kept → length found ≤ row_limit →
      Represents R n (InGuard R (IsCombination R n rows) p) found
  found_last found h mixes few = Represents-same n (Smaller R n p kept dropped)
      (InGuard R (IsCombination R n rows) p) smaller_same found (record {
        canonical = listed;
        generates = narrowed_generates laws n p inside kept dropped parts_are.kept_wide parts_are.dropped_wide
            parts_are.kept_true parts_are.dropped_false found listed;
        within = few;
      })
    where
      listed : IsCanonical R (Smaller R n p kept dropped) found
      listed = narrowed_canonical laws n p inside kept dropped parts_are.kept_wide parts_are.dropped_wide
          parts_are.kept_true parts_are.dropped_false parts_are.kept_normal found (record {
            ascending = h.ascending;
            normal = h.normal;
            extreme = h.extreme;
            stay = h.stay;
            mixes = λ v w x cv cw f m e. All-contains (HasMixed R n p kept dropped found v) dropped w
                (All-contains (λ v. All (HasMixed R n p kept dropped found v) dropped) kept v mixes cv) cw x f m e;
          })

  -- what was found has n coordinates
  found_wide : (found : List (List V)) → AreFound R n p kept dropped found → All (λ g. length g ≡ n) found
  found_wide found h k d l = IsCombination-length laws n (kept ++ dropped) _
      (All-append (λ g. length g ≡ n) kept dropped parts_are.kept_wide parts_are.dropped_wide)
      (h.extreme k d l).member.0

  module _ (m : ℕ) (e : m ≡ n) where
    pub wide_there : (found : List (List V)) (o : ℕ) → o ≡ n → AreFound R m p kept dropped found →
        All (λ g. length g ≡ o) found
    wide_there found o f h = subst (λ k. All (λ g. length g ≡ k) found) (sym f)
        (found_wide found (subst (λ k. AreFound R k p kept dropped found) e h))

    pub refused_there : (err : GuardErr) → IsRefusedBy R (Smaller R m p kept dropped) err →
        IsRefusedBy R (InGuard R (IsCombination R n rows) p) err
    refused_there Limit h = over_same (subst (λ k. IsOverLimit R (Smaller R k p kept dropped)) e h)
    refused_there NoMemory h = tt

    pub parts_there : AreParts R m p kept rights dropped
    parts_there = subst (λ k. AreParts R k p kept rights dropped) (sym e) parts_are

    pub found_there : (found : List (List V)) → found ≡ kept → AreFound R m p kept dropped found
    found_there found s = subst (AreFound R m p kept dropped) (sym s)
        (subst (λ k. AreFound R k p kept dropped kept) (sym e) found_first)

    pub last_there : (found : List (List V)) → AreFound R m p kept dropped found →
        All (λ v. All (HasMixed R m p kept dropped found v) dropped) kept → length found ≤ row_limit →
        Represents R n (InGuard R (IsCombination R n rows) p) found
    last_there found h mixes few = found_last found (subst (λ k. AreFound R k p kept dropped found) e h)
        (subst (λ k. All (λ v. All (HasMixed R k p kept dropped found v) dropped) kept) e mixes) few

-- what was read from a list is contained in it
pub contains_read : {X : Type 0} (xs ys : List X) (k : ℕ) (x : X) → ys ≡ xs → k < length ys → x ≡ get_or ys k x →
    Contains xs x
contains_read xs ys k x e l r = subst (λ zs. Contains zs x) e (k, l, sym r)

module _ {V : Type 0} {R : Semiring V} (laws : SemiringLaws R) where
  -- a kept row and another can be compared
  pub can_compare : (n : ℕ) (p : Inequality V) (kept : List (List V)) (rights : List V) (dropped : List (List V)) →
      AreParts R n p kept rights dropped → (v w : List V) (left right : V) → Contains kept v → length w ≡ n →
      row_size R w ≤ 2 ^ 57 → left ≡ dot R p.left w → right ≡ dot R p.right v → CanCompare R v left w right
  can_compare n p kept rights dropped h v w left right c l s el er = record {
    lengths = All-contains (λ g. length g ≡ n) kept v h.kept_wide c ∙ sym l;
    v_small = v_small;
    w_small = s;
    left_small = omega (arith, ap R.size el, size-dot laws p.left w, h.small);
    right_small = omega (arith, ap R.size er, size-dot laws p.right v, h.small, v_small);
  }
    where
      v_small : row_size R v ≤ 2 ^ 57
      v_small = small_row laws kept (2 ^ 57) v h.kept_small c

  pub small_chosen : (P : List V → Type 0) (rows some kept out : List (List V)) → some ≡ rows → out ≡ kept →
      AreChosen P some kept → rows_size R rows ≤ 2 ^ 57 → rows_size R out ≤ 2 ^ 57
  small_chosen P rows some kept out e o h s =
      subst (λ r. rows_size R r ≤ 2 ^ 57) (sym o) (rows_size-each laws kept (2 ^ 57)
      (All-chosen P (λ g. row_size R g ≤ 2 ^ 57) some kept h
      (subst (All (λ g. row_size R g ≤ 2 ^ 57)) (sym e) (All-rows_size laws rows (2 ^ 57) s))))

module _ {V : Type 0} (P : List V → Type 0) where
  pub wide_chosen : (n m : ℕ) (rows some kept out : List (List V)) → m ≡ n → some ≡ rows → out ≡ kept →
      AreChosen P some kept → All (λ g. length g ≡ n) rows → All (λ g. length g ≡ m) out
  wide_chosen n m rows some kept out k e o h w =
      subst (All (λ g. length g ≡ m)) (sym o) (subst (λ a. All (λ g. length g ≡ a) kept) (sym k)
      (All-chosen P (λ g. length g ≡ n) some kept h (subst (All (λ g. length g ≡ n)) (sym e) w)))

  pub few_chosen : (rows some kept : List (List V)) → some ≡ rows → AreChosen P some kept → length rows ≤ 2 ^ 31 →
      length kept ≤ 2 ^ 31
  few_chosen rows some kept e h l = omega (arith, length_chosen P some kept h, ap length e)
