-- The loops of the elementary step.
use Rattle.std.proofs.Common.{Bool, true, false, ◌≡◌, ◌≢◌, ◌<◌, ◌≤◌, ◌+◌, ◌*◌, ◌^◌, ◌++◌, ℕ, List, [], ◌∷◌, length, take, get_or, ⊎_elim, sym, ap, ◌∙◌, refl, arith, subst}
use Rattle.std.specs.Prelude.{All, Contains, ◌↔◌}
use Rattle.std.specs.Bool.{OnTrue, OnFalse}
use Rattle.std.proofs.Math.Nat.{mul-le-mul_left}
use Rattle.std.proofs.lemmas.List.{take_more, length-append}
use Rattle.std.proofs.lemmas.List.Elements.{All-contains, Contains-append_cases, Contains-get_or}
use Rattle.trop_theory.specs.Semiring.{Semiring, SemiringLaws}
use Rattle.trop_theory.specs.Vectors.{bottom, dot, row_size, rows_size, AreWide}
use Rattle.trop_theory.specs.Normal.{Normalises}
use Rattle.trop_theory.specs.Inequalities.{Inequality, IsTrueAt, InGuard, IsIn, inequality_size}
use Rattle.trop_theory.specs.Combinations.{IsCombination}
use Rattle.trop_theory.specs.Steps.{mixed}
use Rattle.trop_theory.specs.StepList.{AreChosen, AreMixedOf, AreMixed, IsStepList}
use Rattle.trop_theory.proofs.StepLists.{from_chosen, All-chosen, length_chosen, chosen_push, chosen_skip, mixed_more, from_mixed, wide_step_list, step_list_is_guard}
use Rattle.trop_theory.proofs.Mixed.{size-dot, row_size-mixed, length_mixed}
use Rattle.trop_row.specs.Mixing.{CanStep, CanMix}
use Rattle.trop_row.proofs.Sizes.{rows_size-at, rows_size-from_all}
use Rattle.trop_row.proofs.NormalSteps.{size_normalised}

front_read : {X : Type 0} (xs : List X) (i : ℕ) (x : X) → i < length xs → x ≡ get_or xs i x →
    take (i + 1) xs ≡ take i xs ++ x ∷ []
front_read xs i x l e = take_more xs i x l ∙ ap (λ v. take i xs ++ v ∷ []) (sym e)

module _ {X : Type 0} (P : X → Type 0) where
  pub chosen_read : (xs ys : List X) (i : ℕ) (x y : X) → AreChosen P (take i xs) ys → i < length xs →
      x ≡ get_or xs i x → y ≡ x → P x → AreChosen P (take (i + 1) xs) (ys ++ y ∷ [])
  chosen_read xs ys i x y h l e s p =
      subst (λ v. AreChosen P v (ys ++ y ∷ [])) (sym (front_read xs i x l e))
      (subst (λ v. AreChosen P (take i xs ++ x ∷ []) (ys ++ v ∷ [])) (sym s) (chosen_push P (take i xs) ys x h p))

  pub skipped_read : (xs ys : List X) (i : ℕ) (x : X) → AreChosen P (take i xs) ys → i < length xs → x ≡ get_or xs i x →
      (P x → ⊥) → AreChosen P (take (i + 1) xs) ys
  skipped_read xs ys i x h l e p = subst (λ v. AreChosen P v ys) (sym (front_read xs i x l e))
      (chosen_skip P (take i xs) ys x h p)

pub mixed_read : {V : Type 0} (R : Semiring V) (p : Inequality V) (dropped kept fresh : List (List V)) (i : ℕ)
    (v : List V) (front : List (List V)) → AreMixed R p dropped (take i kept) fresh → i < length kept →
    v ≡ get_or kept i v → AreMixedOf R p dropped v front → AreMixed R p dropped (take (i + 1) kept) (fresh ++ front)
mixed_read R p dropped kept fresh i v front h l e m =
    subst (λ k. AreMixed R p dropped k (fresh ++ front)) (sym (front_read kept i v l e))
    (mixed_more R p dropped (take i kept) fresh v front h m)

module _ {V : Type 0} {R : Semiring V} (laws : SemiringLaws R) (p : Inequality V) where
  pub size_left : (v w : List V) → CanMix R p v w → R.size (dot R p.left w) ≤ 2 ^ 57 + 2 ^ 49
  size_left v w h = omega (arith, size-dot laws p.left w, h.dropped.row_small, h.dropped.small)

  pub size_right : (v w : List V) → CanMix R p v w → R.size (dot R p.right v) ≤ 2 ^ 57 + 2 ^ 49
  size_right v w h = omega (arith, size-dot laws p.right v, h.kept.row_small, h.kept.small)

  pub size_mixed : (v w : List V) → CanMix R p v w → row_size R (mixed R p.left p.right v w) ≤ 2 ^ 59
  size_mixed v w h = omega (
    arith,
    row_size-mixed laws p v w (2 ^ 57) (2 ^ 49) h.kept.row_small h.dropped.row_small
        h.kept.small,
  )

  -- what `normalise` answers of a row that is not bottom
  pub normal_of : (b : Bool) (old new row : List V) → OnTrue b (Normalises R old new) →
      OnFalse b (old ≡ bottom R (length old)) → old ≡ row → row ≢ bottom R (length row) → Normalises R row new
  normal_of true old new row found other e f = subst (λ v. Normalises R v new) e found
  normal_of false old new row found other e f = absurd (f (subst (λ v. v ≡ bottom R (length v)) e other))

  pub can_step : (n : ℕ) (rows : List (List V)) → AreWide n rows → IsIn n p → rows_size R rows ≤ 2 ^ 57 →
      inequality_size R p ≤ 2 ^ 49 → All (λ x. x ≢ bottom R n) rows → All (CanStep R p) rows
  can_step n rows w inside small size f k d l = record {
    sides = subst (λ m. IsIn m p) (sym (w k d l)) inside;
    row_small = omega (arith, rows_size-at R rows k d l, small);
    small = size;
    finite = λ e. f k d l (e ∙ ap (bottom R) (w k d l));
  }

  module _ (n : ℕ) (rows kept dropped : List (List V)) (wide : AreWide n rows) (able : All (CanStep R p) rows)
      (are_kept : AreChosen (IsTrueAt R p) rows kept) (are_dropped : AreChosen (λ w. IsTrueAt R p w → ⊥) rows dropped)
    where
      in_kept : (v : List V) → Contains kept v → Contains rows v × IsTrueAt R p v
      in_kept v c = from_chosen (IsTrueAt R p) rows kept are_kept v c

      in_dropped : (w : List V) → Contains dropped w → Contains rows w × (IsTrueAt R p w → ⊥)
      in_dropped w c = from_chosen (λ x. IsTrueAt R p x → ⊥) rows dropped are_dropped w c

      mix : (v w : List V) → Contains kept v → Contains dropped w → CanMix R p v w
      mix v w cv cw = let kv = in_kept v cv in let dw = in_dropped w cw in record {
        kept = All-contains (CanStep R p) rows v able kv.0;
        dropped = All-contains (CanStep R p) rows w able dw.0;
        lengths = All-contains (λ g. length g ≡ n) rows v wide kv.0 ∙
            sym (All-contains (λ g. length g ≡ n) rows w wide dw.0);
        true_at = kv.1;
        false_at = dw.1;
      }

      pub kept_can_step : All (CanStep R p) kept
      kept_can_step = All-chosen (IsTrueAt R p) (CanStep R p) rows kept are_kept able

      pub can_mix : All (λ v. All (CanMix R p v) dropped) kept
      can_mix k d l j e q = mix (get_or kept k d) (get_or dropped j e) (Contains-get_or kept k d l)
          (Contains-get_or dropped j e q)

      module _ (fresh : List (List V)) (are_fresh : AreMixed R p dropped kept fresh) where
        pub step_length : length rows ≤ 2 ^ 15 → length (kept ++ fresh) ≤ 2 ^ 31
        step_length few =
            let k = length_chosen (IsTrueAt R p) rows kept are_kept in
            let d = length_chosen (λ w. IsTrueAt R p w → ⊥) rows dropped are_dropped in
            let first : length kept * length dropped ≤ length kept * 2 ^ 15 =
            mul-le-mul_left (length kept) (omega (arith, d, few)) in
            omega (arith, length-append kept fresh, length_mixed R p dropped kept fresh are_fresh, first, k, few)

        small_row : (x : List V) → Contains (kept ++ fresh) x → row_size R x ≤ 2 ^ 60
        small_row x c = ⊎_elim
            (λ k. let s = All-contains (CanStep R p) rows x able (in_kept x k).0 in omega (arith, s.row_small))
            (λ f.
            let r = from_mixed R p dropped kept fresh are_fresh x f in
            omega (
              arith,
              size_normalised laws (mixed R p.left p.right r.0 r.1) x r.4.1,
              size_mixed r.0 r.1
                  (mix r.0 r.1 r.2 r.3),
            ))
            (Contains-append_cases kept fresh x c)

        pub step_small : rows_size R (kept ++ fresh) ≤ 2 ^ 60
        step_small = rows_size-from_all R (kept ++ fresh) (2 ^ 60)
            (λ k d l. small_row (get_or (kept ++ fresh) k d) (Contains-get_or (kept ++ fresh) k d l))

        pub step_list : IsStepList R p rows (kept ++ fresh)
        step_list = record {
          kept = kept;
          dropped = dropped;
          fresh = fresh;
          are_kept = are_kept;
          are_dropped = are_dropped;
          are_fresh = are_fresh;
          in_order = refl;
        }

-- what the step answers
pub record StepOutcome {V : Type 0} (R : Semiring V) (n : ℕ) (p : Inequality V) (rows out : List (List V)) : Type 0
  where
    pub wide : AreWide n out
    pub room : length out ≤ 2 ^ 31
    pub list : IsStepList R p rows out
    pub guard : (x : List V) → IsCombination R n out x ↔ InGuard R (IsCombination R n rows) p x
    pub sizes : rows_size R out ≤ 2 ^ 60

module _ {V : Type 0} {R : Semiring V} (laws : SemiringLaws R) (p : Inequality V) (n : ℕ) where
  -- the rows as the code holds them
  pub step_outcome : (gens rows kept dropped left right fresh out : List (List V)) → rows ≡ gens → left ≡ kept →
      right ≡ dropped → out ≡ kept ++ fresh → AreWide n gens → IsIn n p → rows_size R gens ≤ 2 ^ 57 →
      inequality_size R p ≤ 2 ^ 49 → All (λ x. x ≢ bottom R n) gens → length gens ≤ 2 ^ 15 →
      AreChosen (IsTrueAt R p) rows kept → AreChosen (λ w. IsTrueAt R p w → ⊥) rows dropped →
      AreMixed R p right left fresh → StepOutcome R n p gens out
  step_outcome gens rows kept dropped left right fresh out eg el er eo wide inside small size finite few k d m =
      let able = can_step laws p n gens wide inside small size finite in
      let kept_of_gens : AreChosen (IsTrueAt R p) gens kept = subst (λ v. AreChosen (IsTrueAt R p) v kept) eg k in
      let dropped_of_gens : AreChosen (λ w. IsTrueAt R p w → ⊥) gens dropped =
      subst (λ v. AreChosen (λ w. IsTrueAt R p w → ⊥) v dropped) eg d in
      let mixed_rows : AreMixed R p dropped kept fresh = subst (λ v. AreMixed R p v kept fresh) er
      (subst (λ v. AreMixed R p right v fresh) el m) in
      let list : IsStepList R p gens (kept ++ fresh) = step_list laws p n gens kept dropped wide able kept_of_gens
      dropped_of_gens fresh mixed_rows in
      subst (StepOutcome R n p gens) (sym eo) (record {
        wide = wide_step_list laws n p gens (kept ++ fresh) inside wide list;
        room = step_length laws p n gens kept dropped wide able kept_of_gens dropped_of_gens fresh mixed_rows few;
        list = list;
        guard = step_list_is_guard laws n p gens (kept ++ fresh) inside wide list;
        sizes = step_small laws p n gens kept dropped wide able kept_of_gens dropped_of_gens fresh mixed_rows;
      })
