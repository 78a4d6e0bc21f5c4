-- The exact list of the elementary step: what stands in it, how it grows, and that it generates the guarded cone.
-- Index: chosen_unique, Contains-chosen, from_chosen, All-chosen, all_chosen, length_chosen, chosen_push, chosen_skip,
-- mixed_more, IsFresh, from_mixed, Contains-mixed, wide_step_list, step_list_is_guard.
use Rattle.std.proofs.Common.{◌≡◌, ◌≢◌, ◌≤◌, ◌++◌, ℕ, List, [], ◌∷◌, length, inl, inr, ⊎_elim, sym, ap, ◌∙◌, refl, arith, subst, get_or, append_assoc}
use Rattle.std.specs.Prelude.{All, Contains, ◌↔◌}
use Rattle.std.specs.List.{AllZip}
use Rattle.std.proofs.lemmas.List.{length-map}
use Rattle.std.proofs.lemmas.List.Elements.{All-contains, Contains-append_left, Contains-append_right, Contains-append_cases, Contains-get_or}
use Rattle.trop_theory.specs.Semiring.{Semiring, SemiringLaws}
use Rattle.trop_theory.specs.Vectors.{dot, AreWide}
use Rattle.trop_theory.specs.Normal.{Normalises}
use Rattle.trop_theory.specs.Inequalities.{Inequality, IsTrueAt, InGuard, IsIn}
use Rattle.trop_theory.specs.Combinations.{IsCombination, SameCone}
use Rattle.trop_theory.specs.Steps.{mixed}
use Rattle.trop_theory.proofs.Truth.{HoldsOf, truth}
use Rattle.trop_theory.specs.StepList.{AreChosen, AreMixedOf, AreMixed, IsStepList}
use Rattle.trop_theory.proofs.Rows.{length-joined}
use Rattle.trop_theory.proofs.Combinations.{IsCombination-length, IsCombination-scaled}
use Rattle.trop_theory.proofs.SameCones.{IsCombination-same, IsCombination-contained}
use Rattle.trop_theory.proofs.StepSound.{step_is_guard}
use Rattle.trop_theory.proofs.Generation.{undo_normal}
use Rattle.trop_theory.proofs.Narrower.{Stepped, stepped}
use Rattle.plain_lemmas.proofs.Lists.{Contains-cons, Contains-cons_cases, Contains-none, back_in_zip, there_in_zip}

pub chosen_unique : {X : Type 0} (P : X → Type 0) (xs ys zs : List X) → AreChosen P xs ys → AreChosen P xs zs → ys ≡ zs
chosen_unique P [] ys zs h k = h ∙ sym k
chosen_unique P (x ∷ xs) ys zs h k = ⊎_elim
    (λ a. ⊎_elim
    (λ b. a.1.1 ∙ ap (λ l. x ∷ l) (chosen_unique P xs a.1.0 b.1.0 a.1.2 b.1.2) ∙ sym b.1.1)
    (λ b. absurd (b.0 a.0))
    k)
    (λ a. ⊎_elim
    (λ b. absurd (a.0 b.0))
    (λ b. chosen_unique P xs ys zs a.1 b.1)
    k)
    h

module _ {X : Type 0} (P : X → Type 0) where
  pub Contains-chosen : (xs ys : List X) → AreChosen P xs ys → (x : X) → Contains xs x → P x → Contains ys x
  Contains-chosen [] ys h x c p = absurd (Contains-none x c)
  Contains-chosen (z ∷ xs) ys h x c p = ⊎_elim
      (λ k. subst (λ v. Contains v x) (sym k.1.1) (⊎_elim
      (λ e. (0, omega arith, e))
      (λ t. Contains-cons z k.1.0 x (Contains-chosen xs k.1.0 k.1.2 x t p))
      (Contains-cons_cases z xs x c)))
      (λ d. ⊎_elim
      (λ e. absurd (d.0 (subst P (sym e) p)))
      (λ t. Contains-chosen xs ys d.1 x t p)
      (Contains-cons_cases z xs x c))
      h

  pub from_chosen : (xs ys : List X) → AreChosen P xs ys → (x : X) → Contains ys x → Contains xs x × P x
  from_chosen [] ys h x c = absurd (Contains-none x (subst (λ v. Contains v x) h c))
  from_chosen (z ∷ xs) ys h x c = ⊎_elim
      (λ k. ⊎_elim
      (λ e. ((0, omega arith, e), subst P e k.0))
      (λ t. let r = from_chosen xs k.1.0 k.1.2 x t in (Contains-cons z xs x r.0, r.1))
      (Contains-cons_cases z k.1.0 x (subst (λ v. Contains v x) k.1.1 c)))
      (λ d. let r = from_chosen xs ys d.1 x c in (Contains-cons z xs x r.0, r.1))
      h

  pub All-chosen : (Q : X → Type 0) (xs ys : List X) → AreChosen P xs ys → All Q xs → All Q ys
  All-chosen Q xs ys h a k d l = All-contains Q xs (get_or ys k d) a
      (from_chosen xs ys h (get_or ys k d) (Contains-get_or ys k d l)).0

  pub all_chosen : (xs ys : List X) → AreChosen P xs ys → All P ys
  all_chosen xs ys h k d l = (from_chosen xs ys h (get_or ys k d) (Contains-get_or ys k d l)).1

  pub length_chosen : (xs ys : List X) → AreChosen P xs ys → length ys ≤ length xs
  length_chosen [] ys h = omega (arith, ap length h)
  length_chosen (z ∷ xs) ys h = ⊎_elim
      (λ k. omega (arith, ap length k.1.1, length_chosen xs k.1.0 k.1.2))
      (λ d. omega (arith, length_chosen xs ys d.1))
      h

  -- one more element, which has the property
  pub chosen_push : (xs ys : List X) (x : X) → AreChosen P xs ys → P x → AreChosen P (xs ++ x ∷ []) (ys ++ x ∷ [])
  chosen_push [] ys x h p = inl (p, ([], ap (λ v. v ++ x ∷ []) h, refl))
  chosen_push (z ∷ xs) ys x h p = ⊎_elim
      (λ k. inl (k.0, (k.1.0 ++ x ∷ [], ap (λ v. v ++ x ∷ []) k.1.1, chosen_push xs k.1.0 x k.1.2 p)))
      (λ d. inr (d.0, chosen_push xs ys x d.1 p))
      h

  -- one more element, which has it not
  pub chosen_skip : (xs ys : List X) (x : X) → AreChosen P xs ys → (P x → ⊥) → AreChosen P (xs ++ x ∷ []) ys
  chosen_skip [] ys x h p = inr (p, h)
  chosen_skip (z ∷ xs) ys x h p = ⊎_elim
      (λ k. inl (k.0, (k.1.0, k.1.1, chosen_skip xs k.1.0 x k.1.2 p)))
      (λ d. inr (d.0, chosen_skip xs ys x d.1 p))
      h

module _ {V : Type 0} (R : Semiring V) (p : Inequality V) (dropped : List (List V)) where
  -- the new rows of one more kept row
  pub mixed_more : (kept fresh : List (List V)) (v : List V) (front : List (List V)) → AreMixed R p dropped kept fresh →
      AreMixedOf R p dropped v front → AreMixed R p dropped (kept ++ v ∷ []) (fresh ++ front)
  mixed_more [] fresh v front h m = (front, [], ap (λ l. l ++ front) h ∙ sym (append_nil front), m, refl)
    where
      append_nil : (xs : List (List V)) → xs ++ [] ≡ xs
      append_nil [] = refl
      append_nil (x ∷ xs) = ap (λ l. x ∷ l) (append_nil xs)
  mixed_more (u ∷ kept) fresh v front h m =
      (h.0, h.1 ++ front, ap (λ l. l ++ front) h.2 ∙ append_assoc h.0 h.1 front, h.3, mixed_more kept h.1 v front h.4 m)

  -- what stands in the new rows of one kept row
  abbrev pub IsFresh : List V → List V → List V → Type 0
  IsFresh v w x = (dot R p.right v ≢ R.zero) × Normalises R (mixed R p.left p.right v w) x

  from_mixed_of : (v : List V) (front : List (List V)) → AreMixedOf R p dropped v front → (x : List V) →
      Contains front x → (w : List V) × Contains dropped w × IsFresh v w x
  from_mixed_of v front h x c = ⊎_elim
      (λ z. absurd (Contains-none x (subst (λ l. Contains l x) z.1 c)))
      (λ f. let r = back_in_zip (λ w y. Normalises R (mixed R p.left p.right v w) y) dropped front f.1 x c in
      (r.0, r.1, (f.0, r.2)))
      h

  pub from_mixed : (kept fresh : List (List V)) → AreMixed R p dropped kept fresh → (x : List V) → Contains fresh x →
      (v : List V) × (w : List V) × Contains kept v × Contains dropped w × IsFresh v w x
  from_mixed [] fresh h x c = absurd (Contains-none x (subst (λ l. Contains l x) h c))
  from_mixed (u ∷ kept) fresh h x c = ⊎_elim
      (λ a. let r = from_mixed_of u h.0 h.3 x a in (u, r.0, (0, omega arith, refl), r.1, r.2))
      (λ b. let r = from_mixed kept h.1 h.4 x b in (r.0, r.1, Contains-cons u kept r.0 r.2, r.3, r.4))
      (Contains-append_cases h.0 h.1 x (subst (λ l. Contains l x) h.2 c))

  pub Contains-mixed : (kept fresh : List (List V)) → AreMixed R p dropped kept fresh → (v w : List V) →
      Contains kept v → Contains dropped w → dot R p.right v ≢ R.zero →
      (x : List V) × Contains fresh x × Normalises R (mixed R p.left p.right v w) x
  Contains-mixed [] fresh h v w c d f = absurd (Contains-none v c)
  Contains-mixed (u ∷ kept) fresh h v w c d f = ⊎_elim
      (λ e. ⊎_elim
      (λ z. absurd (f (ap (dot R p.right) (sym e) ∙ z.0)))
      (λ q.
      let r = there_in_zip (λ w y. Normalises R (mixed R p.left p.right u w) y) dropped h.0 q.1 w d in (
        r.0,
        subst (λ l. Contains l r.0) (sym h.2) (Contains-append_left h.0 h.1 r.0 r.1),
        subst (λ y. Normalises R (mixed R p.left p.right y w) r.0) e r.2,
      ))
      h.3)
      (λ t. let r = Contains-mixed kept h.1 h.4 v w t d f in
      (r.0, subst (λ l. Contains l r.0) (sym h.2) (Contains-append_right h.0 h.1 r.0 r.1), r.2))
      (Contains-cons_cases u kept v c)

module _ {V : Type 0} {R : Semiring V} (laws : SemiringLaws R) (n : ℕ) where
  length_of_mixed : (a b v w x : List V) → length v ≡ n → length w ≡ n → Normalises R (mixed R a b v w) x → length x ≡ n
  length_of_mixed a b v w x lv lw m =
      ap length m.multiple ∙ length-map (mixed R a b v w) (R.times m.factor)
      ∙ length-joined R _ _ n (length-map v (R.times (dot R a w)) ∙ lv) (length-map w (R.times (dot R b v)) ∙ lw)

  module _ (p : Inequality V) (rows others : List (List V)) (inside : IsIn n p) (wide : AreWide n rows)
      (s : IsStepList R p rows others) where
    at_row : (x : List V) → length x ≡ n → HoldsOf R p.left p.right x ↔ IsTrueAt R p x
    at_row x l = truth laws p.left p.right x (inside.left ∙ sym l) (inside.right ∙ sym l)

    length_row : (x : List V) → Contains rows x → length x ≡ n
    length_row x c = All-contains (λ g. length g ≡ n) rows x wide c

    in_kept : (x : List V) → Contains s.kept x → Contains rows x × IsTrueAt R p x
    in_kept x c = from_chosen (IsTrueAt R p) rows s.kept s.are_kept x c

    in_dropped : (x : List V) → Contains s.dropped x → Contains rows x × (IsTrueAt R p x → ⊥)
    in_dropped x c = from_chosen (λ w. IsTrueAt R p w → ⊥) rows s.dropped s.are_dropped x c

    -- each row of the list has n entries
    pub wide_step_list : AreWide n others
    wide_step_list k d l = ⊎_elim
        (λ c. length_row _ (in_kept _ c).0)
        (λ c.
        let r = from_mixed R p s.dropped s.kept s.fresh s.are_fresh (get_or others k d) c in
        length_of_mixed p.left p.right r.0 r.1 (get_or others k d) (length_row r.0 (in_kept r.0 r.2).0)
        (length_row r.1 (in_dropped r.1 r.3).0) r.4.1)
        (Contains-append_cases s.kept s.fresh (get_or others k d)
        (subst (λ v. Contains v (get_or others k d)) s.in_order (Contains-get_or others k d l)))

    raw : Stepped laws n p.left p.right rows
    raw = stepped laws n p.left p.right rows

    wide_raw : AreWide n raw.others
    wide_raw k d l = ⊎_elim
        (λ q. length_row _ q.0)
        (λ q. ap length q.7 ∙ length-joined R _ _ n (length-map q.0 (R.times (dot R p.left q.1)) ∙ length_row q.0 q.2)
        (length-map q.1 (R.times (dot R p.right q.0)) ∙ length_row q.1 q.3))
        (raw.parents (get_or raw.others k d) (Contains-get_or raw.others k d l))

    there : (x : List V) → Contains raw.others x → IsCombination R n others x
    there x c = ⊎_elim
        (λ q. IsCombination-contained laws n others x wide_step_list
        (subst (λ v. Contains v x) (sym s.in_order)
        (Contains-append_left s.kept s.fresh x
        (Contains-chosen (IsTrueAt R p) rows s.kept s.are_kept x q.0 ((at_row x (length_row x q.0)).0 q.1)))))
        (λ q.
        let kept_v = Contains-chosen (IsTrueAt R p) rows s.kept s.are_kept q.0 q.2
        ((at_row q.0 (length_row q.0 q.2)).0 q.4) in
        let dropped_w = Contains-chosen (λ w. IsTrueAt R p w → ⊥) rows s.dropped s.are_dropped q.1 q.3
        (λ t. q.6 ((at_row q.1 (length_row q.1 q.3)).1 t)) in
        let r = Contains-mixed R p s.dropped s.kept s.fresh s.are_fresh q.0 q.1 kept_v dropped_w q.5 in
        subst (IsCombination R n others) (undo_normal laws (mixed R p.left p.right q.0 q.1) r.0 r.2 ∙ sym q.7)
        (IsCombination-scaled laws n others (R.inverse r.2.factor) r.0
        (IsCombination-contained laws n others r.0 wide_step_list
        (subst (λ v. Contains v r.0) (sym s.in_order) (Contains-append_right s.kept s.fresh r.0 r.1)))))
        (raw.parents x c)

    back : (x : List V) → Contains others x → IsCombination R n raw.others x
    back x c = ⊎_elim
        (λ k. let r = in_kept x k in IsCombination-contained laws n raw.others x wide_raw
        (raw.step.kept x r.0 ((at_row x (length_row x r.0)).1 r.1)))
        (λ f.
        let r = from_mixed R p s.dropped s.kept s.fresh s.are_fresh x f in
        let v = in_kept r.0 r.2 in
        let w = in_dropped r.1 r.3 in
        subst (IsCombination R n raw.others) (sym r.4.1.multiple)
        (IsCombination-scaled laws n raw.others r.4.1.factor (mixed R p.left p.right r.0 r.1)
        (IsCombination-contained laws n raw.others (mixed R p.left p.right r.0 r.1) wide_raw
        (raw.step.mixes r.0 r.1 v.0 w.0 ((at_row r.0 (length_row r.0 v.0)).1 v.1) r.4.0
        (λ t. w.1 ((at_row r.1 (length_row r.1 w.0)).0 t))))))
        (Contains-append_cases s.kept s.fresh x (subst (λ v. Contains v x) s.in_order c))

    same : SameCone R n raw.others others
    same = record {
      there = λ k d l. there (get_or raw.others k d) (Contains-get_or raw.others k d l);
      back = λ k d l. back (get_or others k d) (Contains-get_or others k d l);
    }

    -- its combinations are the combinations of the rows at which the inequality is true
    pub step_list_is_guard : (x : List V) → IsCombination R n others x ↔ InGuard R (IsCombination R n rows) p x
    step_list_is_guard x =
        let g = step_is_guard laws n p.left p.right rows raw.others wide wide_raw raw.step x in
        let e = IsCombination-same laws n raw.others others wide_raw wide_step_list same x in (
          λ c. let h = g.0 (e.1 c) in (h.0, (at_row x (IsCombination-length laws n rows x wide h.0)).0 h.1),
          λ h. e.0 (g.1 (h.0, (at_row x (IsCombination-length laws n rows x wide h.0)).1 h.1)),
        )
