-- Lists without repeats: how long they can be.
use Rattle.std.proofs.Common.{◌≡◌, ◌≢◌, ◌<◌, ◌≤◌, ◌+◌, ◌-◌, ℕ, suc, List, [], ◌∷◌, ◌++◌, length, ⊎_elim, sym, ap, ◌∙◌, refl, arith, subst, get_or}
use Rattle.std.specs.Prelude.{All, AllPairs, Contains, remove}
use Rattle.std.proofs.lemmas.Bool.{cases_lt}
use Rattle.std.proofs.lemmas.List.{get_or_default, length-append, get_or_append_left, get_or-append-add}
use Rattle.std.proofs.lemmas.List.Edits.{get_or-remove_below, get_or-remove_above, length-remove}
use Rattle.std.proofs.lemmas.List.Elements.{Contains-get_or, All-contains, All-append}

module _ {X : Type 0} where
  -- no element stands twice
  abbrev pub AreDistinct : List X → Type 0
  AreDistinct xs = AllPairs (λ x y. x ≢ y) xs

  -- an element other than the one that goes stays
  Contains-remove : (ys : List X) (k : ℕ) (z : X) → k < length ys → Contains ys z → get_or ys k z ≢ z →
      Contains (remove ys k) z
  Contains-remove ys k z l h ne = ⊎_elim below (λ le.
      ⊎_elim above (λ le'. absurd (ne (ap (λ i. get_or ys i z) (let e : k ≡ h.0 = omega arith in e) ∙ h.2)))
      (cases_lt k h.0)) (cases_lt h.0 k)
    where
      below : h.0 < k → Contains (remove ys k) z
      below lt = (h.0, omega (arith, length-remove ys k l, h.1), get_or-remove_below ys k z h.0 lt l ∙ h.2)

      above : k < h.0 → Contains (remove ys k) z
      above lt = (
        h.0 - 1,
        omega (arith, length-remove ys k l, h.1),
        get_or-remove_above ys k z (h.0 - 1) (omega arith) l
            ∙ ap (λ i. get_or ys i z) (let e : h.0 - 1 + 1 ≡ h.0 = omega arith in e) ∙ h.2,
      )

  AllPairs-tail : (D : X → X → Type 0) (x : X) (xs : List X) → AllPairs D (x ∷ xs) → AllPairs D xs
  AllPairs-tail D x xs h i j d lt l = h (suc i) (suc j) d (omega arith) (omega arith)

  -- a list without repeats is no longer than a list that has its elements
  pub no_longer : (xs ys : List X) → AreDistinct xs → All (Contains ys) xs → length xs ≤ length ys
  no_longer [] ys d h = omega arith
  no_longer (x ∷ xs) ys d h =
      let at = h 0 x (omega arith) in
      let rest = no_longer xs (remove ys at.0) (AllPairs-tail (λ y z. y ≢ z) x xs d)
      (λ k e l. Contains-remove ys at.0 (get_or xs k e) at.1 (h (suc k) e (omega arith))
      (λ same. d 0 (suc k) e (omega arith) (omega arith)
      (sym at.2 ∙ get_or_default ys at.0 x (get_or xs k e) at.1 ∙ same))) in
      omega (arith, length-remove ys at.0 at.1)

  pub distinct_append : (xs ys : List X) → AreDistinct xs → AreDistinct ys →
      ((x : X) → Contains xs x → Contains ys x → ⊥) → AreDistinct (xs ++ ys)
  distinct_append xs ys dx dy apart i j d lt l e = ⊎_elim
      (λ jx. dx i j d lt jx (sym (get_or_append_left xs ys d i (omega arith)) ∙ e ∙ get_or_append_left xs ys d j jx))
      (λ xj. ⊎_elim
      (λ ix. apart (get_or xs i d) (Contains-get_or xs i d ix)
      (subst (Contains ys) (sym (right j xj) ∙ sym e ∙ get_or_append_left xs ys d i ix)
      (Contains-get_or ys (j - length xs) d (omega (arith, length-append xs ys)))))
      (λ xi. dy (i - length xs) (j - length xs) d (omega arith) (omega (arith, length-append xs ys))
      (sym (right i xi) ∙ e ∙ right j xj))
      (cases_lt i (length xs)))
      (cases_lt j (length xs))
    where
      right : (k : ℕ) → length xs ≤ k → get_or (xs ++ ys) k d ≡ get_or ys (k - length xs) d
      right k h = ap (λ i. get_or (xs ++ ys) i d) (let e : k ≡ length xs + (k - length xs) = omega arith in e)
          ∙ get_or-append-add xs ys (k - length xs) d
