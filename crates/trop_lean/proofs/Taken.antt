-- The turn of one inequality, from the canonical list of the solutions of the rest.
use Rattle.std.proofs.Common.{◌≡◌, ◌<◌, ◌≤◌, ◌+◌, ◌-◌, ◌*◌, ◌^◌, ℕ, suc, List, [], ◌∷◌, ◌++◌, length, take, drop, get_or, inl, inr, sym, ap, ◌∙◌, arith, subst}
use Rattle.std.specs.Prelude.{All}
use Rattle.std.proofs.lemmas.List.{take_more, get_or-take, get_or_default, length-take-le, length_push}
use Rattle.std.proofs.lemmas.List.Elements.{All-push}
use Rattle.std.proofs.Math.Seq.{drop-cons}
use Rattle.std.proofs.Math.Nat.{mul-le-mul_left}
use Rattle.trop_theory.specs.Semiring.{Semiring, SemiringLaws}
use Rattle.trop_theory.specs.Vectors.{row_size, rows_size}
use Rattle.trop_theory.specs.Inequalities.{Inequality, IsTrueAt, Solves, inequality_size, system_size}
use Rattle.trop_theory.specs.Canonical.{IsCanonical}
use Rattle.trop_cones.proofs.Sizes.{rows_size-each}
use Rattle.trop_duality.specs.Lean.{FailsFirst}
use Rattle.trop_duality.proofs.LeanLoops.{IsLeanSoFar, IsUnstopped, lean_drop, lean_keep, unstopped_drop, unstopped_keep, not_valid_from_fails}
use Rattle.trop_lean.specs.Fronts.{AreFrontsWithin}
use Rattle.trop_lean.specs.Turns.{IsFirstFalse, IsTurn}
use Rattle.trop_lean.proofs.Standing.{fronts_no_stop, front_push, size_push, whole_front}

-- ---- a scan of rows
module _ {V : Type 0} (R : Semiring V) (p : Inequality V) (rows : List (List V)) (k : ℕ) (row : List V)
    (within : k < length rows) (read : row ≡ get_or rows k row) where
  pub true_more : All (IsTrueAt R p) (take k rows) → IsTrueAt R p row → All (IsTrueAt R p) (take (k + 1) rows)
  true_more h t = subst (All (IsTrueAt R p)) (ap (λ w. take k rows ++ w ∷ []) read ∙ sym (take_more rows k row within))
      (All-push (IsTrueAt R p) (take k rows) row h t)

  pub first_false_at : All (IsTrueAt R p) (take k rows) → (IsTrueAt R p row → ⊥) → IsFirstFalse R p rows k
  first_false_at h f = record {
    within = within;
    fails = λ d t. f (subst (IsTrueAt R p) (get_or_default rows k d row within ∙ sym read) t);
    before = λ j d l. subst (IsTrueAt R p) (get_or-take k rows j d l)
        (h j d (omega (arith, length-take-le k rows (omega arith))));
  }

-- the rows of a conversion are small enough to try inequalities on them
pub rows_fit : {V : Type 0} {R : Semiring V} (laws : SemiringLaws R) (n : ℕ) (system : List (Inequality V))
    (rows : List (List V)) → n ≤ 64 → system_size R system ≤ 2 ^ 49 →
    All (λ row. row_size R row ≤ 4 * system_size R system * (n - 1)) rows → rows_size R rows ≤ 2 ^ 57
rows_fit {V} {R} laws n system rows ln ls h =
    let most : 4 * system_size R system * (n - 1) ≤ 4 * system_size R system * 63 =
    mul-le-mul_left (4 * system_size R system) (omega arith) in
    omega (arith, rows_size-each laws rows (4 * system_size R system * (n - 1)) h, most)

module _ {V : Type 0} (R : Semiring V) (n : ℕ) where
  pub fails_first : (system : List (Inequality V)) (p : Inequality V) (rows : List (List V)) (k : ℕ) (row : List V) →
      IsCanonical R (Solves R n system) rows → IsFirstFalse R p rows k → get_or rows k row ≡ row →
      FailsFirst R (Solves R n system) p row
  fails_first system p rows k row canonical h here = record {
    rows = rows;
    canonical = canonical;
    place = k;
    within = h.within;
    here = here;
    fails = λ t. h.fails row (subst (IsTrueAt R p) (sym here) t);
    before = h.before;
  }

  pub canonical_as : (m k : ℕ) (s t : List (Inequality V)) (r q : List (List V)) → m ≡ k → s ≡ t → q ≡ r →
      IsCanonical R (Solves R m s) r → IsCanonical R (Solves R k t) q
  canonical_as m k s t r q em es eq h = subst (λ i. IsCanonical R (Solves R i t) q) em
      (subst (λ u. IsCanonical R (Solves R m u) q) es (subst (IsCanonical R (Solves R m s)) (sym eq) h))

  pub turn_as : (m : ℕ) (s t : List (Inequality V)) (p : Inequality V) (kept kept' : List (Inequality V))
      (rows rows' : List (List V)) → m ≡ n → s ≡ t → IsTurn R m s p kept rows kept' rows' →
      IsTurn R n t p kept rows kept' rows'
  turn_as m s t p kept kept' rows rows' em es h = subst (λ i. IsTurn R i t p kept rows kept' rows') em
      (subst (λ u. IsTurn R m u p kept rows kept' rows') es h)

  -- ---- what a turn keeps
  -- the front that was converted is a front of those that stand after the turn
  pub front_after : (rest : List (Inequality V)) (p : Inequality V) (kept kept' : List (Inequality V))
      (rows rows' : List (List V)) (base : List (Inequality V)) → base ≡ kept →
      IsTurn R n rest p kept rows kept' rows' → base ≡ take (length base) kept'
  front_after rest p kept kept' rows rows' base e (inl t) =
      subst (λ s. base ≡ take (length base) s) (e ∙ sym t.1) (whole_front base)
  front_after rest p kept kept' rows rows' base e (inr t) =
      subst (λ s. base ≡ take (length base) s) (ap (λ s. s ++ p ∷ []) e ∙ sym t.2)
      (front_push base base p (whole_front base))

  pub size_after : (rest : List (Inequality V)) (p : Inequality V) (kept kept' : List (Inequality V))
      (rows rows' : List (List V)) (m : ℕ) → system_size R kept ≤ m → inequality_size R p ≤ m →
      IsTurn R n rest p kept rows kept' rows' → system_size R kept' ≤ m
  size_after rest p kept kept' rows rows' m h l (inl t) = omega (arith, ap (system_size R) t.1)
  size_after rest p kept kept' rows rows' m h l (inr t) =
      omega (arith, ap (system_size R) t.2, size_push R kept p m h l)

  pub few_after : (rest : List (Inequality V)) (p : Inequality V) (kept kept' : List (Inequality V))
      (rows rows' : List (List V)) (k : ℕ) → length kept ≤ k → IsTurn R n rest p kept rows kept' rows' →
      length kept' ≤ k + 1
  few_after rest p kept kept' rows rows' k h (inl t) = omega (arith, ap length t.1)
  few_after rest p kept kept' rows rows' k h (inr t) = omega (arith, ap length t.2, length_push kept p)

  pub one_each_after : (rest : List (Inequality V)) (p : Inequality V) (kept kept' : List (Inequality V))
      (rows rows' : List (List V)) → length rows ≡ length kept → IsTurn R n rest p kept rows kept' rows' →
      length rows' ≡ length kept'
  one_each_after rest p kept kept' rows rows' h (inl t) = omega (arith, ap length t.1, ap length t.2)
  one_each_after rest p kept kept' rows rows' h (inr t) =
      omega (arith, ap length t.2, length_push kept p, ap length t.3, length_push rows t.0)

  module _ (whole : List (Inequality V)) where
    -- the next inequality in front of those behind it
    pub next_is : (k : ℕ) (p : Inequality V) → k < length whole → p ≡ get_or whole k p →
        drop k whole ≡ p ∷ drop (k + 1) whole
    next_is k p l read = let e : suc k ≡ k + 1 = omega arith in
        drop-cons whole k p l ∙ ap (λ q. q ∷ drop (suc k) whole) (sym read) ∙ ap (λ i. p ∷ drop i whole) e

    pub lean_turn : (kept kept' : List (Inequality V)) (rows rows' : List (List V)) (p : Inequality V)
        (behind next : List (Inequality V)) → next ≡ p ∷ behind → IsLeanSoFar R n whole kept rows next →
        IsTurn R n (kept ++ behind) p kept rows kept' rows' → IsLeanSoFar R n whole kept' rows' behind
    lean_turn kept kept' rows rows' p behind next e h (inl t) =
        subst (λ s. IsLeanSoFar R n whole s rows' behind) (sym t.1)
        (subst (λ r. IsLeanSoFar R n whole kept r behind) (sym t.2)
        (lean_drop R n whole kept rows p behind (subst (IsLeanSoFar R n whole kept rows) e h) t.0))
    lean_turn kept kept' rows rows' p behind next e h (inr t) =
        subst (λ s. IsLeanSoFar R n whole s rows' behind) (sym t.2)
        (subst (λ r. IsLeanSoFar R n whole (kept ++ p ∷ []) r behind) (sym t.3)
        (lean_keep R n whole kept rows p t.0 behind (subst (IsLeanSoFar R n whole kept rows) e h) t.1))

    pub unstopped_turn : (kept kept' : List (Inequality V)) (rows rows' : List (List V)) (turns : ℕ) (p : Inequality V)
        (behind next : List (Inequality V)) → next ≡ p ∷ behind → IsUnstopped R n whole kept turns next →
        AreFrontsWithin R n (kept ++ behind) → IsTurn R n (kept ++ behind) p kept rows kept' rows' →
        IsUnstopped R n whole kept' (turns + 1) behind
    unstopped_turn kept kept' rows rows' turns p behind next e h f (inl t) =
        subst (λ s. IsUnstopped R n whole s (turns + 1) behind) (sym t.1)
        (unstopped_drop R n whole kept turns p behind (subst (IsUnstopped R n whole kept turns) e h)
        (fronts_no_stop R n (kept ++ behind) f) t.0)
    unstopped_turn kept kept' rows rows' turns p behind next e h f (inr t) =
        subst (λ s. IsUnstopped R n whole s (turns + 1) behind) (sym t.2)
        (unstopped_keep R n whole kept turns p behind (subst (IsUnstopped R n whole kept turns) e h)
        (fronts_no_stop R n (kept ++ behind) f) (not_valid_from_fails R n (Solves R n (kept ++ behind)) p t.0 t.1))
