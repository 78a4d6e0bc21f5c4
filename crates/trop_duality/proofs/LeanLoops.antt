-- A list made lean in a loop, one inequality after another.
use Rattle.std.proofs.Common.{◌≡◌, ◌<◌, ◌+◌, ◌-◌, ℕ, suc, List, [], ◌∷◌, ◌++◌, inl, inr, ⊎_elim, sym, refl, arith, subst}
use Rattle.std.proofs.lemmas.Bool.{cases_lt}
use Rattle.std.proofs.lemmas.List.{append_assoc, append-nil}
use Rattle.trop_theory.specs.Semiring.{Semiring}
use Rattle.trop_theory.specs.Inequalities.{Inequality, Solves, IsValidOn}
use Rattle.trop_duality.specs.Lean.{FailsFirst, IsLeanFrom, IsLean}
use Rattle.trop_cones.specs.RowStops.{IsRowsStop}
use Rattle.trop_duality.specs.LeanStops.{IsLeanStopAfter, IsLeanStop}
use Rattle.trop_duality.proofs.Lean.{failing_solves}

module _ {V : Type 0} (R : Semiring V) (n : ℕ) where
  -- an inequality with a first failing row is not valid
  pub not_valid_from_fails : (cone : List V → Type 0) (p : Inequality V) (w : List V) → FailsFirst R cone p w →
      IsValidOn R cone p → ⊥
  not_valid_from_fails cone p w h valid = h.fails (valid w (failing_solves R n cone p w h))

  module _ (whole : List (Inequality V)) where
    -- However the rest is made lean, with what stands in front of it the whole is.
    abbrev pub IsLeanSoFar : List (Inequality V) → List (List V) → List (Inequality V) → Type 0
    IsLeanSoFar front rows system = (kept : List (Inequality V)) (more : List (List V)) →
        IsLeanFrom R n front system kept more → IsLean R n whole (front ++ kept) (rows ++ more)

    pub lean_first : IsLeanSoFar [] [] whole
    lean_first kept more h = h

    pub lean_drop : (front : List (Inequality V)) (rows : List (List V)) (p : Inequality V)
        (system : List (Inequality V)) → IsLeanSoFar front rows (p ∷ system) →
        IsValidOn R (Solves R n (front ++ system)) p → IsLeanSoFar front rows system
    lean_drop front rows p system h valid kept more k = h kept more (inl (valid, k))

    pub lean_keep : (front : List (Inequality V)) (rows : List (List V)) (p : Inequality V) (w : List V)
        (system : List (Inequality V)) → IsLeanSoFar front rows (p ∷ system) →
        FailsFirst R (Solves R n (front ++ system)) p w → IsLeanSoFar (front ++ p ∷ []) (rows ++ w ∷ []) system
    lean_keep front rows p w system h fails kept more k =
        subst (λ l. IsLean R n whole l ((rows ++ w ∷ []) ++ more)) (sym (append_assoc front (p ∷ []) kept))
        (subst (IsLean R n whole (front ++ p ∷ kept)) (sym (append_assoc rows (w ∷ []) more))
        (h (p ∷ kept) (w ∷ more) (inr (kept, w, more, refl, refl, fails, k))))

    pub lean_last : (front : List (Inequality V)) (rows : List (List V)) → IsLeanSoFar front rows [] →
        IsLean R n whole front rows
    lean_last front rows h = subst (λ l. IsLean R n whole l rows) (append-nil front)
        (subst (IsLean R n whole (front ++ [])) (append-nil rows) (h [] [] (refl, refl)))

    -- Some turns went well, and the stops of the whole are those of the rest behind them.
    pub record IsUnstopped (front : List (Inequality V)) (turns : ℕ) (system : List (Inequality V)) : Type 0 where
      pub before : (k j : ℕ) → k < turns → IsLeanStopAfter R n [] whole k j → ⊥
      pub there : (k j : ℕ) → IsLeanStopAfter R n [] whole (turns + k) j → IsLeanStopAfter R n front system k j
      pub back : (k j : ℕ) → IsLeanStopAfter R n front system k j → IsLeanStopAfter R n [] whole (turns + k) j

    pub unstopped_first : IsUnstopped [] 0 whole
    unstopped_first = record {
      before = λ k j l. absurd (omega arith);
      there = λ k j h. let e : 0 + k ≡ k = omega arith in subst (λ i. IsLeanStopAfter R n [] whole i j) e h;
      back = λ k j h. let e : k ≡ 0 + k = omega arith in subst (λ i. IsLeanStopAfter R n [] whole i j) e h;
    }

    one_more : (front next : List (Inequality V)) (turns : ℕ) (p : Inequality V) (system : List (Inequality V)) →
        IsUnstopped front turns (p ∷ system) → ((j : ℕ) → IsRowsStop R n (front ++ system) j → ⊥) →
        ((k j : ℕ) → IsLeanStopAfter R n front (p ∷ system) (suc k) j → IsLeanStopAfter R n next system k j) →
        ((k j : ℕ) → IsLeanStopAfter R n next system k j → IsLeanStopAfter R n front (p ∷ system) (suc k) j) →
        IsUnstopped next (turns + 1) system
    one_more front next turns p system h none there back = record {
      before = λ k j l s. ⊎_elim
          (λ q. h.before k j q s)
          (λ q. let e : k ≡ turns + 0 = omega arith in
          none j (h.there 0 j (subst (λ i. IsLeanStopAfter R n [] whole i j) e s)))
          (cases_lt k turns);
      there = λ k j s. let e : turns + 1 + k ≡ turns + suc k = omega arith in
          there k j (h.there (suc k) j (subst (λ i. IsLeanStopAfter R n [] whole i j) e s));
      back = λ k j s. let e : turns + suc k ≡ turns + 1 + k = omega arith in
          subst (λ i. IsLeanStopAfter R n [] whole i j) e (h.back (suc k) j (back k j s));
    }

    pub unstopped_drop : (front : List (Inequality V)) (turns : ℕ) (p : Inequality V) (system : List (Inequality V)) →
        IsUnstopped front turns (p ∷ system) → ((j : ℕ) → IsRowsStop R n (front ++ system) j → ⊥) →
        IsValidOn R (Solves R n (front ++ system)) p → IsUnstopped front (turns + 1) system
    unstopped_drop front turns p system h none valid = one_more front front turns p system h none
        (λ k j s. ⊎_elim (λ a. a.1) (λ b. absurd (b.0 valid)) s.1)
        (λ k j s. (none, inl (valid, s)))

    pub unstopped_keep : (front : List (Inequality V)) (turns : ℕ) (p : Inequality V) (system : List (Inequality V)) →
        IsUnstopped front turns (p ∷ system) → ((j : ℕ) → IsRowsStop R n (front ++ system) j → ⊥) →
        (IsValidOn R (Solves R n (front ++ system)) p → ⊥) → IsUnstopped (front ++ p ∷ []) (turns + 1) system
    unstopped_keep front turns p system h none fails = one_more front (front ++ p ∷ []) turns p system h none
        (λ k j s. ⊎_elim (λ a. absurd (fails a.0)) (λ b. b.1) s.1)
        (λ k j s. (none, inr (fails, s)))

    -- the turn at which the rest is too much
    pub IsLeanStop-from : (front : List (Inequality V)) (turns : ℕ) (p : Inequality V) (system : List (Inequality V))
        (j : ℕ) → IsUnstopped front turns (p ∷ system) → IsRowsStop R n (front ++ system) j →
        IsLeanStop R n whole (turns + 1) j
    IsLeanStop-from front turns p system j h s = record {
      before = turns + 0;
      number = omega arith;
      stops = h.back 0 j s;
    }

    -- where every turn went well there is no stop
    pub no_lean_stop : (front : List (Inequality V)) (turns : ℕ) → IsUnstopped front turns [] → (k j : ℕ) →
        IsLeanStop R n whole k j → ⊥
    no_lean_stop front turns h k j s = ⊎_elim
        (λ l. h.before s.before j l s.stops)
        (λ l. let e : s.before ≡ turns + (s.before - turns) = omega arith in
        h.there (s.before - turns) j (subst (λ i. IsLeanStopAfter R n [] whole i j) e s.stops))
        (cases_lt s.before turns)
