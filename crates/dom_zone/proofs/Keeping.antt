-- Kept bounds, as lists.
use Rattle.std.proofs.Common.{◌≡◌, inl, inr, ⊎_elim, ◌^◌, ℕ, suc, ℤ, ◌≤ℤ◌, ◌<ℤ◌, true, false, cond, List, get_or, Option, Some, None, refl, sym, subst, subst₂, arith}
use Rattle.std.specs.Prelude.{int_le, Result, Ok, Err, IfOk}
use Rattle.std.specs.Option.{unwrap_or}
use Rattle.std.proofs.lemmas.Int.{ints}
use Rattle.prog_theory.specs.States.{State}
use Rattle.zone_theory.specs.Bounds.{Bound}
use Rattle.zone_theory.specs.Matrices.{InZone}
use Rattle.zone_theory.specs.Closed.{IsGreatest}
use Rattle.zone_theory.specs.Widening.{Stays, IsKept}
use Rattle.zone_theory.proofs.Bounds.{lt_or_le}
use Rattle.zone_theory.proofs.Closing.{IsGreatest-least, IsGreatest-bounds}
use Rattle.zone_theory.proofs.Widening.{kept-set}
use Rattle.zone_tables.specs.Tables.{IsTable, AreMade}
use Rattle.zone_tables.specs.Sizes.{IsWithin, AreWithin}
use Rattle.zone_tables.specs.Kept.{remaining}
use Rattle.zone_lists.specs.Zones.{matrix_in}
use Rattle.dom_zone.specs.Values.{IsSmallTable, AreKept, AreKeptIf}
use Rattle.dom_zone.specs.Widened.{IsBasis, IsLeft}
use Rattle.zone_tables.proofs.Lists.{made-table, made-pair}

pub le_true : (a c : ℤ) → a ≤ℤ c → int_le a c ≡ true
le_true a c h = grind (arith, ints)

pub le_false : (a c : ℤ) → c <ℤ a → int_le a c ≡ false
le_false a c h = grind (arith, ints)

pub remaining-yes : (a c : ℤ) → a ≤ℤ c → remaining (Some c) (Some a) ≡ Some c
remaining-yes a c h = rw (le_true a c h) refl

pub remaining-no : (a c : ℤ) → c <ℤ a → remaining (Some c) (Some a) ≡ None
remaining-no a c h = rw (le_false a c h) refl

remaining-stays : (S : State → Type 0) (i j : ℕ) (old n : Bound) → IsGreatest S i j n
    → Stays S i j old (remaining old n)
remaining-stays S i j None n g = inl (λ s hs. tt, refl)
remaining-stays S i j (Some c) None g = inr (λ h. IsGreatest-least S i j None c g h, refl)
remaining-stays S i j (Some c) (Some a) g = ⊎_elim
    (λ l. inr (λ h. above a c l (IsGreatest-least S i j (Some a) c g h), remaining-no a c l))
    (λ l. inl (λ s hs. IsGreatest-bounds S i j (Some a) c g l s hs, remaining-yes a c l))
    (lt_or_le c a)
  where
    above : (a c : ℤ) → c <ℤ a → a ≤ℤ c → ⊥
    above a c l h = omega (arith, ints)

remaining-within : (most : ℕ) (old n : Bound) → IsWithin most old → IsWithin most (remaining old n)
remaining-within most None n h = tt
remaining-within most (Some c) None h = tt
remaining-within most (Some c) (Some a) h = elim (int_le a c) as (λ b. IsWithin most (cond b (Some c) None))
    [ true ↦ h | false ↦ tt ]

module _ (vars : ℕ) (old reached left : List Bound) (table : IsTable (suc vars) old) (within : AreWithin (2 ^ 40) old)
    (small : IsSmallTable vars reached) (made : AreMade remaining old reached left) where
  left-stays : IsKept vars (InZone vars (matrix_in vars reached)) (matrix_in vars old) (matrix_in vars left)
  left-stays = record {
    stays = λ i j hi hj ne. subst (Stays (InZone vars (matrix_in vars reached)) i j (matrix_in vars old i j))
        (sym (made-pair remaining refl (suc vars) old reached left made i j (omega (arith, hi)) (omega (arith, hj)) ne))
        (remaining-stays (InZone vars (matrix_in vars reached)) i j (matrix_in vars old i j)
        (matrix_in vars reached i j) (small.closed.closed.greatest i j hi hj ne));
  }

  left-basis : IsBasis vars left
  left-basis = record {
    table = made-table remaining refl (suc vars) old reached left made table small.closed.table;
    within = λ k. subst (IsWithin (2 ^ 40)) (sym (made.each k)) (remaining-within (2 ^ 40) (get_or old k None)
        (get_or reached k None) (within k));
    some = let s = small.closed.closed.some in (
      s.0,
      kept-set vars (InZone vars (matrix_in vars reached)) (matrix_in vars old) (matrix_in vars left) left-stays
          (λ s z. z.size) s.0 s.1,
    );
  }

pub left-first : (vars : ℕ) (bounds reached left : List Bound) → IsSmallTable vars bounds → IsSmallTable vars reached
    → AreMade remaining bounds reached left → IsLeft vars bounds None reached left
left-first vars bounds reached left one two made = record {
  begins = left-basis vars bounds reached left one.closed.table one.within two made;
  stays = left-stays vars bounds reached left one.closed.table one.within two made;
}

pub left-again : (vars : ℕ) (bounds kept reached left : List Bound) → AreKept vars bounds kept
    → IsSmallTable vars reached → AreMade remaining kept reached left → IsLeft vars bounds (Some kept) reached left
left-again vars bounds kept reached left one two made = record {
  begins = left-basis vars kept reached left one.table one.within two made;
  stays = left-stays vars kept reached left one.table one.within two made;
}

-- as what comes of a call that may want memory
pub left-if : {E : Type 0} (vars : ℕ) (bounds reached one two : List Bound) (kept : Option (List Bound))
    (r : Result (List Bound) E) → IsSmallTable vars bounds → AreKeptIf vars (Some bounds) kept
    → IsSmallTable vars reached
    → one ≡ unwrap_or kept bounds → two ≡ reached → IfOk r (λ t. AreMade remaining one two t)
    → IfOk r (λ t. IsLeft vars bounds kept reached t)
left-if vars bounds reached one two None (Ok t) a k b oe te made =
    left-first vars bounds reached t a b (subst₂ (λ x y. AreMade remaining x y t) oe te made)
left-if vars bounds reached one two (Some keeps) (Ok t) a k b oe te made =
    left-again vars bounds keeps reached t k b (subst₂ (λ x y. AreMade remaining x y t) oe te made)
left-if vars bounds reached one two kept (Err e) a k b oe te made = tt
