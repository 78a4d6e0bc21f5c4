-- What a bound says of the numbers that it is at most.
use Rattle.std.proofs.Common.{◌≡◌, ◌⊎◌, inl, inr, ⊎_elim, ℤ, ◌+ℤ◌, ◌≤ℤ◌, ◌<ℤ◌, Bool, true, false, not, Some, None, refl, sym, subst, T, arith}
use Rattle.std.specs.Int.Signed.{lt_z, lt_z_yes, lt_z_no}
use Rattle.std.proofs.lemmas.Int.{ints, clamps}
use Rattle.zone_theory.specs.Bounds.{Bound, Keeps, IsAtMost, least, most, plus}

pub le_same : (x : ℤ) → x ≤ℤ x
le_same x = omega (arith, ints)

pub le_both : (x y : ℤ) → x ≤ℤ y → y ≤ℤ x → x ≡ y
le_both x y h k = omega (arith, ints)

pub lt_or_le : (x y : ℤ) → (x <ℤ y) ⊎ (y ≤ℤ x)
lt_or_le x y = go (lt_z x y) refl
  where
    go : (b : Bool) → lt_z x y ≡ b → (x <ℤ y) ⊎ (y ≤ℤ x)
    go true e = inl (lt_z_yes (subst T (sym e) tt))
    go false e = inr (lt_z_no (subst (λ b. T (not b)) (sym e) tt))

pub le_total : (x y : ℤ) → (x ≤ℤ y) ⊎ (y ≤ℤ x)
le_total x y = ⊎_elim (λ l. inl (omega (arith, ints))) (λ l. inr l) (lt_or_le x y)

pub Keeps-at_most : (b : Bound) (z c : ℤ) → Keeps b z → IsAtMost b c → z ≤ℤ c
Keeps-at_most None z c k h = absurd h
Keeps-at_most (Some a) z c k h = omega (arith, ints)

pub Keeps-from : (b : Bound) (z : ℤ) → ((c : ℤ) → IsAtMost b c → z ≤ℤ c) → Keeps b z
Keeps-from None z h = tt
Keeps-from (Some a) z h = h a (le_same a)

pub IsAtMost-more : (b : Bound) (a c : ℤ) → IsAtMost b a → a ≤ℤ c → IsAtMost b c
IsAtMost-more None a c h l = absurd h
IsAtMost-more (Some x) a c h l = omega (arith, ints)

pub IsAtMost-decided : (b : Bound) (c : ℤ) → IsAtMost b c ⊎ (IsAtMost b c → ⊥)
IsAtMost-decided None c = inr (λ h. h)
IsAtMost-decided (Some a) c = ⊎_elim (λ l. inr (λ h. omega (arith, ints))) (λ l. inl l) (lt_or_le c a)

pub least-cases : (x y : Bound) (c : ℤ) → IsAtMost (least x y) c → IsAtMost x c ⊎ IsAtMost y c
least-cases None y c h = inr h
least-cases (Some a) None c h = inl h
least-cases (Some a) (Some b) c h = ⊎_elim (λ l. inl (omega (arith, ints, clamps)))
    (λ l. inr (omega (arith, ints, clamps))) (le_total a b)

pub least-left : (x y : Bound) (c : ℤ) → IsAtMost x c → IsAtMost (least x y) c
least-left None y c h = absurd h
least-left (Some a) None c h = h
least-left (Some a) (Some b) c h = omega (arith, ints, clamps)

pub least-right : (x y : Bound) (c : ℤ) → IsAtMost y c → IsAtMost (least x y) c
least-right None y c h = h
least-right (Some a) None c h = absurd h
least-right (Some a) (Some b) c h = omega (arith, ints, clamps)

pub most-left : (x y : Bound) (c : ℤ) → IsAtMost (most x y) c → IsAtMost x c
most-left None y c h = absurd h
most-left (Some a) None c h = absurd h
most-left (Some a) (Some b) c h = omega (arith, ints, clamps)

pub most-right : (x y : Bound) (c : ℤ) → IsAtMost (most x y) c → IsAtMost y c
most-right None y c h = absurd h
most-right (Some a) None c h = absurd h
most-right (Some a) (Some b) c h = omega (arith, ints, clamps)

pub most-both : (x y : Bound) (c : ℤ) → IsAtMost x c → IsAtMost y c → IsAtMost (most x y) c
most-both None y c h k = absurd h
most-both (Some a) None c h k = absurd k
most-both (Some a) (Some b) c h k = omega (arith, ints, clamps)

pub plus-parts : (x y : Bound) (c : ℤ) → IsAtMost (plus x y) c
    → (a : ℤ) × (b : ℤ) × IsAtMost x a × IsAtMost y b × ((a +ℤ b) ≤ℤ c)
plus-parts None y c h = absurd h
plus-parts (Some a) None c h = absurd h
plus-parts (Some a) (Some b) c h = (a, b, le_same a, le_same b, h)

pub plus-both : (x y : Bound) (a b c : ℤ) → IsAtMost x a → IsAtMost y b → (a +ℤ b) ≤ℤ c → IsAtMost (plus x y) c
plus-both None y a b c h k l = absurd h
plus-both (Some p) None a b c h k l = absurd k
plus-both (Some p) (Some q) a b c h k l = omega (arith, ints)
