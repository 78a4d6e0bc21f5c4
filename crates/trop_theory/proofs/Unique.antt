-- A cone has one canonical list.
use Rattle.std.proofs.Common.{◌≡◌, suc, List, [], ◌∷◌, ⊎_elim, sym, ◌∙◌, refl, arith, subst}
use Rattle.std.specs.Prelude.{All, AllPairs, Contains, ◌↔◌}
use Rattle.std.proofs.lemmas.List.Elements.{All-contains}
use Rattle.trop_theory.specs.Semiring.{Semiring, SemiringLaws}
use Rattle.trop_theory.specs.Normal.{IsNormal}
use Rattle.trop_theory.specs.Extreme.{IsExtreme}
use Rattle.trop_theory.specs.Canonical.{RowBelow, IsCanonical}
use Rattle.trop_theory.proofs.Order.{le_antisym}
use Rattle.std.proofs.Common.{ap₂}
use Rattle.trop_theory.proofs.Canonical.{IsExtreme-same}
use Rattle.trop_theory.proofs.Distinct.{row_below_itself}
use Rattle.plain_lemmas.proofs.Lists.{Contains-cons_cases, Contains-none}

module _ {V : Type 0} {R : Semiring V} (laws : SemiringLaws R) where
  row_below_both : (x y : List V) → RowBelow R x y → RowBelow R y x → ⊥
  row_below_both [] [] h k = h
  row_below_both [] (b ∷ y) h k = k
  row_below_both (a ∷ x) [] h k = h
  row_below_both (a ∷ x) (b ∷ y) h k = ⊎_elim
      (λ p. ⊎_elim (λ q. p.1 (le_antisym laws a b p.0 q.0)) (λ q. p.1 (sym q.0)) k)
      (λ p. ⊎_elim (λ q. q.1 (sym p.0)) (λ q. row_below_both x y p.1 q.1) k)
      h

  -- an element behind the head stands above it
  above_head : (a x : List V) (xs : List (List V)) → AllPairs (RowBelow R) (a ∷ xs) → Contains xs x → RowBelow R a x
  above_head a x xs h c = subst (RowBelow R a) c.2 (h 0 (suc c.0) x (omega arith) (omega (arith, c.1)))

  rest_ascending : (a : List V) (xs : List (List V)) → AllPairs (RowBelow R) (a ∷ xs) → AllPairs (RowBelow R) xs
  rest_ascending a xs h i j d lt l = h (suc i) (suc j) d (omega arith) (omega arith)

  same_head : (a b : List V) (xs ys : List (List V)) → AllPairs (RowBelow R) (a ∷ xs) → AllPairs (RowBelow R) (b ∷ ys) →
      Contains (b ∷ ys) a → Contains (a ∷ xs) b → a ≡ b
  same_head a b xs ys ax by ca cb = ⊎_elim
      (λ e. sym e)
      (λ p. ⊎_elim (λ e. e) (λ q. absurd (row_below_both a b (above_head a b xs ax q) (above_head b a ys by p)))
      (Contains-cons_cases a xs b cb))
      (Contains-cons_cases b ys a ca)

  -- an element behind the head of one list stands behind the same head of the other
  behind : (a b x : List V) (xs ys : List (List V)) → AllPairs (RowBelow R) (a ∷ xs) → a ≡ b → Contains xs x →
      Contains (b ∷ ys) x → Contains ys x
  behind a b x xs ys ax e c h = ⊎_elim
      (λ s. absurd (row_below_itself R x (subst (λ v. RowBelow R v x) (e ∙ s) (above_head a x xs ax c))))
      (λ t. t)
      (Contains-cons_cases b ys x h)

  -- ascending lists with the same elements
  pub same_ascending : (xs ys : List (List V)) → AllPairs (RowBelow R) xs → AllPairs (RowBelow R) ys →
      ((x : List V) → Contains xs x → Contains ys x) → ((x : List V) → Contains ys x → Contains xs x) → xs ≡ ys
  same_ascending [] [] ax ay there back = refl
  same_ascending [] (b ∷ ys) ax ay there back = absurd (Contains-none b (back b (0, omega arith, refl)))
  same_ascending (a ∷ xs) [] ax ay there back = absurd (Contains-none a (there a (0, omega arith, refl)))
  same_ascending (a ∷ xs) (b ∷ ys) ax ay there back =
      let e = same_head a b xs ys ax ay (there a (0, omega arith, refl)) (back b (0, omega arith, refl)) in
      ap₂ (λ h t. h ∷ t) e (same_ascending xs ys (rest_ascending a xs ax) (rest_ascending b ys ay)
      (λ x c. behind a b x xs ys ax e c (there x (suc c.0, omega (arith, c.1), c.2)))
      (λ x c. behind b a x ys xs ay (sym e) c (back x (suc c.0, omega (arith, c.1), c.2))))

  -- lists that are canonical for the same vectors
  pub IsCanonical-unique : (cone other : List V → Type 0) (xs ys : List (List V)) → ((x : List V) → cone x ↔ other x) →
      IsCanonical R cone xs → IsCanonical R other ys → xs ≡ ys
  IsCanonical-unique cone other xs ys same hx hy = same_ascending xs ys hx.ascending hy.ascending
      (λ x c. hy.complete x (at xs x hx.normal c) (IsExtreme-same cone other same x (member cone xs x hx c)))
      (λ x c. hx.complete x (at ys x hy.normal c) (IsExtreme-same other cone (λ v. ((same v).1, (same v).0)) x
      (member other ys x hy c)))
    where
      at : (rows : List (List V)) (x : List V) → All (IsNormal R) rows → Contains rows x → IsNormal R x
      at rows x h c = All-contains (IsNormal R) rows x h c

      member : (cone : List V → Type 0) (rows : List (List V)) (x : List V) → IsCanonical R cone rows →
          Contains rows x → IsExtreme R cone x
      member cone rows x h c = All-contains (IsExtreme R cone) rows x h.extreme c
