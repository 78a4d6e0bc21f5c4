-- The first element of a list without a property is one, and pairs before a place of two lists.
use Rattle.std.proofs.Common.{◌≡◌, ⊎_elim, ◌<◌, ℕ, zero, suc, List, [], ◌∷◌, take, Option, Some, None, sym, ◌∙◌, subst, subst₂, arith, Contains}
use Rattle.std.specs.Prelude.{slice_get}
use Rattle.std.specs.List.{AllZip}
use Rattle.std.proofs.lemmas.Bool.{cases_lt}
use Rattle.std.proofs.lemmas.List.Elements.{All-contains}
use Rattle.prog_theory.proofs.Elements.{Contains-here, Contains-there}
use Rattle.cone_reports.specs.Verdicts.{IsFirstWithout}

taken : {X : Type 0} (xs : List X) (j k : ℕ) (y : X) → slice_get xs j ≡ Some y → j < k → Contains (take k xs) y
taken {X} [] j k y e l = absurd (let f : ◌≡◌ {A = Option X} None (Some y) = e in cc)
taken (x ∷ xs) j zero y e l = absurd (omega arith)
taken (x ∷ xs) zero (suc k) y e l = let f : x ≡ y = cc in
    subst (Contains (x ∷ take k xs)) f (Contains-here x (take k xs))
taken (x ∷ xs) (suc j) (suc k) y e l = Contains-there x (take k xs) y (taken xs j k y e (omega arith))

pub first_unique : {X : Type 0} (P : X → Type 0) (xs : List X) (k j : ℕ) (x y : X) → IsFirstWithout P xs k x
    → IsFirstWithout P xs j y → (k ≡ j) × (x ≡ y)
first_unique P xs k j x y h g = ⊎_elim
    (λ l. absurd (h.lacks (All-contains P (take j xs) x g.before (taken xs k j x h.at l))))
    (λ l. ⊎_elim
    (λ m. absurd (g.lacks (All-contains P (take k xs) y h.before (taken xs j k y g.at m))))
    (λ m. let same : k ≡ j = omega arith in let at = subst (λ i. slice_get xs i ≡ Some x) same h.at in let a = g.at in
    (same, let e : Some x ≡ Some y = sym at ∙ a in cc))
    (cases_lt j k))
    (cases_lt k j)

pub zip_taken : {X Y : Type 0} (Q : X → Y → Type 0) (xs : List X) (ys : List Y) (j k : ℕ) (x : X) (y : Y)
    → AllZip Q (take k xs) (take k ys) → slice_get xs j ≡ Some x → slice_get ys j ≡ Some y → j < k → Q x y
zip_taken {X} Q [] ys j k x y z e f l = absurd (let g : ◌≡◌ {A = Option X} None (Some x) = e in cc)
zip_taken {Y = Y} Q (a ∷ xs) [] j k x y z e f l = absurd (let g : ◌≡◌ {A = Option Y} None (Some y) = f in cc)
zip_taken Q (a ∷ xs) (b ∷ ys) j zero x y z e f l = absurd (omega arith)
zip_taken Q (a ∷ xs) (b ∷ ys) zero (suc k) x y z e f l = let p : a ≡ x = cc in let q : b ≡ y = cc in subst₂ Q p q z.0
zip_taken Q (a ∷ xs) (b ∷ ys) (suc j) (suc k) x y z e f l = zip_taken Q xs ys j k x y z.1 e f (omega arith)
