-- The loops over the edges, the points and the asserts of a report.
use Rattle.std.proofs.Common.{◌≡◌, ◌<◌, ◌≤◌, ◌+◌, ⊎_elim, ℕ, zero, suc, List, [], ◌∷◌, ◌++◌, length, map, take, get_or, refl, sym, ap, ◌∙◌, subst, arith, Contains}
use Rattle.std.specs.Prelude.{All}
use Rattle.std.specs.List.{AllZip}
use Rattle.std.proofs.lemmas.Bool.{cases_lt}
use Rattle.std.proofs.lemmas.List.{length-map, take_more, get_or-map, get_or_past, get_or_default}
use Rattle.std.proofs.lemmas.List.Elements.{Contains-get_or, All-nil}
use Rattle.trop_theory.specs.Semiring.{Semiring}
use Rattle.trop_theory.specs.Inequalities.{IsValidOn}
use Rattle.cone_reports.specs.Reports.{Report, part_at, no_part, cone_at}
use Rattle.cone_reports.specs.Inductive.{IsValidAt}
use Rattle.cone_reports.specs.Verdicts.{IsFirstWithout}
use Rattle.prog_check.specs.Firsts.{IsFirstAt}
use Rattle.prog_check.specs.Found.{IsFailureAt, FailsAt}
use Rattle.prog_check.proofs.NormalLists.{zip-push}
use Rattle.prog_check.proofs.Loops.{first_at}

each_mapped : {X Y : Type 0} (f : X → Y) (xs : List X) (P : Y → Type 0) (y : Y) → Contains (map f xs) y
    → ((j : ℕ) (d : X) → j < length xs → P (f (get_or xs j d))) → P y
each_mapped f [] P y (k, l, e) h = absurd (omega arith)
each_mapped f (x ∷ xs) P y (zero, l, e) h = subst P e (h 0 x (omega arith))
each_mapped f (x ∷ xs) P y (suc k, l, e) h =
    each_mapped f xs P y (k, omega arith, e) (λ j d m. h (suc j) d (omega arith))

module _ {X Y : Type 0} (f : X → Y) (xs : List X) (ys : List Y) (same : map f xs ≡ ys) where
  pub at_map : (k : ℕ) (d : X) (e : Y) → k < length xs → get_or ys k e ≡ f (get_or xs k d)
  at_map k d e l = ap (λ zs. get_or zs k e) (sym same) ∙ get_or-map f xs k d e l

  same_length : length ys ≡ length xs
  same_length = ap length (sym same) ∙ length-map xs f

  -- an element of the other list
  pub mapped_in : (k : ℕ) (d : X) → k < length xs → Contains ys (f (get_or xs k d))
  mapped_in k d l = subst (Contains ys) (at_map k d (f d) l)
      (Contains-get_or ys k (f d) (omega (arith, same_length, l)))

  -- the element at the place is the first that lacks the property
  pub mapped_first : (P : Y → Type 0) (k : ℕ) (d : X) → k < length xs
      → ((j : ℕ) (d : X) → j < k → P (f (get_or xs j d))) → (P (f (get_or xs k d)) → ⊥)
      → IsFirstWithout P ys k (f (get_or xs k d))
  mapped_first P k d l before fails =
      first_at P ys k (f (get_or xs k d)) (sym (at_map k d (f (get_or xs k d)) l)) (omega (arith, same_length, l))
      (λ j e m. subst P (sym (at_map j d e (omega arith))) (before j d m)) fails

  -- one more has it
  pub mapped_more : (P : Y → Type 0) (k : ℕ) (d : X) → k < length xs
      → ((j : ℕ) (d : X) → j < k → P (f (get_or xs j d))) → P (f (get_or xs k d))
      → (j : ℕ) (e : X) → j < k + 1 → P (f (get_or xs j e))
  mapped_more P k d l before here j e m = ⊎_elim
      (λ lt. before j e lt)
      (λ le.
      let at : k ≡ j = omega arith in
      subst (λ i. P (f (get_or xs i e))) at (subst (λ x. P (f x)) (get_or_default xs k d e l) here))
      (cases_lt j k)

  -- each has it
  pub mapped_all : (P : Y → Type 0) (k : ℕ) → length xs ≤ k → ((j : ℕ) (d : X) → j < k → P (f (get_or xs j d)))
      → (y : Y) → Contains ys y → P y
  mapped_all P k past before y c = each_mapped f xs P y (subst (λ l. Contains l y) (sym same) c)
      (λ j d m. before j d (omega arith))

-- ---- points
module _ {V : Type 0} (R : Semiring V) (report : Report V) where
  pub valid_more : (p : ℕ) → ((q : ℕ) → q < p → IsValidAt R report q) → IsValidAt R report p → (q : ℕ) → q < p + 1
      → IsValidAt R report q
  valid_more p before here q l = ⊎_elim
      (λ lt. before q lt)
      (λ le. let same : p ≡ q = omega arith in subst (IsValidAt R report) same here)
      (cases_lt q p)

  pub valid_all : (p : ℕ) → length report.parts ≤ p → ((q : ℕ) → q < p → IsValidAt R report q) → (q : ℕ)
      → IsValidAt R report q
  valid_all p past before q = ⊎_elim
      (λ lt. before q lt)
      (λ le. subst (λ x. All (IsValidOn R (cone_at R report q)) x.printed)
      (sym (get_or_past report.parts q no_part (omega arith))) (All-nil (IsValidOn R (cone_at R report q))))
      (cases_lt q p)

  pub failure_number : (p k : ℕ) → IsFirstAt (IsValidOn R (cone_at R report p)) (part_at report p).printed k
      → IsFailureAt R report p (k + 1)
  failure_number p k h = record { place = k; number = refl; inequality = h.0; first = h.1 }

  pub fails_at : (p i : ℕ) → ((q : ℕ) → q < p → IsValidAt R report q) → IsFailureAt R report p i → FailsAt R report p i
  fails_at p i before h = record { before = before; here = h }

-- ---- pairs of two lists
pub zip_more : {X Y : Type 0} (Q : X → Y → Type 0) (xs : List X) (ys : List Y) (k : ℕ) (x : X) (y : Y)
    → k < length xs → k < length ys → get_or xs k x ≡ x → get_or ys k y ≡ y → AllZip Q (take k xs) (take k ys) → Q x y
    → AllZip Q (take (k + 1) xs) (take (k + 1) ys)
zip_more Q xs ys k x y l m e f h q =
    subst (λ as'. AllZip Q as' (take (k + 1) ys)) (sym (take_more xs k x l ∙ ap (λ v. take k xs ++ v ∷ []) e))
    (subst (λ bs. AllZip Q (take k xs ++ x ∷ []) bs) (sym (take_more ys k y m ∙ ap (λ v. take k ys ++ v ∷ []) f))
    (zip-push Q (take k xs) (take k ys) x y h q))
