-- How many times the heads have changed.
use Rattle.std.proofs.Common.{◌≡◌, inl, inr, ◌+◌, ◌*◌, ◌<◌, ◌≤◌, ◌∙◌, ℕ, suc, List, [], ◌∷◌, length, sum, refl, sym, ap, Bool, true, false, MatchBool, get_or, set, if◌then◌else◌, ◌||◌, ◌==◌, suc-mul, replicate, arith}
use Rattle.std.proofs.lemmas.List.{set-get_or, get_or-set_same, get_or-set_other, length-set}
use Rattle.std.proofs.lemmas.List.Sums.{sum_by-set, sum_by-cons}
use Rattle.std.proofs.lemmas.Bool.{cases_lt, ne_eqb}
use Rattle.std.proofs.lemmas.Bool.Decides.{eqb_tells}
use Rattle.std.specs.List.{list_any}
use Rattle.prog_theory.specs.ControlGraphs.{ControlGraph}
use Rattle.dom_theory.specs.Relations.{Relations}
use Rattle.dom_theory.specs.Passes.{Stage}
use Rattle.dom_iter.specs.Fair.{IsFair, most_changes}
use Rattle.dom_theory.specs.Analysis.{at_first}
use Rattle.dom_iter.specs.Steps.{stage}
use Rattle.dom_theory.specs.Laws.{DomainLaws}
use Rattle.std.proofs.lemmas.List.{get_or-replicate, length-replicate}

-- what a point adds to the sum of the changes
sum-set : (xs : List ℕ) (q c : ℕ) → q < length xs → sum (set xs q c) + get_or xs q 0 ≡ sum xs + c
sum-set xs q c h = sum_by-set (λ x. x) xs q c 0 h

pub counts_more : (changed moved : Bool) (first xs : List ℕ) (q c : ℕ) → q < length xs
    → c ≡ (if moved then get_or xs q 0 + 1 else get_or xs q 0) →
    MatchBool changed (sum first < sum xs) (xs ≡ first) → MatchBool (changed || moved) (sum first < sum (set xs q c))
    (set xs q c ≡ first)
counts_more true true first xs q c h is m = let e = sum-set xs q c h in omega arith
counts_more true false first xs q c h is m = let e = sum-set xs q c h in omega arith
counts_more false true first xs q c h is m = let e = sum-set xs q c h in let s : sum xs ≡ sum first = ap sum m in omega
    arith
counts_more false false first xs q c h is m = rw is (set-get_or xs q 0 ∙ m)

sum-zero : (xs : List ℕ) → ((i : ℕ) → i < length xs → get_or xs i 0 ≡ 0) → sum xs ≡ 0
sum-zero [] each = refl
sum-zero (x ∷ xs) each =
    let a : x ≡ 0 = each 0 (omega arith) in
    let b : sum xs ≡ 0 = sum-zero xs (λ i h. each (suc i) (omega arith)) in
    let e = sum_by-cons (λ (y : ℕ). y) x xs in
    let f : sum (x ∷ xs) ≡ x + sum xs = e in omega arith

-- Numbers up to b that stand at the listed places alone have a sum up to b for each place.
pub sum_bound : (heads xs : List ℕ) (b : ℕ) → ((i : ℕ) → i < length xs → get_or xs i 0 ≤ b)
    → ((i : ℕ) → i < length xs → list_any (λ h. h == i) heads ≡ false → get_or xs i 0 ≡ 0) →
    sum xs ≤ length heads * b
sum_bound [] xs b most zeros = let e = sum-zero xs (λ i h. zeros i h refl) in omega arith
sum_bound (h ∷ heads) xs b most zeros = elim (cases_lt h (length xs)) [
  | inl inside ↦
      let ys : List ℕ = set xs h 0 in
      let same : length ys ≡ length xs = length-set xs h 0 in
      let most' : (i : ℕ) → i < length ys → get_or ys i 0 ≤ b = λ i l. elim (eqb_tells i h) [
        | inl w ↦ let e : get_or ys i 0 ≡ 0 = rw w.1 (get_or-set_same xs h 0 0 inside) in omega arith
        | inr w ↦ let e : get_or ys i 0 ≡ get_or xs i 0 = get_or-set_other xs h i 0 0 w.1 in let m = most i
            (omega arith) in omega arith
      ] in
      let zeros' : (i : ℕ) → i < length ys → list_any (λ x. x == i) heads ≡ false
      → get_or ys i 0 ≡ 0 = λ i l no. elim (eqb_tells i h) [
        | inl w ↦ rw w.1 (get_or-set_same xs h 0 0 inside)
        | inr w ↦ get_or-set_other xs h i 0 0 w.1 ∙ zeros i (omega arith) (rw (ne_eqb h i (λ e. w.1 (sym e))) no)
      ] in
      let rest = sum_bound heads ys b most' zeros' in
      let e = sum-set xs h 0 inside in
      let m = most h inside in
      let p : length (h ∷ heads) * b ≡ length heads * b + b = rw (suc-mul) refl in
      omega arith
  | inr past ↦
      let rest = sum_bound heads xs b most
      (λ i l no. zeros i l (rw (ne_eqb h i (λ e. let x : i < h = omega arith in omega arith)) no)) in
      let p : length (h ∷ heads) * b ≡ length heads * b + b = rw (suc-mul) refl in
      omega arith
]

pub changes_bound : {V : Type 0} (D : Relations V) (G : ControlGraph) (delay : ℕ) (S : Stage V) → IsFair D G delay S
    → sum S.changes ≤ length G.heads * most_changes D G delay
changes_bound D G delay S fair = sum_bound G.heads S.changes (most_changes D G delay)
    (λ i h. let f = (fair.each i (let e = fair.counts in omega arith)).bound in omega arith)
    (λ i h no. (fair.each i (let e = fair.counts in omega arith)).others no)

-- the first stage
pub at_first-fair : {V : Type 0} (D : Relations V) (G : ControlGraph) (delay : ℕ) → {most : ℕ} → DomainLaws D most
    → IsFair D G delay (at_first D G)
at_first-fair {V} D G delay laws = record {
  values = length-replicate (length G.points) (D.bottom G.vars);
  counts = length-replicate (length G.points) 0;
  each = λ q h.
      let v : D.vars (D.bottom G.vars) ≡ G.vars = laws.vars.bottom G.vars in
      let w : D.width (D.bottom G.vars) ≤ D.max_width G.vars = rw v at (laws.widths.bounded (D.bottom G.vars)) in
      rw (
        get_or-replicate {A = V} (length G.points) q (D.bottom G.vars) (D.bottom G.vars) h,
        get_or-replicate {A = ℕ}
            (length G.points) q 0 0 h,
      )
      (record { vars = v; bound = omega arith; bottom = λ _. refl; others = λ _. refl });
}

pub at_first-is : {V : Type 0} (D : Relations V) (G : ControlGraph) (values : List V) (changes : List ℕ) (n : ℕ)
    → values ≡ replicate (length G.points) (D.bottom G.vars) → changes ≡ replicate n 0 → n ≡ length G.points →
    stage values changes ≡ at_first D G
at_first-is D G values changes n v c same = rw (v, c, same) refl
