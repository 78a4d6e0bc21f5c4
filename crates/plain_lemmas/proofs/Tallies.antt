-- How often a number below n has something, as a sum of zeros and ones.
use Rattle.std.proofs.Common.{◌≡◌, ◌⊎◌, ◌<◌, ◌≤◌, ◌+◌, ℕ, zero, suc, Bool, true, false, cond, inl, inr, ⊎_elim, refl, ap, arith, subst}
use Rattle.std.specs.Prelude.{IsTrue}
use Rattle.std.proofs.lemmas.Bool.{cases_lt, cases_eq}
use Rattle.plain_lemmas.proofs.Decisions.{test, test_true, true_test, decide_true, decide_either}

abbrev pub tally : (ℕ → ℕ) → ℕ → ℕ
tally f zero = 0
tally f (suc n) = tally f n + f n

pub tally_below : (f g : ℕ → ℕ) (n : ℕ) → ((i : ℕ) → i < n → f i ≤ g i) → tally f n ≤ tally g n
tally_below f g zero h = omega arith
tally_below f g (suc n) h = omega (arith, tally_below f g n (λ i l. h i (omega arith)), h n (omega arith))

pub tally_less : (f g : ℕ → ℕ) (n i : ℕ) → ((j : ℕ) → j < n → f j ≤ g j) → i < n → f i + 1 ≤ g i →
    tally f n + 1 ≤ tally g n
tally_less f g zero i h l e = absurd (omega arith)
tally_less f g (suc n) i h l e =
    ⊎_elim
    (λ k. omega (arith, tally_less f g n i (λ j m. h j (omega arith)) k e, h n (omega arith)))
    (λ k. let s : f n + 1 ≤ g n = subst (λ j. f j + 1 ≤ g j) (omega arith) e in
    omega (arith, tally_below f g n (λ j m. h j (omega arith)), s))
    (cases_lt i n)

pub tally_one : (n : ℕ) → tally (λ i. 1) n ≡ n
tally_one zero = refl
tally_one (suc n) = omega (arith, tally_one n)

pub tally_zero : (n : ℕ) → tally (λ i. 0) n ≡ 0
tally_zero zero = refl
tally_zero (suc n) = omega (arith, tally_zero n)

-- no more than n where nothing is counted from n on
pub tally_within : (f : ℕ → ℕ) (k n : ℕ) → ((i : ℕ) → f i ≤ 1) → ((i : ℕ) → n ≤ i → f i ≡ 0) → tally f k ≤ n
tally_within f zero n h none = omega arith
tally_within f (suc k) n h none =
    ⊎_elim
    (λ l. omega (arith, tally_below f (λ i. 1) (suc k) (λ i m. h i), tally_one (suc k)))
    (λ l. omega (arith, none k l, tally_within f k n h none))
    (cases_lt k n)

-- the first place apart from the others
pub tally_first : (f : ℕ → ℕ) (n : ℕ) → tally f (suc n) ≡ f 0 + tally (λ i. f (suc i)) n
tally_first f zero = omega arith
tally_first f (suc n) = omega (arith, tally_first f n)

-- one where the number is in the set
abbrev pub mark : (ℕ → Bool) → ℕ → ℕ
mark set i = cond (set i) 1 0

pub mark_in : (set : ℕ → Bool) (i : ℕ) → IsTrue (set i) → mark set i ≡ 1
mark_in set i h = ap (λ b. cond b 1 0) h

pub mark-le : (set : ℕ → Bool) (i : ℕ) → mark set i ≤ 1
mark-le set i = elim (set i) as (λ b. cond b 1 0 ≤ 1) [ true ↦ omega arith | false ↦ omega arith ]

pub mark_out : (set : ℕ → Bool) (i : ℕ) → (IsTrue (set i) → ⊥) → mark set i ≡ 0
mark_out set i h = none (set i) h
  where
    none : (b : Bool) → (IsTrue b → ⊥) → ◌≡◌ {A = ℕ} (cond b 1 0) 0
    none true f = absurd (f refl)
    none false f = refl

-- how many numbers below n are in the set
abbrev pub count : (ℕ → Bool) → ℕ → ℕ
count set n = tally (mark set) n

pub count-le : (set : ℕ → Bool) (n : ℕ) → count set n ≤ n
count-le set n = omega (arith, tally_below (mark set) (λ i. 1) n (λ i l. mark-le set i), tally_one n)

pub count_some : (set : ℕ → Bool) (n i : ℕ) → i < n → IsTrue (set i) → 1 ≤ count set n
count_some set n i l h = omega (
  arith,
  tally_less (λ i. 0) (mark set) n i (λ j m. omega arith) l
      (omega (arith, mark_in set i h)),
  tally_zero n,
)

pub count_missing : (set : ℕ → Bool) (n i : ℕ) → i < n → (IsTrue (set i) → ⊥) → count set n + 1 ≤ n
count_missing set n i l h = omega (
  arith,
  tally_less (mark set) (λ i. 1) n i (λ j m. mark-le set j) l
      (omega (arith, mark_out set i h)),
  tally_one n,
)

-- the set with one more number
abbrev pub added : (ℕ → Bool) → ℕ → ℕ → Bool
added set i j = test (decide_either (decide_true (set j)) (cases_eq j i))

pub added_old : (set : ℕ → Bool) (i j : ℕ) → IsTrue (set j) → IsTrue (added set i j)
added_old set i j h = test_true (decide_either (decide_true (set j)) (cases_eq j i)) (inl h)

pub added_new : (set : ℕ → Bool) (i : ℕ) → IsTrue (added set i i)
added_new set i = test_true (decide_either (decide_true (set i)) (cases_eq i i)) (inr refl)

pub added_cases : (set : ℕ → Bool) (i j : ℕ) → IsTrue (added set i j) → IsTrue (set j) ⊎ (j ≡ i)
added_cases set i j = true_test (decide_either (decide_true (set j)) (cases_eq j i))

pub count_added : (set : ℕ → Bool) (n i : ℕ) → i < n → (IsTrue (set i) → ⊥) → count set n + 1 ≤ count (added set i) n
count_added set n i l out =
    tally_less (mark set) (mark (added set i)) n i
    (λ j m. ⊎_elim
    (λ h. omega (arith, mark-le set j, mark_in (added set i) j (added_old set i j h)))
    (λ h. omega (arith, mark_out set j h))
    (decide_true (set j)))
    l (omega (arith, mark_out set i out, mark_in (added set i) i (added_new set i)))
