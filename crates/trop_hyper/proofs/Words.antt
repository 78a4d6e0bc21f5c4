-- How many members a set has that is kept as a word.
use Rattle.std.proofs.Common.{◌≡◌, ◌⊎◌, ◌<◌, ◌≤◌, ◌+◌, ◌/◌, ◌%◌, ◌^◌, ℕ, zero, suc, Bool, List, ⊎_elim, refl, sym, ap, ◌∙◌, arith, subst}
use Rattle.std.specs.Prelude.{◌↔◌, count_ones}
use Rattle.std.specs.Int.{bit_at}
use Rattle.std.specs.Int.Count.{ones_step}
use Rattle.std.proofs.Math.Nat.{pow-suc, div-lt_iff_lt-mul}
use Rattle.std.proofs.lemmas.Bool.{cases_lt}
use Rattle.std.proofs.lemmas.Nat.{ones_le_self}
use Rattle.std.proofs.lemmas.Nat.Bits.{bit_at-lt, bit_at-suc, bit_at_lowest, bit_at_above}
use Rattle.trop_criterion.specs.Hypergraphs.{Has, IsSubset}
use Rattle.plain_lemmas.proofs.Decisions.{decide_not, decide_both, stable, some_below}
use Rattle.plain_lemmas.proofs.Tallies.{tally, tally_below, tally_less, tally_first, tally_one, tally_zero, tally_within}
use Rattle.trop_criterion.proofs.Hypergraphs.{decide_has}

same_tally : (f g : ℕ → ℕ) (n : ℕ) → ((i : ℕ) → f i ≡ g i) → tally f n ≡ tally g n
same_tally f g zero h = refl
same_tally f g (suc n) h = omega (arith, same_tally f g n h, h n)

half_below : (k set : ℕ) → set < 2 ^ suc k → set / 2 < 2 ^ k
half_below k set l = (div-lt_iff_lt-mul {k = 2} {x = set} {y = 2 ^ k} (omega arith)).1
    (subst (λ v. set < v) (pow-suc 2 k) l)

ones_tally : (k set : ℕ) → set < 2 ^ k → count_ones set ≡ tally (bit_at set) k
ones_tally zero set l = let e : set ≡ 0 = omega arith in ap count_ones e ∙ omega (arith, ones_le_self 0)
ones_tally (suc k) set l =
    ones_step set
    ∙ ap (λ c. set % 2 + c) (ones_tally k (set / 2) (half_below k set l) ∙
    same_tally (bit_at (set / 2)) (λ i. bit_at set (suc i)) k (λ i. sym (bit_at-suc set i)))
    ∙ ap (λ b. b + tally (λ i. bit_at set (suc i)) k) (sym (bit_at_lowest set))
    ∙ sym (tally_first (bit_at set) k)

bit_below : (a b i : ℕ) → (Has a i → Has b i) → bit_at a i ≤ bit_at b i
bit_below a b i h = ⊎_elim (λ l. omega arith) (λ l. omega (arith, h (omega (arith, bit_at-lt a i))))
    (cases_lt (bit_at a i) 1)

-- a number is below the power of any number that is as large
below_power : (n k : ℕ) → n ≤ k → n < 2 ^ k
below_power n k l = omega (arith, lt_pow k)
  where
    lt_pow : (m : ℕ) → m < 2 ^ m
    lt_pow zero = omega arith
    lt_pow (suc m) = omega (arith, lt_pow m, pow-suc 2 m)

-- a member of a set of numbers below k is below k
pub has_within : (k set i : ℕ) → set < 2 ^ k → Has set i → i < k
has_within k set i p here = ⊎_elim (λ l. l) (λ l. absurd (omega (arith, here, bit_at_above set k i p l))) (cases_lt i k)

-- and a member of any set is below its word
has_word : (set i : ℕ) → Has set i → i < set
has_word set i = has_within set set i (below_power set set (omega arith))

ones_word : (set k : ℕ) → set ≤ k → count_ones set ≡ tally (bit_at set) k
ones_word set k l = ones_tally k set (below_power set k l)

-- a subset has no more members
pub ones-below : (a b : ℕ) → ((i : ℕ) → Has a i → Has b i) → count_ones a ≤ count_ones b
ones-below a b h = omega (
  arith,
  ones_word a (a + b) (omega arith),
  ones_word b (a + b) (omega arith),
  tally_below (bit_at a) (bit_at b) (a + b) (λ i l. bit_below a b i (h i)),
)

-- and fewer where it lacks one
pub ones-less : (a b i : ℕ) → ((j : ℕ) → Has a j → Has b j) → Has b i → (Has a i → ⊥) →
    count_ones a + 1 ≤ count_ones b
ones-less a b i h here out =
    let l : i < a + b = omega (arith, has_word b i here) in
    let none : bit_at a i ≡ 0 =
    ⊎_elim (λ l. omega arith) (λ l. absurd (out (omega (arith, bit_at-lt a i)))) (cases_lt (bit_at a i) 1) in
    omega (
      arith,
      ones_word a (a + b) (omega arith),
      ones_word b (a + b) (omega arith),
      tally_less (bit_at a) (bit_at b) (a + b) i (λ j m. bit_below a b j (h j)) l (omega (arith, here)),
    )

-- at most n where each is below n
pub ones-within : (a n : ℕ) → ((i : ℕ) → Has a i → i < n) → count_ones a ≤ n
ones-within a n h = omega (
  arith,
  ones_word a a (omega arith),
  tally_within (bit_at a) a n (λ i. omega (arith, bit_at-lt a i))
      (λ i l. ⊎_elim (λ z. omega arith) (λ o. absurd (omega (arith, h i (omega (arith, bit_at-lt a i)))))
      (cases_lt (bit_at a i) 1)),
)

-- at least one where there is one
pub ones_some : (a i : ℕ) → Has a i → 1 ≤ count_ones a
ones_some a i here = omega (
  arith,
  ones_word a a (omega arith),
  tally_less (λ j. 0) (bit_at a) a i (λ j m. omega arith) (has_word a i here) (omega (arith, here)),
  tally_zero a,
)

-- a set that is not empty has a member
pub some_member : (set : ℕ) → (((i : ℕ) → Has set i → ⊥) → ⊥) → (i : ℕ) × Has set i
some_member set f = ⊎_elim (λ s. (s.0, s.2)) (λ none. absurd (f (λ i h. none i (has_word set i h) h)))
    (some_below (Has set) (decide_has set) set)

-- a set that is no subset has a member that the other lacks
pub some_more : (a b : ℕ) → (IsSubset a b → ⊥) → (i : ℕ) × Has a i × (Has b i → ⊥)
some_more a b f =
    ⊎_elim
    (λ s. (s.0, s.2.0, s.2.1))
    (λ none. absurd (f (λ i h. stable (decide_has b i) (λ g. none i (has_word a i h) (h, g)))))
    (some_below (λ i. Has a i × (Has b i → ⊥)) (λ i. decide_both (decide_has a i) (decide_not (decide_has b i))) a)

-- so a set grows by at least one member where it grows
pub ones-grow : (a b : ℕ) → IsSubset a b → (IsSubset b a → ⊥) → count_ones a + 1 ≤ count_ones b
ones-grow a b h f = let s = some_more b a f in ones-less a b s.0 h s.1 s.2

-- two sets that are not disjoint have a common member
pub some_common : (a b both : ℕ) → ((i : ℕ) → Has both i ↔ (Has a i × Has b i)) →
    (((i : ℕ) → Has both i → ⊥) → ⊥) → (i : ℕ) × Has a i × Has b i
some_common a b both members f = let s = some_member both f in let m = (members s.0).0 s.1 in (s.0, m.0, m.1)
