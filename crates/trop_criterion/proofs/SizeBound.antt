-- The entries of an extreme solution are close to each other: where the coefficients of the system have size at most
-- m, two finite entries in n coordinates differ by at most 4 m (n - 1).
use Rattle.std.proofs.Common.{◌≡◌, ◌≢◌, ◌<◌, ◌≤◌, ◌+◌, ◌*◌, ◌-◌, add-mul, ℕ, zero, suc, List, [], ◌∷◌, length, ⊎_elim, sym, ap, ◌∙◌, arith, subst, get_or}
use Rattle.std.specs.Prelude.{All}
use Rattle.std.proofs.Math.Nat.{mul-suc}
use Rattle.std.proofs.lemmas.List.{get_or_past}
use Rattle.std.proofs.lemmas.Bool.{cases_lt}
use Rattle.trop_theory.specs.Semiring.{Semiring, SemiringLaws}
use Rattle.trop_theory.specs.Vectors.{entry, row_size}
use Rattle.trop_theory.specs.Normal.{IsNormal}
use Rattle.trop_theory.specs.Inequalities.{Inequality, IsIn, Solves, system_size}
use Rattle.trop_theory.specs.Extreme.{IsExtreme}
use Rattle.trop_theory.proofs.Order.{undo_times, redo_times, times_one}
use Rattle.trop_criterion.proofs.Reaching.{IsReachedFromAll}
use Rattle.trop_criterion.proofs.Closures.{distance, distance_over, quotient_over}
use Rattle.trop_criterion.proofs.Criterion.{All-system_size, closure_at, reached_from_extreme}
use Rattle.trop_criterion.specs.SizeBound.{HaveSpread}
use Rattle.trop_theory.specs.Canonical.{IsCanonical}

-- two stretches of m for each of n - 1 steps
two_ways : (d e m n : ℕ) → 1 ≤ n → d + 2 * m ≤ 2 * m * n → e + 2 * m ≤ 2 * m * n → d + e ≤ 4 * m * (n - 1)
two_ways d e m zero l p q = absurd (omega arith)
two_ways d e m (suc k) l p q =
    let four : 4 * m ≡ 2 * m + 2 * m = omega arith in
    let less : suc k - 1 ≡ k = omega arith in
    omega (
      arith,
      mul-suc (2 * m) k,
      ap (λ f. f * (suc k - 1)) four,
      add-mul (2 * m) (2 * m) (suc k - 1),
      ap (λ w. 2 * m * w) less,
    )

module _ {V : Type 0} {R : Semiring V} (laws : SemiringLaws R) where
  quotient_finite : (a b : V) → a ≢ R.zero → b ≢ R.zero → R.times a (R.inverse b) ≢ R.zero
  quotient_finite a b f g z = f (sym (redo_times laws b a g) ∙ ap (λ e. R.times e b) z ∙ laws.zero_absorbs b)

  -- a distance is the same both ways
  distance_back : (a b : V) → a ≢ R.zero → b ≢ R.zero → distance laws a b ≡ distance laws b a
  distance_back a b f g =
      let product : R.times (R.times a (R.inverse b)) (R.times b (R.inverse a)) ≡ R.one =
      quotient_over laws a b a g ∙ laws.invertible a f in
      ap R.size (undo_times laws (R.times b (R.inverse a)) (R.times a (R.inverse b)) R.one
      (quotient_finite b a g f) product ∙ laws.one_neutral _) ∙ laws.size_inverse _ (quotient_finite b a g f)

  distance_one : (a : V) → distance laws a R.one ≡ R.size a
  distance_one a = ap R.size (ap (R.times a) (sym (laws.one_neutral (R.inverse R.one))
      ∙ laws.invertible R.one laws.one_finite) ∙ times_one laws a)

  module _ (n m : ℕ) (system : List (Inequality V)) (x : List V) (inside : All (IsIn n) system)
      (bounded : system_size R system ≤ m) (extreme : IsExtreme R (Solves R n system) x) where
    near : (t : ℕ) → IsReachedFromAll R system x t → (i : ℕ) → entry R x i ≢ R.zero →
        distance laws (entry R x i) (entry R x t) + 2 * m ≤ 2 * m * n
    near t g i f =
        let wide : length x ≡ n = extreme.member.wide in
        let c = closure_at laws n system x inside m (All-system_size R system m bounded) wide i f in
        c.near t (g.reached i f c.set c.start c.closed)

    -- two finite entries of an extreme solution
    pub extreme_entries_near : (i j : ℕ) → entry R x i ≢ R.zero → entry R x j ≢ R.zero →
        R.size (R.times (entry R x i) (R.inverse (entry R x j))) ≤ 4 * m * (n - 1)
    extreme_entries_near i j f g =
        let r = reached_from_extreme laws n system x inside extreme in
        let l : i < length x = ⊎_elim (λ l. l) (λ l. absurd (f (get_or_past x i R.zero l))) (cases_lt i (length x)) in
        let wide : length x ≡ n = extreme.member.wide in
        omega (
          arith,
          distance_over laws (entry R x i) (entry R x r.0) (entry R x j) r.1.finite,
          distance_back (entry R x r.0) (entry R x j) r.1.finite g,
          two_ways (distance laws (entry R x i) (entry R x r.0)) (distance laws (entry R x j) (entry R x r.0)) m n
              (omega arith) (near r.0 r.1 i f) (near r.0 r.1 j g),
        )

    row_size-each : (y : List V) (b : ℕ) → ((i : ℕ) → i < length y → R.size (entry R y i) ≤ b) → row_size R y ≤ b
    row_size-each [] b h = omega arith
    row_size-each (a ∷ y) b h = omega (arith, h 0 (omega arith), row_size-each y b (λ i l. h (suc i) (omega arith)))

    -- an extreme solution in normal form
    pub extreme_row_small : IsNormal R x → row_size R x ≤ 4 * m * (n - 1)
    extreme_row_small normal = row_size-each x (4 * m * (n - 1)) (λ i l. ⊎_elim
        (λ z. omega (arith, ap R.size z, laws.size_zero))
        (λ f. subst (λ s. s ≤ 4 * m * (n - 1)) (ap (λ a. distance laws (entry R x i) a) normal.is_one
        ∙ distance_one (entry R x i)) (extreme_entries_near i normal.first f
        (λ z. laws.one_finite (sym normal.is_one ∙ z))))
        (laws.discrete (entry R x i) R.zero))

  -- the rows of the canonical list of the solutions
  pub HaveSpread-canonical : (n m : ℕ) (system : List (Inequality V)) (rows : List (List V)) → All (IsIn n) system →
      system_size R system ≤ m → IsCanonical R (Solves R n system) rows → HaveSpread R (4 * m * (n - 1)) rows
  HaveSpread-canonical n m system rows inside bounded canonical k d l =
      extreme_entries_near n m system (get_or rows k d) inside bounded (canonical.extreme k d l)
