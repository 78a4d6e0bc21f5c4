-- Types are the nodes that are reached from every node, and a vector with a type is extreme.
use Rattle.std.proofs.Common.{◌≡◌, ◌≢◌, ◌⊎◌, ◌<◌, ℕ, Bool, List, length, inl, inr, ⊎_elim, sym, ap, ◌∙◌, subst, get_or}
use Rattle.std.specs.Prelude.{All}
use Rattle.trop_theory.specs.Semiring.{Semiring, SemiringLaws, Le}
use Rattle.trop_theory.specs.Vectors.{entry, dot, Below}
use Rattle.trop_theory.specs.Inequalities.{Inequality, IsTrueAt, IsIn, Solves}
use Rattle.trop_theory.specs.Extreme.{IsExtreme, IsType}
use Rattle.trop_theory.proofs.Order.{le_trans, le_antisym, times_mono, below_zero, left_factor_finite, undo_times, le-plus_left, le-plus_right, delta_moves, cancel_times}
use Rattle.trop_theory.proofs.Rows.{same_rows, entry-joined, entry-bottom}
use Rattle.trop_theory.proofs.Truth.{term_below}
use Rattle.trop_criterion.proofs.Reaching.{KeepsTangent, TangentReaches}
use Rattle.plain_lemmas.proofs.Decisions.{test, test_true, true_test, decide_true, decide_not, stable}
use Rattle.trop_criterion.proofs.Weakened.{weakened, weakened_in, weakened_out, Below-weakened, Solves-weakened, attains_within}

module _ {V : Type 0} {R : Semiring V} (laws : SemiringLaws R) where
  -- the coordinates where two vectors differ
  differs : (x y : List V) → (i : ℕ) → (entry R y i ≢ entry R x i) ⊎ ((entry R y i ≢ entry R x i) → ⊥)
  differs x y i = decide_not (laws.discrete (entry R y i) (entry R x i))

  differ : (x y : List V) → ℕ → Bool
  differ x y i = test (differs x y i)

  -- They keep each tangent hyperedge at x where y is a solution below x.
  KeepsTangent-differ : (x y : List V) (p : Inequality V) → length p.left ≡ length x → length p.right ≡ length x →
      length y ≡ length x → Below R y x → IsTrueAt R p y → KeepsTangent R x (differ x y) p
  unfolding differ
  KeepsTangent-differ x y p left right same below holds tight tail i head =
      test_true (differs x y i) (λ e. moved e (found e))
    where
      finite : dot R p.left x ≢ R.zero
      finite z = tight.finite (sym tight.equal ∙ z)

      found : entry R y i ≡ entry R x i → (j : ℕ) × (j < length y) × Le R (R.times (entry R p.left i) (entry R y i))
          (R.times (entry R p.right j) (entry R y j))
      found e = holds i (subst (λ n. i < n) (sym same) (attains_within laws p.left x i finite head))

      moved : entry R y i ≡ entry R x i → (j : ℕ) × (j < length y) × Le R (R.times (entry R p.left i) (entry R y i))
          (R.times (entry R p.right j) (entry R y j)) → ⊥
      moved e r =
          let j = r.0 in
          let up : Le R (dot R p.right x) (R.times (entry R p.right r.0) (entry R y r.0)) =
          subst (λ v. Le R v (R.times (entry R p.right r.0) (entry R y r.0)))
          (ap (R.times (entry R p.left i)) e ∙ head ∙ tight.equal) r.2 in
          let step : Le R (R.times (entry R p.right r.0) (entry R y r.0))
          (R.times (entry R p.right r.0) (entry R x r.0)) = times_mono laws (entry R p.right r.0) _ _ (below r.0) in
          let down : Le R (R.times (entry R p.right r.0) (entry R x r.0)) (dot R p.right x) =
          term_below laws p.right x right r.0 (subst (λ n. r.0 < n) same r.1) in
          let whole : R.times (entry R p.right r.0) (entry R x r.0) ≡ dot R p.right x =
          le_antisym laws _ _ down (le_trans laws _ _ _ up step) in
          let part : R.times (entry R p.right r.0) (entry R y r.0) ≡ dot R p.right x =
          le_antisym laws _ _ (le_trans laws _ _ _ step down) up in
          true_test (differs x y r.0) (tail r.0 whole)
          (cancel_times laws (entry R p.right r.0) _ _
          (left_factor_finite laws (entry R p.right r.0) (entry R x r.0) (dot R p.right x) whole tight.finite)
          (part ∙ sym whole))

  -- a node that is reached from every node is a type
  pub IsType-reached : (n : ℕ) (system : List (Inequality V)) (x : List V) (t : ℕ) → All (IsIn n) system →
      Solves R n system x → entry R x t ≢ R.zero → ((u : ℕ) → entry R x u ≢ R.zero → TangentReaches R system x u t) →
      IsType R (Solves R n system) x t
  unfolding differ
  IsType-reached n system x t inside solves finite reached = record {
    member = solves;
    finite = finite;
    least = λ y other below agrees. same_rows R y x (other.wide ∙ sym solves.wide)
        (λ i. stable (laws.discrete (entry R y i) (entry R x i)) (alike y other below agrees i));
  }
    where
      alike : (y : List V) → Solves R n system y → Below R y x → entry R y t ≡ entry R x t → (i : ℕ) →
          (entry R y i ≡ entry R x i → ⊥) → ⊥
      alike y other below agrees i f =
          true_test (differs x y t)
          (reached i (λ z. f (below_zero laws _ (subst (Le R (entry R y i)) z (below i)) ∙ sym z)) (differ x y)
          (test_true (differs x y i) f)
          (λ k d l. KeepsTangent-differ x y (get_or system k d) ((inside k d l).left ∙ sym solves.wide)
          ((inside k d l).right ∙ sym solves.wide) (other.wide ∙ sym solves.wide) below (other.holds k d l)))
          agrees

  -- a type is reached from every node
  pub reached_from_IsType : (n : ℕ) (system : List (Inequality V)) (x : List V) (t : ℕ) → All (IsIn n) system →
      IsType R (Solves R n system) x t → (u : ℕ) → entry R x u ≢ R.zero → TangentReaches R system x u t
  reached_from_IsType n system x t inside h u finite set here keeps = stable (decide_true (set t)) (λ out.
      let same = h.least (weakened R set x) (Solves-weakened laws n system set x inside h.member keeps)
      (Below-weakened laws set x) (weakened_out R set x t out) in
      delta_moves laws (entry R x u) finite (sym (weakened_in laws set x u here) ∙ ap (λ y. entry R y u) same))
