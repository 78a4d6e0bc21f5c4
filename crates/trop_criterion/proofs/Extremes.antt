-- An extreme solution has a node that is reached from every node.
-- Index: ReachedSet, some_reached.
use Rattle.std.proofs.Common.{◌≡◌, ◌≢◌, ◌⊎◌, ◌<◌, ◌≤◌, ℕ, zero, suc, Bool, true, List, length, inl, inr, ⊎_elim, refl, sym, ap, ◌∙◌, arith, subst, get_or}
use Rattle.std.specs.Prelude.{IsTrue, All}
use Rattle.std.proofs.lemmas.List.{get_or_past}
use Rattle.std.proofs.lemmas.Bool.{cases_lt}
use Rattle.trop_theory.specs.Semiring.{Semiring, SemiringLaws}
use Rattle.trop_theory.specs.Vectors.{entry, joined, bottom}
use Rattle.trop_theory.specs.Inequalities.{Inequality, IsIn, Solves}
use Rattle.trop_theory.specs.Extreme.{IsExtreme}
use Rattle.trop_theory.proofs.Order.{plus_itself, times_zero, delta_times, delta_moves}
use Rattle.trop_theory.proofs.Rows.{same_rows, entry-joined, entry-bottom, length-joined}
use Rattle.trop_criterion.proofs.Reaching.{KeepsTangent, TangentReaches}
use Rattle.plain_lemmas.proofs.Decisions.{test, test_true, true_test, decide_true, decide_not, decide_both, stable, some_below}
use Rattle.trop_criterion.proofs.Weakened.{weakened, length-weakened, weakened_in, weakened_out, Below-weakened, Solves-weakened}

module _ {V : Type 0} {R : Semiring V} (laws : SemiringLaws R) where
  -- the numbers in both sets
  abbrev common : (ℕ → Bool) → (ℕ → Bool) → ℕ → Bool
  common a b i = test (decide_both (decide_true (a i)) (decide_true (b i)))

  common_both : (a b : ℕ → Bool) (i : ℕ) → IsTrue (common a b i) → IsTrue (a i) × IsTrue (b i)
  common_both a b i = true_test (decide_both (decide_true (a i)) (decide_true (b i)))

  common_from : (a b : ℕ → Bool) (i : ℕ) → IsTrue (a i) → IsTrue (b i) → IsTrue (common a b i)
  common_from a b i p q = test_true (decide_both (decide_true (a i)) (decide_true (b i))) (p, q)

  KeepsTangent-common : (x : List V) (a b : ℕ → Bool) (p : Inequality V) → KeepsTangent R x a p → KeepsTangent R x b p →
      KeepsTangent R x (common a b) p
  KeepsTangent-common x a b p ka kb t tail i h =
      common_from a b i (ka t (λ j g. (common_both a b j (tail j g)).0) i h)
      (kb t (λ j g. (common_both a b j (tail j g)).1) i h)

  -- a vector that is weakened where both sets have a coordinate is the sum of both weakened vectors
  weakened-common : (a b : ℕ → Bool) (x : List V) →
      weakened R (common a b) x ≡ joined R (weakened R a x) (weakened R b x)
  weakened-common a b x = same_rows R _ _ (length-weakened R (common a b) x
      ∙ sym (length-joined R _ _ (length x) (length-weakened R a x) (length-weakened R b x)))
      (λ i. at i (decide_true (a i)) (decide_true (b i))
      ∙ sym (entry-joined laws (weakened R a x) (weakened R b x)
      (length-weakened R a x ∙ sym (length-weakened R b x)) i))
    where
      at : (i : ℕ) → IsTrue (a i) ⊎ (IsTrue (a i) → ⊥) → IsTrue (b i) ⊎ (IsTrue (b i) → ⊥) →
          entry R (weakened R (common a b) x) i ≡ R.plus (entry R (weakened R a x) i) (entry R (weakened R b x) i)
      at i (inl p) (inl q) =
          weakened_in laws (common a b) x i (common_from a b i p q)
          ∙ sym (ap (R.plus (entry R (weakened R a x) i)) (weakened_in laws b x i q)
          ∙ ap (λ e. R.plus e (R.times R.delta (entry R x i))) (weakened_in laws a x i p) ∙ plus_itself laws _)
      at i (inl p) (inr q) =
          weakened_out R (common a b) x i (λ h. q (common_both a b i h).1)
          ∙ sym (ap (R.plus (entry R (weakened R a x) i)) (weakened_out R b x i q) ∙ ap (λ e. R.plus e (entry R x i))
          (weakened_in laws a x i p) ∙ delta_times laws (entry R x i))
      at i (inr p) d =
          weakened_out R (common a b) x i (λ h. p (common_both a b i h).0)
          ∙ sym (ap (λ e. R.plus e (entry R (weakened R b x) i)) (weakened_out R a x i p) ∙ laws.plus_comm _ _
          ∙ Below-weakened laws b x i)

  -- a vector is weakened where the set has a node
  weakened-moves : (set : ℕ → Bool) (x : List V) (i : ℕ) → IsTrue (set i) → entry R x i ≢ R.zero →
      weakened R set x ≡ x → ⊥
  weakened-moves set x i h f e = delta_moves laws (entry R x i) f
      (sym (weakened_in laws set x i h) ∙ ap (λ y. entry R y i) e)

  -- and else it stays
  weakened-stays : (set : ℕ → Bool) (x : List V) →
      ((i : ℕ) → i < length x → IsTrue (set i) × entry R x i ≢ R.zero → ⊥) → weakened R set x ≡ x
  weakened-stays set x none = same_rows R _ _ (length-weakened R set x)
      (λ i. at i (decide_true (set i)) (laws.discrete (entry R x i) R.zero) (cases_lt i (length x)))
    where
      zero_stays : (i : ℕ) → IsTrue (set i) → entry R x i ≡ R.zero → entry R (weakened R set x) i ≡ entry R x i
      zero_stays i h z = weakened_in laws set x i h ∙ ap (R.times R.delta) z ∙ times_zero laws R.delta ∙ sym z

      at : (i : ℕ) → IsTrue (set i) ⊎ (IsTrue (set i) → ⊥) → (entry R x i ≡ R.zero) ⊎ (entry R x i ≢ R.zero) →
          (i < length x) ⊎ (length x ≤ i) → entry R (weakened R set x) i ≡ entry R x i
      at i (inr f) d l = weakened_out R set x i f
      at i (inl h) (inl z) l = zero_stays i h z
      at i (inl h) (inr f) (inl l) = absurd (none i l (h, f))
      at i (inl h) (inr f) (inr l) = zero_stays i h (get_or_past x i R.zero l)

  -- For each node a set that keeps the tangent hyperedges, and has nodes that are reached from it alone.
  pub record ReachedSet (system : List (Inequality V)) (x : List V) (u : ℕ) : Type 0 where
    pub set : ℕ → Bool
    pub start : IsTrue (set u)
    pub closed : All (KeepsTangent R x set) system
    pub reached : (v : ℕ) → IsTrue (set v) → TangentReaches R system x u v

  module _ (n : ℕ) (system : List (Inequality V)) (x : List V) (inside : All (IsIn n) system)
      (extreme : IsExtreme R (Solves R n system) x) (closures : (u : ℕ) → entry R x u ≢ R.zero → ReachedSet system x u)
    where
      -- what is reached from each of the first k nodes; it has a node
      record FromFirst (k : ℕ) : Type 0 where
        set : ℕ → Bool
        closed : All (KeepsTangent R x set) system
        reached : (v : ℕ) → IsTrue (set v) → (u : ℕ) → u < k → entry R x u ≢ R.zero → TangentReaches R system x u v
        moves : weakened R set x ≡ x → ⊥

      next : (k : ℕ) → FromFirst k → entry R x k ≢ R.zero → ReachedSet system x k → FromFirst (suc k)
      next k h f c = record {
        set = common h.set c.set;
        closed = λ j d l. KeepsTangent-common x h.set c.set (get_or system j d) (h.closed j d l) (c.closed j d l);
        reached = λ v g u l e. ⊎_elim
            (λ m. h.reached v (common_both h.set c.set v g).0 u m e)
            (λ m. subst (λ w. TangentReaches R system x w v) (omega arith) (c.reached v (common_both h.set c.set v g).1))
            (cases_lt u k);
        moves = λ e. ⊎_elim
            (λ same. h.moves (sym same))
            (λ same. weakened-moves c.set x k c.start f (sym same))
            (extreme.unsplit (weakened R h.set x) (weakened R c.set x)
            (Solves-weakened laws n system h.set x inside extreme.member h.closed)
            (Solves-weakened laws n system c.set x inside extreme.member c.closed)
            (sym e ∙ weakened-common h.set c.set x));
      }

      not_bottom : weakened R (λ i. true) x ≡ x → ⊥
      not_bottom e =
          extreme.not_bottom (same_rows R x (bottom R (length x)) (sym (length-bottom (length x)))
          (λ i. stable (laws.discrete _ _) (λ f. weakened-moves (λ i. true) x i refl
          (λ z. f (z ∙ sym (entry-bottom R (length x) i))) e)))
        where
          length-bottom : (m : ℕ) → length (bottom R m) ≡ m
          length-bottom zero = refl
          length-bottom (suc m) = ap suc (length-bottom m)

      from_first : (k : ℕ) → FromFirst k
      from_first zero = record {
        set = λ i. true;
        closed = λ j d l t tail i h. refl;
        reached = λ v h u l f. absurd (omega arith);
        moves = not_bottom;
      }
      from_first (suc k) = ⊎_elim
          (λ z. let h = from_first k in record {
            set = h.set;
            closed = h.closed;
            reached = λ v g u l e. ⊎_elim (λ m. h.reached v g u m e) (λ m. absurd (e (ap (entry R x) (omega arith) ∙ z)))
                (cases_lt u k);
            moves = h.moves;
          })
          (λ f. next k (from_first k) f (closures k f))
          (laws.discrete (entry R x k) R.zero)

      pub some_reached : (t : ℕ) × (entry R x t ≢ R.zero)
          × ((u : ℕ) → entry R x u ≢ R.zero → TangentReaches R system x u t)
      some_reached =
          let h = from_first (length x) in
          ⊎_elim
          (λ s. (
            s.0,
            s.2.1,
            λ u f. h.reached s.0 s.2.0 u
                (⊎_elim (λ l. l) (λ l. absurd (f (get_or_past x u R.zero l))) (cases_lt u (length x))) f,
          ))
          (λ none. absurd (h.moves (weakened-stays h.set x none)))
          (some_below (λ i. IsTrue (h.set i) × entry R x i ≢ R.zero)
          (λ i. decide_both (decide_true (h.set i)) (decide_not (laws.discrete (entry R x i) R.zero))) (length x))
