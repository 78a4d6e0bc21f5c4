-- The nodes that are reached from a node, as a set; and how far the entries of a solution there are from its entry.
-- Index: distance, quotient_over, distance_over, distance_itself, distance_equal, Closure, closure_of.
use Rattle.std.proofs.Common.{◌≡◌, ◌≢◌, ◌⊎◌, ◌<◌, ◌≤◌, ◌+◌, ◌*◌, ℕ, zero, suc, Bool, List, [], ◌∷◌, length, inl, inr, ⊎_elim, refl, sym, ap, ◌∙◌, arith, subst}
use Rattle.std.specs.Prelude.{IsTrue, All, Contains}
use Rattle.std.proofs.Math.Nat.{mul-suc, mul-le-mul_left}
use Rattle.std.proofs.lemmas.Bool.{cases_eq}
use Rattle.std.proofs.lemmas.List.Elements.{All-nil, All-cons, All-contains}
use Rattle.trop_theory.specs.Semiring.{Semiring, SemiringLaws}
use Rattle.trop_theory.specs.Vectors.{entry, dot}
use Rattle.trop_theory.specs.Inequalities.{Inequality, IsIn, inequality_size}
use Rattle.trop_theory.proofs.Order.{undo_times, factor_finite, left_factor_finite}
use Rattle.trop_theory.proofs.Sizes.{size-entry}
use Rattle.trop_theory.proofs.Truth.{some_term}
use Rattle.trop_criterion.specs.Tangents.{Attains, IsTight}
use Rattle.trop_criterion.proofs.Reaching.{KeepsTangent, TangentReaches}
use Rattle.plain_lemmas.proofs.Decisions.{test, test_true, true_test, decide_true, decide_not, decide_both, stable, some_below}
use Rattle.plain_lemmas.proofs.Tallies.{count, count-le, count_some, count_missing, added, added_old, added_cases, count_added}
use Rattle.trop_criterion.proofs.Weakened.{attains_within}

module _ {V : Type 0} {R : Semiring V} (laws : SemiringLaws R) where
  -- how far two finite elements are from each other
  abbrev pub distance : V → V → ℕ
  distance a b = R.size (R.times a (R.inverse b))

  -- a quotient over a third element
  pub quotient_over : (a b c : V) → b ≢ R.zero → R.times (R.times a (R.inverse b)) (R.times b (R.inverse c)) ≡ R.times a
      (R.inverse c)
  quotient_over a b c f =
      laws.times_assoc a (R.inverse b) (R.times b (R.inverse c))
      ∙ ap (R.times a) (sym (laws.times_assoc (R.inverse b) b (R.inverse c)) ∙ ap (λ e. R.times e (R.inverse c))
      (laws.times_comm (R.inverse b) b ∙ laws.invertible b f) ∙ laws.one_neutral (R.inverse c))

  pub distance_over : (a b c : V) → b ≢ R.zero → distance a c ≤ distance a b + distance b c
  distance_over a b c f = subst (λ e. R.size e ≤ distance a b + distance b c) (quotient_over a b c f)
      (laws.size_times _ _)

  pub distance_itself : (a : V) → a ≢ R.zero → distance a a ≡ 0
  distance_itself a f = ap R.size (laws.invertible a f) ∙ laws.size_one

  -- two elements with one multiple are as far from each other as the factors allow
  pub distance_equal : (a u b v : V) → R.times a u ≡ R.times b v → R.times b v ≢ R.zero →
      distance v u ≤ R.size a + R.size b
  distance_equal a u b v e f =
      let u_finite : u ≢ R.zero = factor_finite laws a u (R.times b v) e f in
      let b_finite : b ≢ R.zero = left_factor_finite laws b v (R.times b v) refl f in
      let v_is : v ≡ R.times (R.times a u) (R.inverse b) =
      undo_times laws b v (R.times a u) b_finite (laws.times_comm v b ∙ sym e) in
      let quotient : R.times v (R.inverse u) ≡ R.times a (R.inverse b) =
      ap (λ w. R.times w (R.inverse u)) v_is
      ∙ laws.times_assoc (R.times a u) (R.inverse b) (R.inverse u)
      ∙ ap (R.times (R.times a u)) (laws.times_comm (R.inverse b) (R.inverse u))
      ∙ laws.times_assoc a u (R.times (R.inverse u) (R.inverse b))
      ∙ ap (R.times a) (sym (laws.times_assoc u (R.inverse u) (R.inverse b)) ∙ ap (λ w. R.times w (R.inverse b))
      (laws.invertible u u_finite) ∙ laws.one_neutral (R.inverse b)) in
      omega (arith, ap R.size quotient, laws.size_times a (R.inverse b), laws.size_inverse b b_finite)

  module _ (n m : ℕ) (system : List (Inequality V)) (x : List V) (wide : length x ≡ n) (inside : All (IsIn n) system)
      (bounded : All (λ p. inequality_size R p ≤ m) system) where
    -- the tail of a tangent hyperedge is in the set, and a node of its head is not
    record Missing (set : ℕ → Bool) (within : List (Inequality V)) : Type 0 where
      inequality : Inequality V
      contained : Contains within inequality
      tight : IsTight R inequality x
      tail : (j : ℕ) → Attains R inequality.right x j → IsTrue (set j)
      node : ℕ
      head : Attains R inequality.left x node
      out : IsTrue (set node) → ⊥

    -- a decided property of the coordinates that reach a finite sum
    each_attains : (side : List V) (P : ℕ → Type 0) → ((j : ℕ) → P j ⊎ (P j → ⊥)) → dot R side x ≢ R.zero →
        ((j : ℕ) → Attains R side x j → P j) ⊎ ((j : ℕ) × (Attains R side x j) × (P j → ⊥))
    each_attains side P d f =
        ⊎_elim
        (λ s. inr (s.0, s.2.0, s.2.1))
        (λ none. inl (λ j h. stable (d j) (λ g. none j (attains_within laws side x j f h) (h, g))))
        (some_below (λ j. Attains R side x j × (P j → ⊥)) (λ j. decide_both (laws.discrete _ _) (decide_not (d j)))
        (length x))

    judged : (set : ℕ → Bool) (p : Inequality V) (rest : List (Inequality V)) →
        KeepsTangent R x set p ⊎ Missing set (p ∷ rest)
    judged set p rest = ⊎_elim (λ t. tight_case (record { equal = t.0; finite = t.1 }))
        (λ f. inl (λ t. absurd (f (t.equal, t.finite))))
        (decide_both (laws.discrete (dot R p.left x) (dot R p.right x))
        (decide_not (laws.discrete (dot R p.right x) R.zero)))
      where
        tail_case : IsTight R p x → ((j : ℕ) → Attains R p.right x j → IsTrue (set j)) →
            KeepsTangent R x set p ⊎ Missing set (p ∷ rest)
        tail_case t tail =
            ⊎_elim
            (λ all. inl (λ t' tail' i h. all i h))
            (λ s. inr (record {
              inequality = p;
              contained = (0, omega arith, refl);
              tight = t;
              tail = tail;
              node = s.0;
              head = s.1;
              out = s.2;
            }))
            (each_attains p.left (λ i. IsTrue (set i)) (λ i. decide_true (set i)) (λ z. t.finite (sym t.equal ∙ z)))

        tight_case : IsTight R p x → KeepsTangent R x set p ⊎ Missing set (p ∷ rest)
        tight_case t =
            ⊎_elim (tail_case t) (λ s. inl (λ t' tail. absurd (s.2 (tail s.0 s.1))))
            (each_attains p.right (λ j. IsTrue (set j)) (λ j. decide_true (set j)) t.finite)

    missing : (set : ℕ → Bool) (within : List (Inequality V)) → All (KeepsTangent R x set) within ⊎ Missing set within
    missing set [] = inl (All-nil (KeepsTangent R x set))
    missing set (p ∷ rest) =
        ⊎_elim
        (λ here. ⊎_elim
        (λ all. inl (All-cons (KeepsTangent R x set) p rest here all))
        (λ s. inr (record {
          inequality = s.inequality;
          contained = (suc s.contained.0, omega (arith, s.contained.1), s.contained.2);
          tight = s.tight;
          tail = s.tail;
          node = s.node;
          head = s.head;
          out = s.out;
        }))
        (missing set rest))
        inr
        (judged set p rest)

    -- nodes that are reached from u; each new one is one hyperedge farther
    record Part (u : ℕ) (set : ℕ → Bool) : Type 0 where
      start : IsTrue (set u)
      reached : (v : ℕ) → IsTrue (set v) → TangentReaches R system x u v
      finite : (v : ℕ) → IsTrue (set v) → entry R x v ≢ R.zero
      near : (v : ℕ) → IsTrue (set v) → distance (entry R x u) (entry R x v) + 2 * m ≤ 2 * m * count set n

    -- all nodes that are reached from u
    pub record Closure (u : ℕ) : Type 0 where
      pub set : ℕ → Bool
      pub start : IsTrue (set u)
      pub closed : All (KeepsTangent R x set) system
      pub reached : (v : ℕ) → IsTrue (set v) → TangentReaches R system x u v
      pub near : (v : ℕ) → IsTrue (set v) → distance (entry R x u) (entry R x v) + 2 * m ≤ 2 * m * n

    longer : (d k l : ℕ) → d + 2 * m ≤ 2 * m * k → k ≤ l → d + 2 * m ≤ 2 * m * l
    longer d k l h g = omega (arith, mul-le-mul_left {m = k} {n = l} (2 * m) g)

    one_longer : (d e k l : ℕ) → d + 2 * m ≤ 2 * m * k → e ≤ 2 * m → k + 1 ≤ l → d + e + 2 * m ≤ 2 * m * l
    one_longer d e k l h f g = omega (
      arith,
      mul-le-mul_left {m = suc k} {n = l} (2 * m) (omega arith),
      mul-suc (2 * m) k,
    )

    -- one hyperedge is at most twice the bound long
    short : (p : Inequality V) → Contains system p → IsTight R p x → (i : ℕ) → Attains R p.left x i →
        (j : ℕ) × (Attains R p.right x j) × (distance (entry R x j) (entry R x i) ≤ 2 * m)
    short p c t i h =
        let form = All-contains (IsIn n) system p inside c in
        let size = All-contains (λ p. inequality_size R p ≤ m) system p bounded c in
        let l : i < length x = attains_within laws p.left x i (λ z. t.finite (sym t.equal ∙ z)) h in
        let r = some_term laws p.right x (form.right ∙ sym wide) (omega arith) in
        let k : r.0 < length x = r.1 in (
          r.0,
          sym r.2,
          omega (
            arith,
            distance_equal (entry R p.left i) (entry R x i) (entry R p.right r.0) (entry R x r.0) (h ∙ t.equal ∙ r.2)
                (λ z. t.finite (r.2 ∙ z)),
            size-entry R p.left i R.zero (omega (arith, form.left)),
            size-entry R p.right r.0 R.zero (omega (arith, form.right)),
            size,
          ),
        )

    more : (u : ℕ) (set : ℕ → Bool) → Part u set → (s : Missing set system) → Part u (added set s.node)
    more u set part s = record {
      start = added_old set s.node u part.start;
      reached = λ v h. ⊎_elim (λ g. part.reached v g) (λ e. subst (TangentReaches R system x u) (sym e) new_reached)
          (added_cases set s.node v h);
      finite = λ v h. ⊎_elim (λ g. part.finite v g) (λ e. subst (λ w. entry R x w ≢ R.zero) (sym e) new_finite)
          (added_cases set s.node v h);
      near = λ v h. ⊎_elim (λ g. longer _ (count set n) (count (added set s.node) n) (part.near v g)
          (omega (arith, grown))) (λ e. subst (λ w. distance (entry R x u) (entry R x w) + 2 * m ≤ 2 * m * count
          (added set s.node) n) (sym e) new_near) (added_cases set s.node v h);
    }
      where
        left_finite : dot R s.inequality.left x ≢ R.zero
        left_finite z = s.tight.finite (sym s.tight.equal ∙ z)

        grown : count set n + 1 ≤ count (added set s.node) n
        grown = count_added set n s.node (subst (λ k. s.node < k) wide
            (attains_within laws s.inequality.left x s.node left_finite s.head)) s.out

        new_reached : TangentReaches R system x u s.node
        new_reached other here closed =
            All-contains (KeepsTangent R x other) system s.inequality closed s.contained s.tight
            (λ j h. part.reached j (s.tail j h) other here closed) s.node s.head

        new_finite : entry R x s.node ≢ R.zero
        new_finite = factor_finite laws _ _ _ s.head left_finite

        new_near : distance (entry R x u) (entry R x s.node) + 2 * m ≤ 2 * m * count (added set s.node) n
        new_near =
            let pair = short s.inequality s.contained s.tight s.node s.head in
            let h = s.tail pair.0 pair.1 in
            let far = distance_over (entry R x u) (entry R x pair.0) (entry R x s.node) (part.finite pair.0 h) in
            omega (
              arith,
              far,
              one_longer (distance (entry R x u) (entry R x pair.0))
                  (distance (entry R x pair.0) (entry R x s.node)) (count set n) (count (added set s.node) n)
                  (part.near pair.0 h) pair.2 grown,
            )

    whole : (u : ℕ) (set : ℕ → Bool) → Part u set → All (KeepsTangent R x set) system → Closure u
    whole u set part closed = record {
      set = set;
      start = part.start;
      closed = closed;
      reached = part.reached;
      near = λ v h. longer _ (count set n) n (part.near v h) (count-le set n);
    }

    node_within : (set : ℕ → Bool) (s : Missing set system) → s.node < n
    node_within set s = subst (λ k. s.node < k) wide
        (attains_within laws s.inequality.left x s.node (λ z. s.tight.finite (sym s.tight.equal ∙ z)) s.head)

    grow : (left : ℕ) (u : ℕ) (set : ℕ → Bool) → Part u set → n ≤ count set n + left → Closure u
    grow zero u set part h = ⊎_elim (whole u set part)
        (λ s. absurd (omega (arith, count_missing set n s.node (node_within set s) s.out))) (missing set system)
    grow (suc left) u set part h =
        ⊎_elim (whole u set part)
        (λ s. grow left u (added set s.node) (more u set part s)
        (omega (arith, count_added set n s.node (node_within set s) s.out)))
        (missing set system)

    -- the node itself
    alone : (u : ℕ) → u < n → entry R x u ≢ R.zero → Part u (λ j. test (cases_eq j u))
    alone u l f = record {
      start = here;
      reached = λ v h set g closed. subst (λ w. IsTrue (set w)) (sym (true_test (cases_eq v u) h)) g;
      finite = λ v h. subst (λ w. entry R x w ≢ R.zero) (sym (true_test (cases_eq v u) h)) f;
      near = λ v h. longer (distance (entry R x u) (entry R x v)) 1 (count (λ j. test (cases_eq j u)) n)
          (omega (
            arith,
            ap (λ w. distance (entry R x u) (entry R x w)) (true_test (cases_eq v u) h),
            distance_itself (entry R x u) f,
          )) (count_some (λ j. test (cases_eq j u)) n u l here);
    }
      where
        here : IsTrue (test (cases_eq u u))
        here = test_true (cases_eq u u) refl

    pub closure_of : (u : ℕ) → u < n → entry R x u ≢ R.zero → Closure u
    closure_of u l f = grow n u (λ j. test (cases_eq j u)) (alone u l f) (omega arith)
