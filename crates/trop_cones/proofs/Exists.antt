-- Each generated cone has a canonical list: a basis, sorted.
-- Index: canonical_exists, canonical_solutions_exist, chosen_exist.
use Rattle.std.proofs.Common.{◌≡◌, ◌⊎◌, ℕ, zero, suc, List, [], ◌∷◌, length, inl, inr, ⊎_elim, sym, ◌∙◌, refl, arith, subst, get_or, ap₂}
use Rattle.std.specs.Prelude.{All, AllPairs, Contains}
use Rattle.std.proofs.lemmas.List.Elements.{All-nil, All-head, All-tail, All-cons, All-contains, Contains-get_or}
use Rattle.trop_theory.specs.Semiring.{Semiring, SemiringLaws, Le}
use Rattle.trop_theory.specs.Normal.{IsNormal}
use Rattle.trop_theory.specs.Inequalities.{Inequality, Solves, IsIn}
use Rattle.trop_theory.specs.Combinations.{IsCombination}
use Rattle.trop_theory.specs.Extreme.{IsExtreme}
use Rattle.trop_theory.specs.Canonical.{RowBelow, IsCanonical}
use Rattle.trop_theory.specs.StepList.{AreChosen}
use Rattle.trop_theory.proofs.Order.{le_trans, le_antisym, le_total}
use Rattle.trop_theory.proofs.Canonical.{IsCanonical-same, IsExtreme-same, extreme_from_alone, Contains-extreme}
use Rattle.plain_lemmas.proofs.Decisions.{Decided}
use Rattle.trop_theory.proofs.Generation.{Basis, basis}
use Rattle.plain_lemmas.proofs.Lists.{Contains-cons, Contains-cons_cases, Contains-none}
use Rattle.trop_cones.proofs.Generated.{solutions_generated}

module _ {V : Type 0} {R : Semiring V} (laws : SemiringLaws R) where
  row_order : (x y : List V) → length x ≡ length y → (RowBelow R x y) ⊎ ((x ≡ y) ⊎ RowBelow R y x)
  row_order [] [] l = inr (inl refl)
  row_order [] (b ∷ y) l = inl tt
  row_order (a ∷ x) [] l = inr (inr tt)
  row_order (a ∷ x) (b ∷ y) l = ⊎_elim
      (λ e. ⊎_elim
      (λ h. inl (inr (e, h)))
      (λ q. ⊎_elim (λ s. inr (inl (ap₂ (λ h t. h ∷ t) e s))) (λ h. inr (inr (inr (sym e, h)))) q)
      (row_order x y (omega arith)))
      (λ f. ⊎_elim
      (λ h. inl (inl (h, f)))
      (λ h. inr (inr (inl (h, λ e. f (sym e)))))
      (le_total laws a b))
      (laws.discrete a b)

  row_below_trans : (x y z : List V) → RowBelow R x y → RowBelow R y z → RowBelow R x z
  row_below_trans [] [] z h k = absurd h
  row_below_trans [] (b ∷ y) [] h k = absurd k
  row_below_trans [] (b ∷ y) (c ∷ z) h k = tt
  row_below_trans (a ∷ x) [] z h k = absurd h
  row_below_trans (a ∷ x) (b ∷ y) [] h k = absurd k
  row_below_trans (a ∷ x) (b ∷ y) (c ∷ z) h k = ⊎_elim
      (λ p. ⊎_elim
      (λ q. inl (le_trans laws a b c p.0 q.0, λ e. p.1 (le_antisym laws a b p.0 (subst (Le R b) (sym e) q.0))))
      (λ q. inl (subst (Le R a) q.0 p.0, λ e. p.1 (e ∙ sym q.0)))
      k)
      (λ p. ⊎_elim
      (λ q. inl (subst (λ v. Le R v c) (sym p.0) q.0, λ e. q.1 (sym p.0 ∙ e)))
      (λ q. inr (p.0 ∙ q.0, row_below_trans x y z p.1 q.1))
      k)
      h

  pairs_cons : (x : List V) (xs : List (List V)) → All (RowBelow R x) xs → AllPairs (RowBelow R) xs →
      AllPairs (RowBelow R) (x ∷ xs)
  pairs_cons x xs h k zero zero d lt l = absurd (omega arith)
  pairs_cons x xs h k zero (suc j) d lt l = h j d (omega arith)
  pairs_cons x xs h k (suc i) zero d lt l = absurd (omega arith)
  pairs_cons x xs h k (suc i) (suc j) d lt l = k i j d (omega arith) (omega arith)

  -- an ascending list with one more element
  record Inserted (x : List V) (xs : List (List V)) : Type 0 where
    list : List (List V)
    ascending : AllPairs (RowBelow R) list
    there : (z : List V) → Contains list z → (x ≡ z) ⊎ Contains xs z
    first : Contains list x
    rest : (z : List V) → Contains xs z → Contains list z

  inserted : (n : ℕ) (x : List V) (xs : List (List V)) → length x ≡ n → All (λ g. length g ≡ n) xs →
      AllPairs (RowBelow R) xs → Inserted x xs
  inserted n x [] l w h = record {
    list = x ∷ [];
    ascending = pairs_cons x [] (All-nil (RowBelow R x)) h;
    there = λ z c. Contains-cons_cases x [] z c;
    first = (0, omega arith, refl);
    rest = λ z c. absurd (Contains-none z c);
  }
  inserted n x (y ∷ ys) l w h = ⊎_elim
      (λ b. record {
        list = x ∷ (y ∷ ys);
        ascending = pairs_cons x (y ∷ ys) (All-cons (RowBelow R x) y ys b
            (λ k d m. row_below_trans x y (get_or ys k d) b (behind k d m))) h;
        there = λ z c. Contains-cons_cases x (y ∷ ys) z c;
        first = (0, omega arith, refl);
        rest = λ z c. Contains-cons x (y ∷ ys) z c;
      })
      (λ q. ⊎_elim
      (λ e. record {
        list = y ∷ ys;
        ascending = h;
        there = λ z c. inr c;
        first = (0, omega arith, sym e);
        rest = λ z c. c;
      })
      (λ b. further b (inserted n x ys l (All-tail (λ g. length g ≡ n) y ys w) tail))
      q)
      (row_order x y (l ∙ sym (All-head (λ g. length g ≡ n) y ys w)))
    where
      behind : All (RowBelow R y) ys
      behind k d m = h 0 (suc k) d (omega arith) (omega arith)

      tail : AllPairs (RowBelow R) ys
      tail i j d lt m = h (suc i) (suc j) d (omega arith) (omega arith)

      further : RowBelow R y x → Inserted x ys → Inserted x (y ∷ ys)
      further b r = record {
        list = y ∷ r.list;
        ascending = pairs_cons y r.list (λ k d m. ⊎_elim
            (λ e. subst (RowBelow R y) e b)
            (λ c. All-contains (RowBelow R y) ys (get_or r.list k d) behind c)
            (r.there (get_or r.list k d) (Contains-get_or r.list k d m))) r.ascending;
        there = λ z c. ⊎_elim (λ e. inr (0, omega arith, e))
            (λ s. ⊎_elim (λ e. inl e) (λ t. inr (Contains-cons y ys z t)) (r.there z s))
            (Contains-cons_cases y r.list z c);
        first = Contains-cons y r.list x r.first;
        rest = λ z c. ⊎_elim (λ e. (0, omega arith, e)) (λ s. Contains-cons y r.list z (r.rest z s))
            (Contains-cons_cases y ys z c);
      }

  -- the elements of a list in their order, each once
  record Ordered (xs : List (List V)) : Type 0 where
    list : List (List V)
    ascending : AllPairs (RowBelow R) list
    there : (z : List V) → Contains list z → Contains xs z
    back : (z : List V) → Contains xs z → Contains list z

  ordered : (n : ℕ) (xs : List (List V)) → All (λ g. length g ≡ n) xs → Ordered xs
  ordered n [] w = record {
    list = [];
    ascending = λ i j d lt l. absurd (omega arith);
    there = λ z c. c;
    back = λ z c. c;
  }
  ordered n (x ∷ xs) w =
      let r = ordered n xs (All-tail (λ g. length g ≡ n) x xs w) in
      let s = inserted n x r.list (All-head (λ g. length g ≡ n) x xs w)
      (λ k d l. All-contains (λ g. length g ≡ n) xs (get_or r.list k d) (All-tail (λ g. length g ≡ n) x xs w)
      (r.there (get_or r.list k d) (Contains-get_or r.list k d l))) r.ascending in
      record {
        list = s.list;
        ascending = s.ascending;
        there = λ z c. ⊎_elim (λ e. (0, omega arith, e)) (λ t. Contains-cons x xs z (r.there z t)) (s.there z c);
        back = λ z c. ⊎_elim (λ e. subst (Contains s.list) e s.first) (λ t. s.rest z (r.back z t))
            (Contains-cons_cases x xs z c);
      }

module _ {V : Type 0} {R : Semiring V} (laws : SemiringLaws R) (n : ℕ) where
  -- each generated cone has a canonical list
  pub canonical_exists : (rows : List (List V)) → All (λ g. length g ≡ n) rows →
      (others : List (List V)) × IsCanonical R (IsCombination R n rows) others
  canonical_exists rows w = (
    o.list,
    record {
      ascending = o.ascending;
      normal = λ k d l. All-contains (IsNormal R) b.base (get_or o.list k d) b.normal
          (o.there (get_or o.list k d) (Contains-get_or o.list k d l));
      extreme = λ k d l. extreme (get_or o.list k d) (o.there (get_or o.list k d) (Contains-get_or o.list k d l));
      complete = λ x nx ex. o.back x (Contains-extreme laws n b.base x b.wide b.normal nx
          (IsExtreme-same (IsCombination R n rows) (IsCombination R n b.base) b.same x ex));
    },
  )
    where
      b : Basis laws n rows
      b = basis laws n rows w

      o : Ordered laws b.base
      o = ordered laws n b.base b.wide

      extreme : (x : List V) → Contains b.base x → IsExtreme R (IsCombination R n rows) x
      extreme x c =
          IsExtreme-same (IsCombination R n b.base) (IsCombination R n rows) (λ y. ((b.same y).1, (b.same y).0)) x
          (subst (IsExtreme R (IsCombination R n b.base)) c.2
          (extreme_from_alone laws n b.base c.0 x b.wide c.1 (b.normal c.0 x c.1) (b.alone c.0 x c.1)))

  -- and so have the solutions of a system
  pub canonical_solutions_exist : (system : List (Inequality V)) → All (IsIn n) system →
      (rows : List (List V)) × IsCanonical R (Solves R n system) rows
  canonical_solutions_exist system inside =
      let r = solutions_generated laws n system inside in
      let c = canonical_exists r.rows r.wide in
      (c.0, IsCanonical-same (IsCombination R n r.rows) (Solves R n system) (λ x. ((r.same x).1, (r.same x).0)) c.0 c.1)

  -- the elements with a decided property can be listed
  pub chosen_exist : {X : Type 0} (P : X → Type 0) → ((x : X) → Decided (P x)) → (xs : List X) →
      (ys : List X) × AreChosen P xs ys
  chosen_exist P d [] = ([], refl)
  chosen_exist P d (x ∷ xs) =
      let r = chosen_exist P d xs in
      ⊎_elim (λ p. (x ∷ r.0, inl (p, (r.0, refl, r.1)))) (λ p. (r.0, inr (p, r.1))) (d x)
