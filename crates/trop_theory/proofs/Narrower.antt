-- One more inequality: the candidates of the elementary step that are extreme are the canonical list of the smaller
-- cone.
-- Allamigeon, Gaubert, Goubault: The tropical double description method (2010).
-- Index: IsExtreme-narrower, Solves-push, Solves-front, Solves-last, Stepped, stepped, normalises_from_multiple,
-- kept_stays_extreme, mixed_solves, IsNarrowed, narrowed_canonical, narrowed_generates.
use Rattle.std.proofs.Common.{◌≡◌, ◌≢◌, ◌⊎◌, ◌<◌, ℕ, zero, suc, List, [], ◌∷◌, ◌++◌, length, map, inl, inr, ⊎_elim, sym, ap, ◌∙◌, refl, arith, subst, get_or}
use Rattle.std.specs.Prelude.{All, AllPairs, Contains, ◌↔◌}
use Rattle.std.proofs.lemmas.List.{length-map, get_or_default, length-append, get_or_append_left}
use Rattle.std.proofs.lemmas.List.Elements.{All-push, All-contains, Contains-append_left, Contains-append_right, Contains-append_cases, Contains-push, Contains-get_or}
use Rattle.trop_theory.specs.Semiring.{Semiring, SemiringLaws}
use Rattle.trop_theory.specs.Vectors.{entry, scaled, dot}
use Rattle.trop_theory.specs.Normal.{IsNormal, Normalises}
use Rattle.trop_theory.specs.Inequalities.{Inequality, IsTrueAt, Solves, IsIn}
use Rattle.trop_theory.specs.Combinations.{IsCombination}
use Rattle.trop_theory.specs.Extreme.{IsExtreme}
use Rattle.trop_theory.specs.Canonical.{RowBelow, IsCanonical}
use Rattle.trop_theory.specs.Steps.{mixed}
use Rattle.trop_theory.proofs.Truth.{HoldsOf, truth}
use Rattle.trop_theory.proofs.StepComplete.{IsStep}
use Rattle.trop_theory.proofs.Order.{le_total, left_factor_finite}
use Rattle.trop_theory.proofs.Rows.{length-joined, entry-scaled}
use Rattle.trop_theory.proofs.Combinations.{IsCombination-scaled, IsCombination-joined}
use Rattle.trop_theory.proofs.Canonical.{multiple_from_extreme, same_from_multiple, IsExtreme-same}
use Rattle.trop_theory.proofs.StepLaws.{HoldsOf-scaled, HoldsOf-mixed}
use Rattle.trop_theory.proofs.StepSound.{step_is_guard}
use Rattle.plain_lemmas.proofs.Decisions.{Decided}
use Rattle.trop_theory.proofs.Generation.{canonical_generates}
use Rattle.plain_lemmas.proofs.Lists.{Chosen, chosen_of, Contains-products, from_products, products}

module _ {V : Type 0} {R : Semiring V} where
  -- an extreme vector of a cone that lies in a smaller cone is extreme there
  pub IsExtreme-narrower : (C D : List V → Type 0) → ((x : List V) → D x → C x) → (x : List V) → D x → IsExtreme R C x →
      IsExtreme R D x
  IsExtreme-narrower C D inside x member h = record {
    member = member;
    not_bottom = h.not_bottom;
    unsplit = λ y z hy hz s. h.unsplit y z (inside y hy) (inside z hz) s;
  }

  -- solutions of a longer system
  pub Solves-push : (n : ℕ) (system : List (Inequality V)) (p : Inequality V) (x : List V) → Solves R n system x →
      IsTrueAt R p x → Solves R n (system ++ p ∷ []) x
  Solves-push n system p x h t = record { wide = h.wide; holds = All-push (λ q. IsTrueAt R q x) system p h.holds t }

  pub Solves-front : (n : ℕ) (system : List (Inequality V)) (p : Inequality V) (x : List V) →
      Solves R n (system ++ p ∷ []) x → Solves R n system x
  Solves-front n system p x h = record {
    wide = h.wide;
    holds = λ k d l. subst (λ q. IsTrueAt R q x) (get_or_append_left system (p ∷ []) d k l)
        (h.holds k d (omega (arith, length-append system (p ∷ []))));
  }

  pub Solves-last : (n : ℕ) (system : List (Inequality V)) (p : Inequality V) (x : List V) →
      Solves R n (system ++ p ∷ []) x → IsTrueAt R p x
  Solves-last n system p x h = All-contains (λ q. IsTrueAt R q x) (system ++ p ∷ []) p h.holds (Contains-push system p)

module _ {V : Type 0} {R : Semiring V} (laws : SemiringLaws R) (n : ℕ) where
  -- the rows that the elementary step gives, with the mixed rows by their parents
  pub record Stepped (a b : List V) (rows : List (List V)) : Type 0 where
    pub others : List (List V)
    pub step : IsStep R a b rows others
    pub parents : (x : List V) → Contains others x →
        (Contains rows x × HoldsOf R a b x) ⊎ ((v : List V) × (w : List V) × Contains rows v × Contains rows w
        × HoldsOf R a b v × (dot R b v ≢ R.zero) × (HoldsOf R a b w → ⊥) × (x ≡ mixed R a b v w))

  pub stepped : (a b : List V) (rows : List (List V)) → Stepped a b rows
  stepped a b rows = record {
    others = kept.chosen ++ products (mixed R a b) (finite.chosen) (dropped.chosen);
    step = record {
      kept = λ v c h. Contains-append_left kept.chosen (products (mixed R a b) finite.chosen dropped.chosen) v
          (kept.there v c h);
      mixes = λ v w cv cw hv f hw. Contains-append_right kept.chosen
          (products (mixed R a b) finite.chosen dropped.chosen) (mixed R a b v w)
          (Contains-products (mixed R a b) finite.chosen dropped.chosen v w (finite.there v cv (hv, f))
          (dropped.there w cw hw));
      only = λ x c. ⊎_elim (λ k. inl k) (λ m. inr (m.0, m.1, m.2, m.3, m.4, m.6, m.7)) (from_parents x c);
    };
    parents = from_parents;
  }
    where
      holds : (v : List V) → Decided (HoldsOf R a b v)
      holds v = laws.discrete (R.plus (dot R a v) (dot R b v)) (dot R b v)

      kept : Chosen (HoldsOf R a b) rows
      kept = chosen_of (HoldsOf R a b) holds rows

      finite : Chosen (λ v. HoldsOf R a b v × (dot R b v ≢ R.zero)) rows
      finite = chosen_of (λ v. HoldsOf R a b v × (dot R b v ≢ R.zero))
          (λ v. ⊎_elim (λ h. ⊎_elim (λ z. inr (λ q. q.1 z)) (λ f. inl (h, f)) (laws.discrete (dot R b v) R.zero))
          (λ nh. inr (λ q. nh q.0)) (holds v)) rows

      dropped : Chosen (λ w. HoldsOf R a b w → ⊥) rows
      dropped = chosen_of (λ w. HoldsOf R a b w → ⊥) (λ w. ⊎_elim (λ h. inr (λ f. f h)) (λ nh. inl nh) (holds w)) rows

      from_parents : (x : List V) → Contains (kept.chosen ++ products (mixed R a b) (finite.chosen) (dropped.chosen)) x
          → (Contains rows x × HoldsOf R a b x) ⊎ ((v : List V) × (w : List V) × Contains rows v × Contains rows w
          × HoldsOf R a b v × (dot R b v ≢ R.zero) × (HoldsOf R a b w → ⊥) × (x ≡ mixed R a b v w))
      from_parents x c = ⊎_elim
          (λ k. inl (kept.back x k))
          (λ m.
          let r = from_products (mixed R a b) finite.chosen dropped.chosen x m in
          let fv = finite.back r.0 r.2 in
          let dw = dropped.back r.1 r.3 in
          inr (r.0, r.1, fv.0, dw.0, fv.1.0, fv.1.1, dw.1, r.4))
          (Contains-append_cases kept.chosen (products (mixed R a b) finite.chosen dropped.chosen) x c)

  -- a multiple in normal form
  pub normalises_from_multiple : (g x : List V) (c : V) → IsNormal R x → x ≡ scaled R c g → Normalises R g x
  normalises_from_multiple g x c h e = record {
    factor = c;
    finite = left_factor_finite laws c (entry R g h.first) R.one
        (sym (entry-scaled laws c g h.first) ∙ ap (λ v. entry R v h.first) (sym e) ∙ h.is_one) laws.one_finite;
    multiple = e;
    normal = h;
  }

  -- a kept row stays extreme
  pub kept_stays_extreme : (system : List (Inequality V)) (p : Inequality V) (v : List V) → IsIn n p →
      IsExtreme R (Solves R n system) v → HoldsOf R p.left p.right v → IsExtreme R (Solves R n (system ++ p ∷ [])) v
  kept_stays_extreme system p v inside h holds =
      IsExtreme-narrower (Solves R n system) (Solves R n (system ++ p ∷ [])) (λ x k. Solves-front n system p x k) v
      (Solves-push n system p v h.member ((truth laws p.left p.right v (inside.left ∙ sym h.member.wide)
      (inside.right ∙ sym h.member.wide)).0 holds)) h

  -- a mixed row solves the longer system
  pub mixed_solves : (system : List (Inequality V)) (p : Inequality V) (rows : List (List V)) (v w x : List V) →
      IsIn n p → ((x : List V) → Solves R n system x ↔ IsCombination R n rows x) → Solves R n system v →
      Solves R n system w → All (λ g. length g ≡ n) rows → HoldsOf R p.left p.right v →
      (HoldsOf R p.left p.right w → ⊥) → Normalises R (mixed R p.left p.right v w) x → Solves R n (system ++ p ∷ []) x
  mixed_solves system p rows v w x inside same sv sw wide hv hw m =
      Solves-push n system p x solves ((truth laws p.left p.right x (inside.left ∙ sym solves.wide)
      (inside.right ∙ sym solves.wide)).0 holds)
    where
      combination : IsCombination R n rows (mixed R p.left p.right v w)
      combination = IsCombination-joined laws n rows _ _
          (IsCombination-scaled laws n rows (dot R p.left w) v ((same v).0 sv))
          (IsCombination-scaled laws n rows (dot R p.right v) w ((same w).0 sw))

      solves : Solves R n system x
      solves = (same x).1 (subst (IsCombination R n rows) (sym m.multiple)
          (IsCombination-scaled laws n rows m.factor (mixed R p.left p.right v w) combination))

      holds : HoldsOf R p.left p.right x
      holds = subst (HoldsOf R p.left p.right) (sym m.multiple)
          (HoldsOf-scaled laws p.left p.right (mixed R p.left p.right v w) m.factor
          (HoldsOf-mixed laws p.left p.right v w (sv.wide ∙ sym sw.wide) hv
          (⊎_elim (λ l. absurd (hw l)) (λ l. l) (le_total laws (dot R p.left w) (dot R p.right w)))))

  -- what a list of kept rows and extreme candidates has to have
  pub record IsNarrowed (system : List (Inequality V)) (p : Inequality V) (rows others : List (List V)) : Type 0 where
    pub ascending : AllPairs (RowBelow R) others
    pub normal : All (IsNormal R) others
    pub extreme : All (IsExtreme R (Solves R n (system ++ p ∷ []))) others
    pub kept : (v : List V) → Contains rows v → HoldsOf R p.left p.right v → Contains others v
    pub mixes : (v w x : List V) → Contains rows v → Contains rows w → HoldsOf R p.left p.right v →
        dot R p.right v ≢ R.zero → (HoldsOf R p.left p.right w → ⊥) → Normalises R (mixed R p.left p.right v w) x →
        IsExtreme R (Solves R n (system ++ p ∷ [])) x → Contains others x

  module _ (system : List (Inequality V)) (p : Inequality V) (rows others : List (List V)) (inside : IsIn n p)
      (canonical : IsCanonical R (Solves R n system) rows)
      (same : (x : List V) → Solves R n system x ↔ IsCombination R n rows x) where
    wide : All (λ g. length g ≡ n) rows
    wide k d l = (canonical.extreme k d l).member.wide

    s : Stepped p.left p.right rows
    s = stepped p.left p.right rows

    length_mixed : (v w : List V) → length v ≡ n → length w ≡ n → length (mixed R p.left p.right v w) ≡ n
    length_mixed v w lv lw = length-joined R _ _ n (length-map v (R.times (dot R p.left w)) ∙ lv)
        (length-map w (R.times (dot R p.right v)) ∙ lw)

    wide_step : All (λ g. length g ≡ n) s.others
    wide_step k d l = ⊎_elim
        (λ q. All-contains (λ g. length g ≡ n) rows _ wide q.0)
        (λ q. ap length q.7 ∙ length_mixed q.0 q.1 (All-contains (λ g. length g ≡ n) rows _ wide q.2)
        (All-contains (λ g. length g ≡ n) rows _ wide q.3))
        (s.parents (get_or s.others k d) (Contains-get_or s.others k d l))

    -- the step generates the smaller cone
    step_generates : (x : List V) → Solves R n (system ++ p ∷ []) x ↔ IsCombination R n s.others x
    step_generates x = (
      λ h. (guard x).1 (
        (same x).0 (Solves-front n system p x h),
        (truth laws p.left p.right x (inside.left ∙ sym h.wide) (inside.right ∙ sym h.wide)).1
            (Solves-last n system p x h),
      ),
      λ c. let g = (guard x).0 c in let h = (same x).1 g.0 in
          Solves-push n system p x h ((truth laws p.left p.right x (inside.left ∙ sym h.wide)
          (inside.right ∙ sym h.wide)).0 g.1),
    )
      where
        guard : (x : List V) → IsCombination R n s.others x ↔ (IsCombination R n rows x × HoldsOf R p.left p.right x)
        guard = step_is_guard laws n p.left p.right rows s.others wide wide_step s.step

    narrowed_complete : IsNarrowed system p rows others → (x : List V) → IsNormal R x →
        IsExtreme R (Solves R n (system ++ p ∷ [])) x → Contains others x
    narrowed_complete h x hx ex =
        let found = multiple_from_extreme laws n s.others x wide_step
        (IsExtreme-same (Solves R n (system ++ p ∷ [])) (IsCombination R n s.others) step_generates x ex) in
        let g = found.1 in
        from_row g found.4.0 (found.0, found.2, get_or_default s.others found.0 g g found.2 ∙ found.3) found.4.1
      where
        from_row : (g : List V) (c : V) → Contains s.others g → x ≡ scaled R c g → Contains others x
        from_row g c k e = ⊎_elim
            (λ q. subst (Contains others) (sym (same_from_multiple laws n x g c hx
            (All-contains (IsNormal R) rows g canonical.normal q.0) e)) (h.kept g q.0 q.1))
            (λ q. h.mixes q.0 q.1 x q.2 q.3 q.4 q.5 q.6
            (normalises_from_multiple (mixed R p.left p.right q.0 q.1) x c hx (e ∙ ap (scaled R c) q.7)) ex)
            (s.parents g k)

    -- the kept rows and the extreme candidates, ascending, are the canonical list of the smaller cone
    pub narrowed_canonical : IsNarrowed system p rows others → IsCanonical R (Solves R n (system ++ p ∷ [])) others
    narrowed_canonical h = record {
      ascending = h.ascending;
      normal = h.normal;
      extreme = h.extreme;
      complete = narrowed_complete h;
    }

    -- and they generate it
    pub narrowed_generates : IsNarrowed system p rows others → (x : List V) →
        Solves R n (system ++ p ∷ []) x ↔ IsCombination R n others x
    narrowed_generates h = canonical_generates laws n (Solves R n (system ++ p ∷ [])) s.others others wide_step
        step_generates (narrowed_canonical h)
