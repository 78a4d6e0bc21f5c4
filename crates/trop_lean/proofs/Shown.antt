-- Rows that fail alone, one after another, are those that certify a list.
use Rattle.std.proofs.Common.{◌≡◌, ◌≢◌, ◌<◌, ◌≤◌, ◌+◌, ℕ, List, length, take, get_or, inl, inr, ⊎_elim, sym, ap, ◌∙◌, refl, arith, subst, Bool, true, false, not, true≢false}
use Rattle.std.specs.Prelude.{◌↔◌, IsTrue}
use Rattle.std.proofs.lemmas.Bool.{cases_lt, cases_eq}
use Rattle.std.proofs.lemmas.List.{take_more, take_all, length-take-le, get_or-take, get_or_push}
use Rattle.trop_theory.specs.Semiring.{Semiring}
use Rattle.trop_theory.specs.Inequalities.{Inequality, IsTrueAt}
use Rattle.trop_duality.specs.Lean.{Certifies}
use Rattle.trop_lean.specs.Certificates.{IsAsWanted, FailsAlone, EachFailsAlone}

module _ {V : Type 0} (R : Semiring V) where
  -- ---- one inequality at one row
  pub wanted_own : (j k : ℕ) (p : Inequality V) (w : List V) (b : Bool) → j ≡ k → IsTrue b ↔ IsTrueAt R p w →
      IsTrue (not b) ↔ IsAsWanted R j k p w
  wanted_own j k p w true e h = (
    λ f. absurd (true≢false (sym f)),
    λ a. ⊎_elim (λ own. absurd (own.1 (h.0 refl))) (λ other. absurd (other.0 e)) a,
  )
  wanted_own j k p w false e h = (λ t. inl (e, λ holds. true≢false (sym (h.1 holds))), λ a. refl)

  pub wanted_other : (j k : ℕ) (p : Inequality V) (w : List V) (b : Bool) → j ≢ k → IsTrue b ↔ IsTrueAt R p w →
      IsTrue b ↔ IsAsWanted R j k p w
  wanted_other j k p w b d h = (λ t. inr (d, h.0 t), λ a. ⊎_elim (λ own. absurd (d own.0)) (λ other. h.1 other.1) a)

  -- ---- all inequalities at one row
  pub alone_none : (kept : List (Inequality V)) (k : ℕ) (w : List V) → FailsAlone R (take 0 kept) k w
  alone_none kept k w j p l = absurd (omega arith)

  -- one inequality more
  pub alone_more : (kept : List (Inequality V)) (i k : ℕ) (p : Inequality V) (w : List V) → i < length kept →
      p ≡ get_or kept i p → FailsAlone R (take i kept) k w → IsAsWanted R i k p w → FailsAlone R (take (i + 1) kept) k w
  alone_more kept i k p w l read h new j q m = ⊎_elim
      (λ a. subst (λ r. IsAsWanted R j k r w) (get_or-take i kept j q a
      ∙ sym (get_or-take (i + 1) kept j q (omega arith)))
      (h j q (omega (arith, length-take-le i kept (omega arith)))))
      (λ a.
      let e : j ≡ i = omega (arith, length-take-le (i + 1) kept (omega arith)) in
      subst (λ r. IsAsWanted R j k r w) (here j q e) (subst (λ x. IsAsWanted R x k p w) (sym e) new))
      (cases_lt j i)
    where
      here : (j : ℕ) (q : Inequality V) → j ≡ i → p ≡ get_or (take (i + 1) kept) j q
      here j q e = sym (ap (λ s. get_or s j q) (take_more kept i p l) ∙ get_or_push (take i kept) (get_or kept i p) q j
          (length-take-le i kept (omega arith) ∙ sym e) ∙ sym read)

  pub alone_all : (kept : List (Inequality V)) (i k : ℕ) (w : List V) → length kept ≤ i →
      FailsAlone R (take i kept) k w → FailsAlone R kept k w
  alone_all kept i k w l h = subst (λ s. FailsAlone R s k w) (take_all i kept l) h

  -- one that is not as it has to be
  pub not_alone : (kept : List (Inequality V)) (i k : ℕ) (p : Inequality V) (w : List V) → i < length kept →
      p ≡ get_or kept i p → (IsAsWanted R i k p w → ⊥) → FailsAlone R kept k w → ⊥
  not_alone kept i k p w l read f h = f (subst (λ r. IsAsWanted R i k r w) (sym read) (h i p l))

  -- ---- all inequalities at all rows
  pub each_none : (kept : List (Inequality V)) (rows : List (List V)) → EachFailsAlone R kept (take 0 rows)
  each_none kept rows k w l = absurd (omega arith)

  -- one row more
  pub each_more : (kept : List (Inequality V)) (rows : List (List V)) (i : ℕ) (w : List V) → i < length rows →
      w ≡ get_or rows i w → EachFailsAlone R kept (take i rows) → FailsAlone R kept i w →
      EachFailsAlone R kept (take (i + 1) rows)
  each_more kept rows i w l read h new k v m = ⊎_elim
      (λ a. subst (FailsAlone R kept k) (get_or-take i rows k v a ∙ sym (get_or-take (i + 1) rows k v (omega arith)))
      (h k v (omega (arith, length-take-le i rows (omega arith)))))
      (λ a.
      let e : k ≡ i = omega (arith, length-take-le (i + 1) rows (omega arith)) in
      subst (FailsAlone R kept k) (here k v e) (subst (λ x. FailsAlone R kept x w) (sym e) new))
      (cases_lt k i)
    where
      here : (k : ℕ) (v : List V) → k ≡ i → w ≡ get_or (take (i + 1) rows) k v
      here k v e = sym (ap (λ s. get_or s k v) (take_more rows i w l) ∙ get_or_push (take i rows) (get_or rows i w) v k
          (length-take-le i rows (omega arith) ∙ sym e) ∙ sym read)

  pub each_all : (kept : List (Inequality V)) (rows : List (List V)) (i : ℕ) → length rows ≤ i →
      EachFailsAlone R kept (take i rows) → EachFailsAlone R kept rows
  each_all kept rows i l h = subst (EachFailsAlone R kept) (take_all i rows l) h

  -- ---- both ways to certify
  pub certified_by_each : (kept : List (Inequality V)) (rows : List (List V)) → length rows ≡ length kept →
      EachFailsAlone R kept rows → Certifies R kept rows
  certified_by_each kept rows e h = record {
    one_each = e;
    false_at = λ k p w l. ⊎_elim (λ a. a.1) (λ b. absurd (b.0 refl)) (h k w (omega arith) k p l);
    true_at = λ j k p w l m d. ⊎_elim (λ a. absurd (d a.0)) (λ b. b.1) (h k w (omega arith) j p l);
  }

  pub each_by_certified : (kept : List (Inequality V)) (rows : List (List V)) → Certifies R kept rows →
      EachFailsAlone R kept rows
  each_by_certified kept rows h k w l j p m = ⊎_elim
      (λ e. inl (
        e,
        subst (λ x. IsTrueAt R (get_or kept x p) (get_or rows k w) → ⊥) (sym e)
            (h.false_at k p w (omega (arith, h.one_each))),
      ))
      (λ d. inr (d, h.true_at j k p w m (omega (arith, h.one_each)) d))
      (cases_eq j k)

  pub not_certified : (kept : List (Inequality V)) (rows : List (List V)) (i : ℕ) (w : List V) → i < length rows →
      w ≡ get_or rows i w → (FailsAlone R kept i w → ⊥) → Certifies R kept rows → ⊥
  not_certified kept rows i w l read f h = f (subst (FailsAlone R kept i) (sym read)
      (each_by_certified kept rows h i w l))
