-- A lean list has the solutions of the list that it comes from, and its rows show that each of its inequalities is
-- needed.
-- Index: Solves-fewer, Solves-drop, lean_keeps, lean_within, failing_solves, lean_certifies, valid_from_canonical,
-- certified_needed.
use Rattle.std.proofs.Common.{◌≡◌, ◌≢◌, ◌⊎◌, ◌<◌, ◌≤◌, ◌+◌, ℕ, zero, suc, List, [], ◌∷◌, ◌++◌, length, get_or, inl, inr, ⊎_elim, sym, ap, ◌∙◌, refl, arith, subst}
use Rattle.std.specs.Prelude.{All, Contains, remove, ◌↔◌}
use Rattle.std.proofs.lemmas.Bool.{cases_lt}
use Rattle.std.proofs.lemmas.List.{append_assoc}
use Rattle.std.proofs.lemmas.List.Edits.{get_or-remove_below, get_or-remove_above, length-remove}
use Rattle.std.proofs.lemmas.List.Elements.{All-contains, Contains-append_left, Contains-append_right, Contains-append_cases, Contains-push, Contains-get_or}
use Rattle.trop_theory.specs.Semiring.{Semiring, SemiringLaws}
use Rattle.trop_theory.specs.Inequalities.{Inequality, IsTrueAt, Solves, IsIn, IsValidOn}
use Rattle.trop_theory.specs.Canonical.{IsCanonical}
use Rattle.plain_lemmas.proofs.Lists.{Contains-cons, Contains-cons_cases}
use Rattle.trop_duality.specs.Lean.{FailsFirst, IsLeanFrom, IsLean, Certifies}
use Rattle.trop_cones.proofs.Cones.{valid_from_rows}
use Rattle.trop_cones.proofs.Generated.{solutions_by_canonical}

module _ {V : Type 0} (R : Semiring V) (n : ℕ) where
  -- fewer inequalities leave the solutions
  pub Solves-fewer : (system others : List (Inequality V)) →
      ((q : Inequality V) → Contains others q → Contains system q) → (x : List V) → Solves R n system x →
      Solves R n others x
  Solves-fewer system others inside x h = record {
    wide = h.wide;
    holds = λ k d l. All-contains (λ q. IsTrueAt R q x) system (get_or others k d) h.holds
        (inside (get_or others k d) (Contains-get_or others k d l));
  }

  before_and_behind : (front system : List (Inequality V)) (p q : Inequality V) → Contains (front ++ system) q →
      Contains (front ++ p ∷ system) q
  before_and_behind front system p q c = ⊎_elim
      (λ l. Contains-append_left front (p ∷ system) q l)
      (λ r. Contains-append_right front (p ∷ system) q (Contains-cons p system q r))
      (Contains-append_cases front system q c)

  -- an inequality that is valid on the solutions of the rest may go
  pub Solves-drop : (front system : List (Inequality V)) (p : Inequality V) →
      IsValidOn R (Solves R n (front ++ system)) p → (x : List V) →
      Solves R n (front ++ system) x ↔ Solves R n (front ++ p ∷ system) x
  Solves-drop front system p valid x = (
    λ h. record {
      wide = h.wide;
      holds = λ k d l. each h (get_or (front ++ p ∷ system) k d)
          (Contains-get_or (front ++ p ∷ system) k d l);
    },
    λ h. Solves-fewer (front ++ p ∷ system) (front ++ system) (before_and_behind front system p) x h,
  )
    where
      each : Solves R n (front ++ system) x → (q : Inequality V) → Contains (front ++ p ∷ system) q → IsTrueAt R q x
      each h q c = ⊎_elim
          (λ l. All-contains (λ q. IsTrueAt R q x) (front ++ system) q h.holds (Contains-append_left front system q l))
          (λ r. ⊎_elim
          (λ e. subst (λ q. IsTrueAt R q x) e (valid x h))
          (λ s. All-contains (λ q. IsTrueAt R q x) (front ++ system) q h.holds (Contains-append_right front system q s))
          (Contains-cons_cases p system q r))
          (Contains-append_cases front (p ∷ system) q c)

  one_behind : (front system : List (Inequality V)) (p : Inequality V) →
      (front ++ p ∷ []) ++ system ≡ front ++ p ∷ system
  one_behind front system p = append_assoc front (p ∷ []) system

  lean_from_keeps : (front system kept : List (Inequality V)) (rows : List (List V)) →
      IsLeanFrom R n front system kept rows → (x : List V) →
      Solves R n (front ++ kept) x ↔ Solves R n (front ++ system) x
  lean_from_keeps front [] kept rows h x = subst (λ k. Solves R n (front ++ k) x ↔ Solves R n (front ++ []) x) (sym h.0)
      (λ s. s, λ s. s)
  lean_from_keeps front (p ∷ system) kept rows h x = ⊎_elim
      (λ d.
      let r = lean_from_keeps front system kept rows d.1 x in
      let e = Solves-drop front system p d.0 x in
      (λ s. e.0 (r.0 s), λ s. r.1 (e.1 s)))
      (λ k.
      let r = lean_from_keeps (front ++ p ∷ []) system k.0 k.2 k.6 x in
      let a : front ++ kept ≡ (front ++ p ∷ []) ++ k.0 = ap (λ s. front ++ s) k.3 ∙ sym (one_behind front k.0 p) in
      let b : (front ++ p ∷ []) ++ system ≡ front ++ p ∷ system = one_behind front system p in (
        λ s. subst (λ t. Solves R n t x) b (r.0 (subst (λ t. Solves R n t x) a s)),
        λ s. subst (λ t. Solves R n t x) (sym a) (r.1 (subst (λ t. Solves R n t x) (sym b) s)),
      ))
      h

  -- the lean list has the solutions of the whole list
  pub lean_keeps : (system kept : List (Inequality V)) (rows : List (List V)) → IsLean R n system kept rows →
      (x : List V) → Solves R n kept x ↔ Solves R n system x
  lean_keeps system kept rows h x = lean_from_keeps [] system kept rows h x

  pub lean_within : (front system kept : List (Inequality V)) (rows : List (List V)) →
      IsLeanFrom R n front system kept rows → (q : Inequality V) → Contains kept q → Contains system q
  lean_within front [] kept rows h q c = subst (λ k. Contains k q) h.0 c
  lean_within front (p ∷ system) kept rows h q c = ⊎_elim
      (λ d. Contains-cons p system q (lean_within front system kept rows d.1 q c))
      (λ k. ⊎_elim
      (λ e. (0, omega arith, e))
      (λ s. Contains-cons p system q (lean_within (front ++ p ∷ []) system k.0 k.2 k.6 q s))
      (Contains-cons_cases p k.0 q (subst (λ l. Contains l q) k.3 c)))
      h

  -- what the rows of a lean list do behind the inequalities that stand
  record Shown (front kept : List (Inequality V)) (rows : List (List V)) : Type 0 where
    certifies : Certifies R kept rows
    front_true : (k : ℕ) (w : List V) → k < length kept → (q : Inequality V) → Contains front q →
        IsTrueAt R q (get_or rows k w)

  pub failing_solves : (cone : List V → Type 0) (p : Inequality V) (w : List V) → FailsFirst R cone p w → cone w
  failing_solves cone p w h = subst cone h.here (h.canonical.extreme h.place w h.within).member

  show_none : (front : List (Inequality V)) → Shown front [] []
  show_none front = record {
    certifies = record {
      one_each = refl;
      false_at = λ k p w l. absurd (omega arith);
      true_at = λ j k p w l. absurd (omega arith);
    };
    front_true = λ k w l. absurd (omega arith);
  }

  show_one : (front kept : List (Inequality V)) (p : Inequality V) (row : List V) (rows : List (List V)) →
      (IsTrueAt R p row → ⊥) → ((q : Inequality V) → Contains front q → IsTrueAt R q row) →
      ((q : Inequality V) → Contains kept q → IsTrueAt R q row) → Shown (front ++ p ∷ []) kept rows →
      Shown front (p ∷ kept) (row ∷ rows)
  show_one front kept p row rows fails at_front at_kept s = record {
    certifies = record {
      one_each = ap suc s.certifies.one_each;
      false_at = false_at;
      true_at = true_at;
    };
    front_true = front_true;
  }
    where
      false_at : (k : ℕ) (q : Inequality V) (w : List V) → k < length (p ∷ kept) →
          IsTrueAt R (get_or (p ∷ kept) k q) (get_or (row ∷ rows) k w) → ⊥
      false_at zero q w l = fails
      false_at (suc k) q w l = s.certifies.false_at k q w (omega arith)

      true_at : (j k : ℕ) (q : Inequality V) (w : List V) → j < length (p ∷ kept) → k < length (p ∷ kept) → j ≢ k →
          IsTrueAt R (get_or (p ∷ kept) j q) (get_or (row ∷ rows) k w)
      true_at zero zero q w l m f = absurd (f refl)
      true_at zero (suc k) q w l m f = s.front_true k w (omega arith) p (Contains-push front p)
      true_at (suc j) zero q w l m f = at_kept (get_or kept j q) (Contains-get_or kept j q (omega arith))
      true_at (suc j) (suc k) q w l m f = s.certifies.true_at j k q w (omega arith) (omega arith) (λ e. f (ap suc e))

      front_true : (k : ℕ) (w : List V) → k < length (p ∷ kept) → (q : Inequality V) → Contains front q →
          IsTrueAt R q (get_or (row ∷ rows) k w)
      front_true zero w l q c = at_front q c
      front_true (suc k) w l q c = s.front_true k w (omega arith) q (Contains-append_left front (p ∷ []) q c)

  shown : (front system kept : List (Inequality V)) (rows : List (List V)) → IsLeanFrom R n front system kept rows →
      Shown front kept rows
  shown front [] kept rows h = subst (λ k. Shown front k rows) (sym h.0)
      (subst (Shown front []) (sym h.1) (show_none front))
  shown front (p ∷ system) kept rows h = ⊎_elim
      (λ d. shown front system kept rows d.1)
      (λ k.
      let solves : Solves R n (front ++ system) k.1 = failing_solves (Solves R n (front ++ system)) p k.1 k.5 in
      subst (λ l. Shown front l rows) (sym k.3) (subst (Shown front (p ∷ k.0)) (sym k.4)
      (show_one front k.0 p k.1 k.2 k.5.fails
      (λ q c. All-contains (λ q. IsTrueAt R q k.1) (front ++ system) q solves.holds
      (Contains-append_left front system q c))
      (λ q c. All-contains (λ q. IsTrueAt R q k.1) (front ++ system) q solves.holds
      (Contains-append_right front system q (lean_within (front ++ p ∷ []) system k.0 k.2 k.6 q c)))
      (shown (front ++ p ∷ []) system k.0 k.2 k.6))))
      h

  -- its rows certify it
  pub lean_certifies : (system kept : List (Inequality V)) (rows : List (List V)) → IsLean R n system kept rows →
      Certifies R kept rows
  lean_certifies system kept rows h = (shown [] system kept rows h).certifies

module _ {V : Type 0} {R : Semiring V} (laws : SemiringLaws R) (n : ℕ) where
  -- an inequality that is true at each row of the canonical list of the solutions is valid on them
  pub valid_from_canonical : (system : List (Inequality V)) (rows : List (List V)) (p : Inequality V) →
      All (IsIn n) system → IsIn n p → IsCanonical R (Solves R n system) rows → All (IsTrueAt R p) rows →
      IsValidOn R (Solves R n system) p
  valid_from_canonical system rows p inside in_p canonical h x s =
      valid_from_rows laws n p in_p rows (λ k d l. (canonical.extreme k d l).member.wide) h x
      ((solutions_by_canonical laws n system rows inside canonical x).0 s)

  -- where rows certify a list, none of its inequalities is valid on the solutions of the others
  pub certified_needed : (kept : List (Inequality V)) (rows : List (List V)) (k : ℕ) (p : Inequality V) →
      All (λ w. length w ≡ n) rows → Certifies R kept rows → k < length kept →
      IsValidOn R (Solves R n (remove kept k)) (get_or kept k p) → ⊥
  certified_needed kept rows k p w h l valid = h.false_at k p row l (valid (get_or rows k row) solves)
    where
      row : List V
      row = []

      here : k < length rows
      here = omega (arith, h.one_each)

      at : (j : ℕ) (d : Inequality V) → j < length (remove kept k) → (j < k) ⊎ (k ≤ j) →
          IsTrueAt R (get_or (remove kept k) j d) (get_or rows k row)
      at j d m (inl q) = subst (λ q. IsTrueAt R q (get_or rows k row)) (sym (get_or-remove_below kept k d j q l))
          (h.true_at j k d row (omega arith) l (λ e. let f : k ≡ j = sym e in absurd (omega arith)))
      at j d m (inr q) = subst (λ q. IsTrueAt R q (get_or rows k row)) (sym (get_or-remove_above kept k d j q l))
          (h.true_at (j + 1) k d row (omega (arith, length-remove kept k l)) l (λ e. absurd (omega (arith, e))))

      solves : Solves R n (remove kept k) (get_or rows k row)
      solves = record { wide = w k row here; holds = λ j d m. at j d m (cases_lt j k) }
