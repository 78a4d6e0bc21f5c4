-- Each list has one lean list.
use Rattle.std.proofs.Common.{◌≡◌, ◌⊎◌, ◌<◌, ℕ, List, [], ◌∷◌, ◌++◌, length, get_or, inl, inr, ⊎_elim, sym, ap, ◌∙◌, refl, arith, subst, ap₂}
use Rattle.std.specs.Prelude.{All}
use Rattle.std.proofs.lemmas.Bool.{cases_lt}
use Rattle.std.proofs.lemmas.List.{get_or_default}
use Rattle.std.proofs.lemmas.List.Elements.{All-head, All-tail, All-append, All-push}
use Rattle.trop_theory.specs.Semiring.{Semiring, SemiringLaws}
use Rattle.trop_theory.specs.Vectors.{dot}
use Rattle.trop_theory.specs.Inequalities.{Inequality, IsTrueAt, Solves, IsIn, IsValidOn}
use Rattle.trop_theory.specs.Canonical.{IsCanonical}
use Rattle.trop_theory.proofs.Truth.{truth}
use Rattle.plain_lemmas.proofs.Decisions.{Decided}
use Rattle.trop_theory.proofs.Unique.{IsCanonical-unique}
use Rattle.trop_duality.specs.Lean.{FailsFirst, IsLeanFrom, IsLean}
use Rattle.trop_duality.proofs.Separation.{first_or_none}
use Rattle.trop_duality.proofs.Lean.{valid_from_canonical}
use Rattle.trop_duality.proofs.LeanLoops.{not_valid_from_fails}
use Rattle.trop_cones.proofs.Exists.{canonical_solutions_exist}

module _ {V : Type 0} {R : Semiring V} (laws : SemiringLaws R) (n : ℕ) where
  IsTrueAt-decided : (p : Inequality V) (x : List V) → IsIn n p → length x ≡ n → Decided (IsTrueAt R p x)
  IsTrueAt-decided p x inside l =
      let t = truth laws p.left p.right x (inside.left ∙ sym l) (inside.right ∙ sym l) in
      ⊎_elim (λ h. inl (t.0 h)) (λ f. inr (λ h. f (t.1 h)))
      (laws.discrete (R.plus (dot R p.left x) (dot R p.right x)) (dot R p.right x))

  -- a scan of the canonical list of the solutions decides whether an inequality is valid on them
  pub valid_or_fails_at : (system : List (Inequality V)) (p : Inequality V) (rows : List (List V)) →
      All (IsIn n) system → IsIn n p → IsCanonical R (Solves R n system) rows →
      (IsValidOn R (Solves R n system) p) ⊎ ((w : List V) × FailsFirst R (Solves R n system) p w)
  valid_or_fails_at system p rows inside in_p canonical = ⊎_elim
      (λ h. inl (valid_from_canonical laws n system rows p inside in_p canonical
      (λ k d l. subst (IsTrueAt R p) (get_or_default rows k [] d l) (h k l l))))
      (λ s. inr (get_or rows s.0 [], fails s.0 s.2 s.3))
      (first_or_none (λ k. k < length rows → IsTrueAt R p (get_or rows k [])) each (length rows))
    where
      each : (k : ℕ) → Decided (k < length rows → IsTrueAt R p (get_or rows k []))
      each k = ⊎_elim
          (λ l. ⊎_elim (λ h. inl (λ l'. h)) (λ f. inr (λ h. f (h l)))
          (IsTrueAt-decided p (get_or rows k []) in_p (canonical.extreme k [] l).member.wide))
          (λ l. inl (λ l'. absurd (omega arith)))
          (cases_lt k (length rows))

      fails : (k : ℕ) → ((k < length rows → IsTrueAt R p (get_or rows k [])) → ⊥) →
          ((j : ℕ) → j < k → j < length rows → IsTrueAt R p (get_or rows j [])) →
          FailsFirst R (Solves R n system) p (get_or rows k [])
      fails k untrue before = ⊎_elim
          (λ l. record {
            rows = rows;
            canonical = canonical;
            place = k;
            within = l;
            here = get_or_default rows k (get_or rows k []) [] l;
            fails = λ t. untrue (λ l'. t);
            before = λ j d m. subst (IsTrueAt R p) (get_or_default rows j [] d (omega arith))
                (before j m (omega arith));
          })
          (λ l. absurd (untrue (λ l'. absurd (omega arith))))
          (cases_lt k (length rows))

  pub lean_from_exists : (front system : List (Inequality V)) → All (IsIn n) front → All (IsIn n) system →
      (kept : List (Inequality V)) × (rows : List (List V)) × IsLeanFrom R n front system kept rows
  lean_from_exists front [] wf ws = ([], [], (refl, refl))
  lean_from_exists front (p ∷ system) wf ws =
      let in_p : IsIn n p = All-head (IsIn n) p system ws in
      let rest : All (IsIn n) system = All-tail (IsIn n) p system ws in
      let both : All (IsIn n) (front ++ system) = All-append (IsIn n) front system wf rest in
      let c = canonical_solutions_exist laws n (front ++ system) both in
      let dropped = lean_from_exists front system wf rest in
      let stays = lean_from_exists (front ++ p ∷ []) system (All-push (IsIn n) front p wf in_p) rest in
      ⊎_elim
      (λ v. (dropped.0, dropped.1, inl (v, dropped.2)))
      (λ f. (p ∷ stays.0, f.0 ∷ stays.1, inr (stays.0, f.0, stays.1, refl, refl, f.1, stays.2)))
      (valid_or_fails_at (front ++ system) p c.0 both in_p c.1)

  -- each list has a lean list
  pub lean_exists : (system : List (Inequality V)) → All (IsIn n) system →
      (kept : List (Inequality V)) × (rows : List (List V)) × IsLean R n system kept rows
  lean_exists system w = lean_from_exists [] system (λ k d l. absurd (omega arith)) w

  FailsFirst-unique : (cone : List V → Type 0) (p : Inequality V) (v w : List V) → FailsFirst R cone p v →
      FailsFirst R cone p w → v ≡ w
  FailsFirst-unique cone p v w h g = ⊎_elim
      (λ l. absurd (h.fails (subst (IsTrueAt R p) (ap (λ r. get_or r h.place v) (sym same) ∙ h.here)
      (g.before h.place v l))))
      (λ l. ⊎_elim
      (λ m. absurd (g.fails (subst (IsTrueAt R p) (ap (λ r. get_or r g.place w) same ∙ g.here) (h.before g.place w m))))
      (λ m. let e : h.place ≡ g.place = omega arith in
      sym h.here ∙ get_or_default h.rows h.place v w h.within ∙ ap (λ i. get_or h.rows i w) e
      ∙ ap (λ r. get_or r g.place w) same ∙ g.here)
      (cases_lt g.place h.place))
      (cases_lt h.place g.place)
    where
      same : h.rows ≡ g.rows
      same = IsCanonical-unique laws cone cone h.rows g.rows (λ x. (λ c. c, λ c. c)) h.canonical g.canonical

  lean_from_unique : (front system kept others : List (Inequality V)) (rows more : List (List V)) →
      IsLeanFrom R n front system kept rows → IsLeanFrom R n front system others more → (kept ≡ others) × (rows ≡ more)
  lean_from_unique front [] kept others rows more h g = (h.0 ∙ sym g.0, h.1 ∙ sym g.1)
  lean_from_unique front (p ∷ system) kept others rows more h g = ⊎_elim
      (λ a. ⊎_elim
      (λ b. lean_from_unique front system kept others rows more a.1 b.1)
      (λ b. absurd (not_valid_from_fails R n (Solves R n (front ++ system)) p b.1 b.5 a.0))
      g)
      (λ a. ⊎_elim
      (λ b. absurd (not_valid_from_fails R n (Solves R n (front ++ system)) p a.1 a.5 b.0))
      (λ b.
      let r = lean_from_unique (front ++ p ∷ []) system a.0 b.0 a.2 b.2 a.6 b.6 in (
        a.3 ∙ ap (λ l. p ∷ l) r.0 ∙ sym b.3,
        a.4 ∙ ap₂ (λ w l. w ∷ l)
            (FailsFirst-unique (Solves R n (front ++ system)) p a.1 b.1 a.5 b.5) r.1 ∙ sym b.4,
      ))
      g)
      h

  -- and no other
  pub lean_unique : (system kept others : List (Inequality V)) (rows more : List (List V)) →
      IsLean R n system kept rows → IsLean R n system others more → (kept ≡ others) × (rows ≡ more)
  lean_unique system kept others rows more h g = lean_from_unique [] system kept others rows more h g
