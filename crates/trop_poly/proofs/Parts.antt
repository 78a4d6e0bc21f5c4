-- The part of a cone that solves a system, one inequality after another, and the meet of two cones.
use Rattle.std.proofs.Common.{◌≡◌, ◌<◌, ◌≤◌, ◌+◌, ℕ, List, length, take, get_or, ⊎_elim, sym, ap, ◌∙◌, arith, subst}
use Rattle.std.specs.Prelude.{◌↔◌}
use Rattle.std.proofs.lemmas.Bool.{cases_lt}
use Rattle.std.proofs.lemmas.List.{take_all}
use Rattle.trop_theory.specs.Semiring.{Semiring, SemiringLaws}
use Rattle.trop_theory.specs.Inequalities.{Inequality, Solves, InGuard}
use Rattle.trop_theory.specs.Combinations.{IsCombination}
use Rattle.trop_theory.specs.Canonical.{IsOverLimit}
use Rattle.trop_theory.proofs.Distinct.{within_limit}
use Rattle.trop_cones.specs.Sets.{InMeet}
use Rattle.trop_cones.specs.RowStops.{IsFirstOver, IsMeetStop}
use Rattle.trop_cones.specs.Represents.{Represents}
use Rattle.trop_cones.proofs.Meets.{meet_first, meet_more}
use Rattle.trop_cones.proofs.Represented.{Represents-same}
use Rattle.trop_duality.specs.External.{IsExternal}
use Rattle.trop_duality.specs.PolarStops.{IsPolarStop}
use Rattle.trop_duality.proofs.Polars.{IsOverLimit-same}
use Rattle.trop_duality.proofs.External.{IsExternal-unique}
use Rattle.trop_poly.specs.Meets.{IsPartRefusal}
use Rattle.trop_poly.specs.Refusals.{IsConeRefusal, IsExternalRefusal, IsMeetStopOf, IsMeetRefusal}
use Rattle.trop_poly.specs.declared.error.PolyErr.{PolyErr}
use Rattle.trop_poly.specs.declared.error.PolyErr.TheVariants.{Rows, Polar, NoMemory}

-- ---- one cone after another, up to the first over the limit
module _ {V : Type 0} (R : Semiring V) (n : ℕ) (cone : ℕ → List V → Type 0) where
  -- none of the first k is over the limit
  abbrev pub NoneOver : ℕ → Type 0
  NoneOver k = (j : ℕ) → j < k → IsOverLimit R (cone j) → ⊥

  pub none_over_first : NoneOver 0
  none_over_first j l over = absurd (omega arith)

  pub none_over_more : (k : ℕ) (rows : List (List V)) → NoneOver k → Represents R n (cone k) rows → NoneOver (k + 1)
  none_over_more k rows none h j l over = ⊎_elim
      (λ lt. none j lt over)
      (λ ge. let e : j ≡ k = omega arith in within_limit R (cone k) rows h.canonical h.within
      (subst (λ i. IsOverLimit R (cone i)) e over))
      (cases_lt j k)

  pub none_over_last : (m k : ℕ) → NoneOver (m + 1) → IsFirstOver R cone m k → ⊥
  none_over_last m k none stop = none k (omega (arith, stop.within)) stop.over

  pub first_over_at : (m k : ℕ) → NoneOver k → k ≤ m → IsOverLimit R (cone k) → IsFirstOver R cone m k
  first_over_at m k none l over = record { within = l; over = over; least = none }

-- ---- the part of a cone
module _ {V : Type 0} (R : Semiring V) (n : ℕ) (cone : List V → Type 0) (system : List (Inequality V)) where
  -- the part that solves the first k inequalities
  abbrev pub Part : ℕ → List V → Type 0
  Part k = InMeet cone (Solves R n (take k system))

  pub part_first : ((x : List V) → cone x → length x ≡ n) → (rows : List (List V)) → Represents R n cone rows →
      Represents R n (Part 0) rows
  part_first wide rows h = Represents-same n cone (Part 0)
      (λ x. let m = meet_first R n cone wide system x in (m.1, m.0)) rows h

  module _ (k m : ℕ) (p : Inequality V) (rows : List (List V)) (width : m ≡ n) (l : k < length system)
      (read : get_or system k p ≡ p) (h : Represents R n (Part k) rows) where
    part_next : (x : List V) → InGuard R (IsCombination R m rows) p x ↔ Part (k + 1) x
    part_next x =
        let more = meet_more R n cone system k p l read x in
        let here : Part k x ↔ IsCombination R m rows x =
        subst (λ w. Part k x ↔ IsCombination R w rows x) (sym width) (h.generates x) in
        (λ g. more.1 (here.1 g.0, g.1), λ t. let s = more.0 t in (here.0 s.0, s.1))

    pub part_more : (next : List (List V)) → Represents R m (InGuard R (IsCombination R m rows) p) next →
        Represents R n (Part (k + 1)) next
    part_more next g = Represents-same n (InGuard R (IsCombination R m rows) p) (Part (k + 1)) part_next next
        (subst (λ w. Represents R w (InGuard R (IsCombination R m rows) p) next) width g)

    pub part_refused : SemiringLaws R → (err : PolyErr) → NoneOver R n Part k →
        IsConeRefusal R (k + 1) (InGuard R (IsCombination R m rows) p) err → IsPartRefusal R cone n system err
    part_refused laws (Rows j) none r =
        subst (IsMeetStop R cone n system) (sym r.0)
        (first_over_at R n Part (length system) (k + 1) (none_over_more R n Part k rows none h) (omega arith)
        (IsOverLimit-same laws n (InGuard R (IsCombination R m rows) p) (Part (k + 1)) part_next r.1))
    part_refused laws (Polar i j) none r = absurd r
    part_refused laws NoMemory none r = tt

  pub part_whole : (k : ℕ) (rows : List (List V)) → length system ≤ k → Represents R n (Part k) rows →
      Represents R n (InMeet cone (Solves R n system)) rows
  part_whole k rows l h = subst (λ s. Represents R n (InMeet cone (Solves R n s)) rows) (take_all k system l) h

  pub part_unstopped : (k : ℕ) (rows : List (List V)) → k ≡ length system → NoneOver R n Part k →
      Represents R n (Part k) rows → (j : ℕ) → IsMeetStop R cone n system j → ⊥
  part_unstopped k rows e none h j stop = none_over_last R n Part (length system) j
      (subst (λ i. NoneOver R n Part (i + 1)) e (none_over_more R n Part k rows none h)) stop

-- ---- the meet
module _ {V : Type 0} {R : Semiring V} (laws : SemiringLaws R) (n m : ℕ) (cone : List V → Type 0)
    (other : List (List V)) (width : m ≡ n) where
  pub external_as : (system : List (Inequality V)) → IsExternal R m (IsCombination R m other) system →
      IsExternal R n (IsCombination R n other) system
  external_as system h = subst (λ k. IsExternal R k (IsCombination R k other) system) width h

  pub polar_refused : (err : PolyErr) → IsExternalRefusal R m other err → IsMeetRefusal R n cone other err
  polar_refused (Rows k) h = absurd h
  polar_refused (Polar i k) h = subst (λ w. IsPolarStop R w other i k) width h
  polar_refused NoMemory h = tt

  pub unstopped_as : ((i k : ℕ) → IsPolarStop R m other i k → ⊥) → (i k : ℕ) → IsPolarStop R n other i k → ⊥
  unstopped_as h i k stop = h i k (subst (λ w. IsPolarStop R w other i k) (sym width) stop)

  pub meet_refused : (system : List (Inequality V)) (err : PolyErr) → ((i k : ℕ) → IsPolarStop R m other i k → ⊥) →
      IsExternal R m (IsCombination R m other) system → IsPartRefusal R cone n system err →
      IsMeetRefusal R n cone other err
  meet_refused system (Rows k) none e h = (unstopped_as none, (system, external_as system e, h))
  meet_refused system (Polar i k) none e h = absurd h
  meet_refused system NoMemory none e h = tt

  pub meet_unstopped : (system : List (Inequality V)) → IsExternal R m (IsCombination R m other) system →
      ((k : ℕ) → IsMeetStop R cone n system k → ⊥) → (k : ℕ) → IsMeetStopOf R n cone other k → ⊥
  meet_unstopped system e none k stop =
      none k (subst (λ s. IsMeetStop R cone n s k)
      (IsExternal-unique laws n (IsCombination R n other) (IsCombination R n other) stop.0 system
      (λ x. (λ h. h, λ h. h)) stop.1 (external_as system e)) stop.2)

  pub meet_whole : (system : List (Inequality V)) (rows : List (List V)) → Represents R m (Solves R m system) other →
      Represents R n (InMeet cone (Solves R n system)) rows →
      Represents R n (InMeet cone (IsCombination R m other)) rows
  meet_whole system rows e h = Represents-same n (InMeet cone (Solves R n system))
      (InMeet cone (IsCombination R m other)) same rows h
    where
      same : (x : List V) → InMeet cone (Solves R n system) x ↔ InMeet cone (IsCombination R m other) x
      same x =
          let s : Solves R n system x ↔ IsCombination R m other x =
          subst (λ k. Solves R k system x ↔ IsCombination R m other x) width (e.generates x) in
          (λ t. (t.0, s.0 t.1), λ t. (t.0, s.1 t.1))
