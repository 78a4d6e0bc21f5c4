-- How large the rows of cones are.
use Rattle.std.proofs.Common.{◌≡◌, ◌≢◌, ◌<◌, ◌≤◌, ◌+◌, ◌*◌, ◌-◌, ◌^◌, ℕ, List, ◌++◌, length, take, get_or, sym, ap, ◌∙◌, arith}
use Rattle.std.specs.Prelude.{All, Contains, ◌↔◌}
use Rattle.std.proofs.Math.Nat.{mul-le-mul_left}
use Rattle.std.proofs.lemmas.List.Elements.{All-append, All-take, All-contains, Contains-append_left, Contains-append_right, Contains-get_or}
use Rattle.trop_theory.specs.Semiring.{Semiring, SemiringLaws}
use Rattle.trop_theory.specs.Vectors.{entry, scaled, row_size, rows_size}
use Rattle.trop_theory.specs.Normal.{IsNormal}
use Rattle.trop_theory.specs.Inequalities.{Inequality, IsTrueAt, Solves, IsIn, inequality_size, system_size}
use Rattle.trop_theory.specs.Combinations.{IsCombination}
use Rattle.trop_theory.specs.Canonical.{IsCanonical}
use Rattle.trop_theory.proofs.Order.{times_zero, times_one}
use Rattle.trop_theory.proofs.Rows.{entry-scaled}
use Rattle.trop_theory.proofs.Combinations.{IsCombination-length}
use Rattle.trop_theory.proofs.Canonical.{multiple_from_extreme, IsCanonical-same}
use Rattle.trop_theory.proofs.SameCones.{row_size-scaled}
use Rattle.trop_criterion.proofs.Criterion.{All-system_size}
use Rattle.trop_criterion.proofs.SizeBound.{extreme_row_small}
use Rattle.trop_row.proofs.Sizes.{rows_size-at}
use Rattle.trop_cones.specs.Sets.{InMeet}
use Rattle.trop_cones.proofs.Sizes.{size_entry, rows_size-each, system_size-each}
use Rattle.trop_duality.specs.External.{IsExternal}
use Rattle.trop_duality.proofs.Bipolar.{IsIn-external, bipolar}
use Rattle.trop_duality.proofs.Exists.{external_exists}
use Rattle.trop_duality.proofs.Sizes.{external_size}

-- ---- the rows that generate a cone, and its canonical list
module _ {V : Type 0} {R : Semiring V} (laws : SemiringLaws R) where
  -- what takes an element to the one is its inverse
  is_inverse : (c a : V) → R.times c a ≡ R.one → (a ≢ R.zero) × (c ≡ R.inverse a)
  is_inverse c a e = (
    finite,
    sym (times_one laws c) ∙ ap (R.times c) (sym (laws.invertible a finite)) ∙ sym (laws.times_assoc c a (R.inverse a))
        ∙ ap (λ v. R.times v (R.inverse a)) e ∙ laws.one_neutral (R.inverse a),
  )
    where
      finite : a ≢ R.zero
      finite z = laws.one_finite (sym e ∙ ap (R.times c) z ∙ times_zero laws c)

  -- a multiple in normal form
  normal_multiple_small : (c : V) (g x : List V) → IsNormal R x → x ≡ scaled R c g → row_size R x ≤ 2 * row_size R g
  normal_multiple_small c g x normal e =
      let at : R.times c (entry R g normal.first) ≡ R.one =
      sym (entry-scaled laws c g normal.first) ∙ ap (λ y. entry R y normal.first) (sym e) ∙ normal.is_one in
      let i = is_inverse c (entry R g normal.first) at in
      omega (
        arith,
        ap (row_size R) e,
        row_size-scaled laws c g,
        ap R.size i.1,
        laws.size_inverse (entry R g normal.first) i.0,
        size_entry laws g normal.first,
      )

  pub canonical_small : (n : ℕ) (rows others : List (List V)) → All (λ g. length g ≡ n) rows →
      IsCanonical R (IsCombination R n rows) others → rows_size R others ≤ 2 * rows_size R rows
  canonical_small n rows others w h = rows_size-each laws others (2 * rows_size R rows) each
    where
      each : All (λ x. row_size R x ≤ 2 * rows_size R rows) others
      each k d l =
          let found = multiple_from_extreme laws n rows (get_or others k d) w (h.extreme k d l) in
          omega (
            arith,
            normal_multiple_small found.4.0 found.1 (get_or others k d) (h.normal k d l) found.4.1,
            ap (row_size R) found.3,
            rows_size-at R rows found.0 found.1 found.2,
          )

All-within : {X : Type 0} (P : X → Type 0) (xs ys : List X) → ((x : X) → Contains xs x → Contains ys x) → All P ys →
    All P xs
All-within P xs ys inside h k d l = All-contains P ys (get_or xs k d) h
    (inside (get_or xs k d) (Contains-get_or xs k d l))

-- ---- the part of a cone that solves a system
module _ {V : Type 0} {R : Semiring V} (laws : SemiringLaws R) (n : ℕ) (rows : List (List V))
    (w : All (λ g. length g ≡ n) rows) (small : rows_size R rows ≤ 2 ^ 41) (few : n ≤ 64) where
  pub part_small : (system : List (Inequality V)) (others : List (List V)) → All (IsIn n) system →
      system_size R system ≤ 2 ^ 49 → IsCanonical R (InMeet (IsCombination R n rows) (Solves R n system)) others →
      rows_size R others ≤ 2 ^ 57
  part_small system others inside size h = rows_size-each laws others (2 ^ 57) each
    where
      own : (list : List (Inequality V)) × IsExternal R n (IsCombination R n rows) list
      own = external_exists laws n rows w

      both : List (Inequality V)
      both = own.0 ++ system

      own_size : system_size R own.0 ≤ 2 ^ 49
      own_size =
          let most : 4 * 2 ^ 41 * (n - 1) ≤ 4 * 2 ^ 41 * 63 =
          mul-le-mul_left {m = n - 1} {n = 63} (4 * 2 ^ 41) (omega arith) in
          omega (arith, external_size laws n rows w (2 ^ 41) own.0 small own.1, most)

      both_size : system_size R both ≤ 2 ^ 49
      both_size = system_size-each laws both (2 ^ 49)
          (All-append (λ p. inequality_size R p ≤ 2 ^ 49) own.0 system (All-system_size R own.0 (2 ^ 49) own_size)
          (All-system_size R system (2 ^ 49) size))

      both_inside : All (IsIn n) both
      both_inside = All-append (IsIn n) own.0 system
          (IsIn-external laws n (IsCombination R n rows) (λ x c. IsCombination-length laws n rows x w c) own.0 own.1)
          inside

      same : (x : List V) → InMeet (IsCombination R n rows) (Solves R n system) x ↔ Solves R n both x
      same x = (
        λ m. record {
          wide = m.1.wide;
          holds = All-append (λ p. IsTrueAt R p x) own.0 system
              ((bipolar laws n rows w own.0 own.1 x).1 m.0).holds m.1.holds;
        },
        λ s. (
          (bipolar laws n rows w own.0 own.1 x).0 (record {
            wide = s.wide;
            holds = All-within (λ p. IsTrueAt R p x) own.0 both
                (λ p c. Contains-append_left own.0 system p c) s.holds;
          }),
          record {
            wide = s.wide;
            holds = All-within (λ p. IsTrueAt R p x) system both
                (λ p c. Contains-append_right own.0 system p c) s.holds;
          },
        ),
      )

      each : All (λ x. row_size R x ≤ 2 ^ 57) others
      each k d l =
          let canonical = IsCanonical-same (InMeet (IsCombination R n rows) (Solves R n system))
          (Solves R n both) same others h in
          let most : 4 * 2 ^ 49 * (n - 1) ≤ 4 * 2 ^ 49 * 63 =
          mul-le-mul_left {m = n - 1} {n = 63} (4 * 2 ^ 49) (omega arith) in
          omega (
            arith,
            extreme_row_small laws n (2 ^ 49) both (get_or others k d) both_inside both_size
                (canonical.extreme k d l) (canonical.normal k d l),
            most,
          )

  -- of the first inequalities alone
  pub front_small : (system : List (Inequality V)) (k : ℕ) (others : List (List V)) → All (IsIn n) system →
      system_size R system ≤ 2 ^ 49 → IsCanonical R (InMeet (IsCombination R n rows) (Solves R n (take k system)))
      others → rows_size R others ≤ 2 ^ 57
  front_small system k others inside size h =
      part_small (take k system) others (All-take (IsIn n) k system inside)
      (system_size-each laws (take k system) (2 ^ 49)
      (All-take (λ p. inequality_size R p ≤ 2 ^ 49) k system (All-system_size R system (2 ^ 49) size))) h
