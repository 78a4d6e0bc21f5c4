-- The rows of a canonical list have few enough digits to be printed whole.
use Rattle.std.proofs.Common.{◌≡◌, ◌<◌, ◌≤◌, ◌+◌, ◌*◌, ◌-◌, ◌^◌, ℕ, List, get_or, map, sym, ap, ◌∙◌, arith}
use Rattle.std.specs.Prelude.{All}
use Rattle.std.proofs.Math.Nat.{mul-le-mul_left}
use Rattle.trop_theory.specs.Semiring.{Semiring, SemiringLaws}
use Rattle.trop_theory.specs.Vectors.{entry, scaled, row_size, rows_size, AreWide}
use Rattle.trop_theory.specs.Normal.{IsNormal}
use Rattle.trop_theory.specs.Inequalities.{Inequality, Solves, system_size}
use Rattle.trop_theory.specs.Combinations.{IsCombination}
use Rattle.trop_theory.specs.Extreme.{IsExtreme}
use Rattle.trop_theory.specs.Canonical.{IsCanonical}
use Rattle.trop_theory.proofs.Order.{left_factor_finite}
use Rattle.trop_theory.proofs.Rows.{entry-scaled}
use Rattle.trop_theory.proofs.Combinations.{IsCombination-length}
use Rattle.trop_theory.proofs.Canonical.{IsExtreme-same, multiple_from_extreme}
use Rattle.trop_criterion.proofs.SizeBound.{extreme_row_small}
use Rattle.trop_row.proofs.NormalSteps.{size_normalised}
use Rattle.trop_row.proofs.Sizes.{rows_size-at}
use Rattle.tplib_laws.proofs.Fitting.{fitted_sides, Solves-fitted, IsIn-fitted, system_size-fitted}
use Rattle.tplib_laws.proofs.Rows.{IsPrintable}

module _ {V : Type 0} {R : Semiring V} (laws : SemiringLaws R) (n : ℕ) where
  -- of solutions
  solution_small : (system : List (Inequality V)) (x : List V) → n ≤ 64 → system_size R system ≤ 2 ^ 49 →
      IsExtreme R (Solves R n system) x → IsNormal R x → row_size R x < 2 ^ 63
  solution_small system x few size extreme normal =
      let most : 4 * system_size R system * (n - 1) ≤ 4 * system_size R system * 63 =
      mul-le-mul_left (4 * system_size R system) (omega arith) in
      let as_fitted = IsExtreme-same (Solves R n system) (Solves R n (map (fitted_sides R n) system))
      (Solves-fitted laws n system) x extreme in
      omega (
        arith,
        extreme_row_small laws n (system_size R system) (map (fitted_sides R n) system) x
            (IsIn-fitted laws n system) (system_size-fitted laws n system) as_fitted normal,
        most,
      )

  pub solutions_printable : (system : List (Inequality V)) (answer : List (List V)) → n ≤ 64 →
      system_size R system ≤ 2 ^ 49 → IsCanonical R (Solves R n system) answer → All (IsPrintable R n) answer
  solutions_printable system answer few size h k d l = record {
    wide = (h.extreme k d l).member.wide;
    normal = h.normal k d l;
    small = solution_small system (get_or answer k d) few size (h.extreme k d l) (h.normal k d l);
  }

  -- of combinations: each is a multiple of a row
  multiple_small : (g x : List V) (c : V) → IsNormal R x → x ≡ scaled R c g → row_size R x ≤ row_size R g + row_size R g
  multiple_small g x c normal e =
      let at : R.times c (entry R g normal.first) ≡ R.one =
      sym (ap (λ v. entry R v normal.first) e ∙ entry-scaled laws c g normal.first) ∙ normal.is_one in
      size_normalised laws g x (record {
        factor = c;
        finite =
            left_factor_finite laws c (entry R g normal.first) R.one at laws.one_finite;
        multiple = e;
        normal = normal;
      })

  combination_small : (rows : List (List V)) (x : List V) → AreWide n rows → rows_size R rows ≤ 2 ^ 59 →
      IsExtreme R (IsCombination R n rows) x → IsNormal R x → row_size R x < 2 ^ 63
  combination_small rows x wide size extreme normal =
      let found = multiple_from_extreme laws n rows x wide extreme in
      omega (
        arith,
        multiple_small found.1 x found.4.0 normal found.4.1,
        ap (row_size R) found.3,
        rows_size-at R rows found.0 found.1 found.2,
      )

  pub combinations_printable : (rows answer : List (List V)) → AreWide n rows → rows_size R rows ≤ 2 ^ 59 →
      IsCanonical R (IsCombination R n rows) answer → All (IsPrintable R n) answer
  combinations_printable rows answer wide size h k d l = record {
    wide = IsCombination-length laws n rows (get_or answer k d) wide (h.extreme k d l).member;
    normal = h.normal k d l;
    small = combination_small rows (get_or answer k d) wide size (h.extreme k d l) (h.normal k d l);
  }
