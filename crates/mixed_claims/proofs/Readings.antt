-- Terms as they are read: where they stand, and how large their numbers are.
use Rattle.std.proofs.Common.{◌≡◌, ◌<◌, ◌*◌, ◌^◌, ℕ, zero, suc, ℤ, pos, negsuc, neg_ℤ, List, [], ◌∷◌, map, length, refl, sym, ap, ◌∙◌, subst, subst₂, arith}
use Rattle.std.specs.Prelude.{◌↔◌, All, IsTrue, false, unsigned_abs}
use Rattle.trop_theory.specs.Semiring.{Semiring, SemiringLaws, Le}
use Rattle.trop_theory.specs.Vectors.{dot, AreWide}
use Rattle.trop_theory.specs.Numbers.{Numbering, NumericLaws}
use Rattle.trop_theory.specs.Inequalities.{IsIn, IsTrueAt, IsValidOn}
use Rattle.trop_theory.specs.Combinations.{IsCombination}
use Rattle.trop_cones.proofs.Cones.{valid_is_rows}
use Rattle.prog_theory.specs.States as theory
use Rattle.prog_theory.specs.Within.{IsNumberWithin}
use Rattle.prog_tree.specs.Terms.{term_of}
use Rattle.prog_tree.specs.declared.term.Term.{Term}
use Rattle.cone_reports.specs.Sides.{side, at_most}
use Rattle.cone_reports.proofs.Sides.{length-side}
use Rattle.cone_reports.proofs.Truths.{true_by_sums}
use Rattle.mixed_theory.specs.Twins.{opposite_term}
use Rattle.mixed_theory.proofs.Twins.{opposite_within}
use Rattle.mixed_claims.specs.declared.sums.Reading.{Reading}
use Rattle.mixed_claims.specs.declared.sums.Reading.TheVariants.{Own, Opposite}
use Rattle.mixed_claims.specs.Terms.{IsTermOf, read_term, read_terms}

pub abs-neg : (a : ℤ) → unsigned_abs (neg_ℤ a) ≡ unsigned_abs a
abs-neg (pos zero) = refl
abs-neg (pos (suc n)) = refl
abs-neg (negsuc n) = refl

pub read_coord : (reading : Reading) (d : ℕ) (t : Term) → IsTermOf d (term_of t)
    → (read_term reading d t).coord < suc (2 * d)
read_coord Own d t f = omega (arith, f.0)
read_coord Opposite d t f = omega (arith, opposite_within d t.coord (2 * d) (omega arith) f.0)

pub read_number : (reading : Reading) (d : ℕ) (t : Term) → IsTermOf d (term_of t)
    → IsNumberWithin (2 ^ 31) (read_term reading d t)
read_number Own d t f = f.1
read_number Opposite d t f = omega (arith, abs-neg t.add, f.1)

-- opposites of terms that stand for those of the code
pub opposites_read : (d : ℕ) (ts : List Term) → read_terms Opposite d ts ≡ map (opposite_term d) (map term_of ts)
opposites_read d [] = refl
opposites_read d (t ∷ ts) = ap (λ l. opposite_term d (term_of t) ∷ l) (opposites_read d ts)

module _ {V : Type 0} {R : Semiring V} {N : Numbering V} {reversed : _} (laws : SemiringLaws R)
    (numbers : NumericLaws R N reversed) (vars : ℕ) where
  -- an inequality between sums of terms is judged at a row by the sums
  pub below_by_sums : (row : List V) → length row ≡ suc vars → (ls rs : List theory.Term) (x y : V) (b : _)
      → x ≡ dot R (side R N (suc vars) ls) row → y ≡ dot R (side R N (suc vars) rs) row → IsTrue b ↔ Le R x y
      → IsTrue b ↔ IsTrueAt R (at_most false (side R N (suc vars) ls) (side R N (suc vars) rs)) row
  below_by_sums row long ls rs x y b is_x is_y h =
      let t = true_by_sums laws false (side R N (suc vars) ls) (side R N (suc vars) rs) row
      (length-side laws numbers vars ls ∙ sym long) (length-side laws numbers vars rs ∙ sym long) in
      let o : IsTrue b ↔ Le R (dot R (side R N (suc vars) ls) row) (dot R (side R N (suc vars) rs) row) =
      subst₂ (λ u v. IsTrue b ↔ Le R u v) is_x is_y h in
      (λ k. t.1 (o.0 k), λ k. o.1 (t.0 k))

  sides_in : (ls rs : List theory.Term)
      → IsIn (suc vars) (at_most false (side R N (suc vars) ls) (side R N (suc vars) rs))
  sides_in ls rs = record { left = length-side laws numbers vars ls; right = length-side laws numbers vars rs }

  -- it is valid on the combinations of rows where it is true at each of them
  pub valid_by_rows : (n : ℕ) → n ≡ suc vars → (ls rs : List theory.Term) (rows others : List (List V)) (b : _)
      → AreWide n rows → others ≡ rows
      → IsTrue b ↔ All (IsTrueAt R (at_most false (side R N (suc vars) ls) (side R N (suc vars) rs))) others
      → IsTrue b ↔ IsValidOn R (IsCombination R n rows) (at_most false (side R N n ls) (side R N n rs))
  valid_by_rows n is ls rs rows others b wide same h =
      let p = at_most false (side R N (suc vars) ls) (side R N (suc vars) rs) in
      let e = valid_is_rows laws (suc vars) p (sides_in ls rs) rows (subst (λ m. AreWide m rows) is wide) in
      let k = subst (λ g. IsTrue b ↔ All (IsTrueAt R p) g) same h in
      subst (λ m. IsTrue b ↔ IsValidOn R (IsCombination R m rows) (at_most false (side R N m ls) (side R N m rs)))
      (sym is) (λ t. e.1 (k.0 t), λ t. k.1 (e.0 t))
