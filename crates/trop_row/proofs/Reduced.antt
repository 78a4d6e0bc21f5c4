-- The steps of `reduce` together.
use Rattle.std.proofs.Common.{◌≡◌, ℕ, List, length, sym, subst}
use Rattle.std.specs.Prelude.{All, AllPairs, ◌↔◌}
use Rattle.trop_theory.specs.Semiring.{Semiring, SemiringLaws}
use Rattle.trop_theory.specs.Normal.{IsNormal}
use Rattle.trop_theory.specs.Combinations.{IsCombination, SameCone, AreIndependent}
use Rattle.trop_theory.specs.Canonical.{RowBelow, IsCanonical}
use Rattle.trop_theory.proofs.Canonical.{IsCanonical-same, IsCanonical-from_alone}
use Rattle.trop_theory.proofs.SameCones.{IsCombination-same}
use Rattle.trop_theory.specs.Vectors.{AreWide}

pub record Reduced {V : Type 0} (R : Semiring V) (n : ℕ) (rows out : List (List V)) : Type 0 where
  pub canonical : IsCanonical R (IsCombination R n rows) out
  pub same : (x : List V) → IsCombination R n rows x ↔ IsCombination R n out x
  pub independent : AreIndependent R n out (length out)

module _ {V : Type 0} {R : Semiring V} (laws : SemiringLaws R) where
  reduced_here : (n : ℕ) (rows first second out : List (List V)) → AreWide n rows → AreWide n first →
      SameCone R n rows first → AreWide n second → SameCone R n first second →
      ((x : List V) → IsCombination R n second x ↔ IsCombination R n out x) → AreWide n out → All (IsNormal R) out →
      AllPairs (RowBelow R) out → AreIndependent R n out (length out) → Reduced R n rows out
  reduced_here n rows first second out w w1 normal w2 s last wide is_normal ascending alone = record {
    canonical = IsCanonical-same (IsCombination R n out) (IsCombination R n rows) (λ x. ((both x).1, (both x).0)) out
        (IsCanonical-from_alone laws n out wide ascending is_normal alone);
    same = both;
    independent = alone;
  }
    where
      both : (x : List V) → IsCombination R n rows x ↔ IsCombination R n out x
      both x =
          let a = IsCombination-same laws n rows first w w1 normal x in
          let b = IsCombination-same laws n first second w1 w2 s x in
          (λ h. (last x).0 (b.0 (a.0 h)), λ h. a.1 (b.1 ((last x).1 h)))

  pub reduced : (n width : ℕ) (gens rows first second out result : List (List V)) → n ≡ width → rows ≡ gens →
      result ≡ out → AreWide width gens → AreWide n first → SameCone R n rows first → AreWide n second →
      SameCone R n first second → ((x : List V) → IsCombination R n second x ↔ IsCombination R n out x) →
      AreWide n out → All (IsNormal R) out → AllPairs (RowBelow R) out → AreIndependent R n out (length out) →
      Reduced R width gens result
  reduced n width gens rows first second out result en eg er w w1 normal w2 s last wide is_normal ascending alone =
      subst (λ m. Reduced R m gens result) en
      (subst (λ v. Reduced R n v result) eg
      (subst (λ v. Reduced R n rows v) (sym er)
      (reduced_here n rows first second out (subst (λ m. AreWide m rows) (sym en) (subst (AreWide width) (sym eg) w)) w1
      normal w2 s last wide is_normal ascending alone)))
