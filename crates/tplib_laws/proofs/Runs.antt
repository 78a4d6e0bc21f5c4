-- Equal bytes are equal cones, of the files that two runs read: equal_solutions, equal_cones.
use Rattle.std.proofs.Common.{◌≡◌, ◌≤◌, ◌+◌, ℕ, false, true, List, length, refl, sym, subst, arith}
use Rattle.std.specs.Prelude.{◌↔◌}
use Rattle.trop_theory.specs.Inequalities.{Solves}
use Rattle.trop_theory.specs.Combinations.{IsCombination}
use Rattle.trop_theory.proofs.MaxPlusLaws.{max_laws, max_number_laws, max_numeric_laws}
use Rattle.trop_theory.proofs.MinPlusLaws.{min_laws, min_number_laws, min_numeric_laws}
use Rattle.trop_theory.proofs.TruthValueLaws.{truth_laws, truth_number_laws}
use Rattle.trop_text.specs.Pieces.{Piece}
use Rattle.trop_spelling.specs.declared.ring_kind.RingKind.TheVariants.{Max as MaxKind, Min as MinKind, Bool as BoolKind}
use Rattle.trop_spelling.specs.SpellingLaws.{truth_only}
use Rattle.trop_spelling.specs.Over.{Over, OverMax, OverMin, OverBool, Holds}
use Rattle.trop_files.specs.FileLimits.{AreFileRows, AreFileInequalities}
use Rattle.trop_files.specs.Generators.{Rows, GeneratorFile, SpellsGenerators}
use Rattle.trop_files.specs.InequalityFiles.{Systems, InequalityFile, SpellsInequalities}
use Rattle.trop_files.proofs.ReadSizes.{gens_held, ineqs_held}
use Rattle.tplib_cones.specs.Reduce.{IsReduced, IsReducedFile}
use Rattle.tplib_cones.specs.Ext.{IsConverted, IsConvertedFile}
use Rattle.tplib_laws.specs.Both.{HoldsOfBoth, AreOverOne}
use Rattle.tplib_laws.specs.EqualBytes.{HaveOneHeader, HaveEqualSolutions, HaveOneGeneratorHeader, HaveEqualCones}
use Rattle.tplib_laws.proofs.Texts.{converted_texts, reduced_texts}

module _ (names : List (List ℕ)) (few : length names ≤ 63) (s t : List ℕ) where
  abbrev AreRead : Over Systems → Type 0
  AreRead = Holds (λ V kind R N xs. AreFileInequalities R (length names + 1) xs)

  abbrev Converts : List ℕ → Over Systems → Type 0
  Converts text = Holds (λ V kind R N xs. IsConverted kind R N names xs text)

  solutions : (xs ys : Over Systems) → AreOverOne xs ys → AreRead xs → AreRead ys → Converts s xs → Converts t ys
      → (s ≡ t) ↔ HoldsOfBoth (λ V kind R N xs ys. (x : List V) →
      Solves R (length names + 1) xs x ↔ Solves R (length names + 1) ys x) xs ys
  solutions (OverMax xs) (OverMax ys) one a b h k =
      converted_texts max_laws max_number_laws MaxKind false (max_numeric_laws, refl) names xs ys s t few
      (let small = a.small in omega arith) (let small = b.small in omega arith) h k
  solutions (OverMin xs) (OverMin ys) one a b h k =
      converted_texts min_laws min_number_laws MinKind true (min_numeric_laws, refl) names xs ys s t few
      (let small = a.small in omega arith) (let small = b.small in omega arith) h k
  solutions (OverBool xs) (OverBool ys) one a b h k =
      converted_texts truth_laws truth_number_laws BoolKind false truth_only names xs ys s t few
      (let small = a.small in omega arith) (let small = b.small in omega arith) h k
  solutions (OverMax xs) (OverMin ys) one a b h k = absurd one
  solutions (OverMax xs) (OverBool ys) one a b h k = absurd one
  solutions (OverMin xs) (OverMax ys) one a b h k = absurd one
  solutions (OverMin xs) (OverBool ys) one a b h k = absurd one
  solutions (OverBool xs) (OverMax ys) one a b h k = absurd one
  solutions (OverBool xs) (OverMin ys) one a b h k = absurd one

  abbrev AreRows : Over Rows → Type 0
  AreRows = Holds (λ V kind R N xs. AreFileRows R (length names + 1) xs)

  abbrev Reduces : List ℕ → Over Rows → Type 0
  Reduces text = Holds (λ V kind R N xs. IsReduced kind R N names xs text)

  cones : (xs ys : Over Rows) → AreOverOne xs ys → AreRows xs → AreRows ys → Reduces s xs → Reduces t ys
      → (s ≡ t) ↔ HoldsOfBoth (λ V kind R N xs ys. (x : List V) →
      IsCombination R (length names + 1) xs x ↔ IsCombination R (length names + 1) ys x) xs ys
  cones (OverMax xs) (OverMax ys) one a b h k = reduced_texts max_laws max_number_laws MaxKind false
      (max_numeric_laws, refl) names xs ys s t a.wide b.wide (let small = a.small in omega arith)
      (let small = b.small in omega arith) h k
  cones (OverMin xs) (OverMin ys) one a b h k = reduced_texts min_laws min_number_laws MinKind true
      (min_numeric_laws, refl) names xs ys s t a.wide b.wide (let small = a.small in omega arith)
      (let small = b.small in omega arith) h k
  cones (OverBool xs) (OverBool ys) one a b h k = reduced_texts truth_laws truth_number_laws BoolKind false truth_only
      names xs ys s t a.wide b.wide (let small = a.small in omega arith) (let small = b.small in omega arith) h k
  cones (OverMax xs) (OverMin ys) one a b h k = absurd one
  cones (OverMax xs) (OverBool ys) one a b h k = absurd one
  cones (OverMin xs) (OverMax ys) one a b h k = absurd one
  cones (OverMin xs) (OverBool ys) one a b h k = absurd one
  cones (OverBool xs) (OverMax ys) one a b h k = absurd one
  cones (OverBool xs) (OverMin ys) one a b h k = absurd one

pub equal_solutions : {us vs : List Piece} (file other : InequalityFile) (s t : List ℕ) → HaveOneHeader file other →
    SpellsInequalities us file → SpellsInequalities vs other
    → IsConvertedFile file s → IsConvertedFile other t → (s ≡ t) ↔ HaveEqualSolutions file other
equal_solutions {us} {vs} file other s t one a b h k =
    let first = ineqs_held us file a in
    let second = ineqs_held vs other b in
    solutions file.names first.names_few s t file.inequalities other.inequalities one.semiring first.system_is
    (subst (λ names. Holds (λ V kind R N xs. AreFileInequalities R (length names + 1) xs) other.inequalities)
    (sym one.names) second.system_is) h
    (subst (λ names. Holds (λ V kind R N xs. IsConverted kind R N names xs t) other.inequalities) (sym one.names) k)

pub equal_cones : {us vs : List Piece} (file other : GeneratorFile) (s t : List ℕ) → HaveOneGeneratorHeader file other →
    SpellsGenerators us file → SpellsGenerators vs other
    → IsReducedFile file s → IsReducedFile other t → (s ≡ t) ↔ HaveEqualCones file other
equal_cones {us} {vs} file other s t one a b h k =
    let first = gens_held us file a in
    let second = gens_held vs other b in
    cones file.names first.names_few s t file.rows other.rows one.semiring first.rows_are
    (subst (λ names. Holds (λ V kind R N xs. AreFileRows R (length names + 1) xs) other.rows)
    (sym one.names) second.rows_are) h
    (subst (λ names. Holds (λ V kind R N xs. IsReduced kind R N names xs t) other.rows) (sym one.names) k)
