-- What one of `ext` and `int` wrote, the other one takes back: int_trip, ext_trip.
use Rattle.std.proofs.Common.{◌≡◌, ◌≤◌, ◌+◌, ℕ, false, true, List, [], ◌∷◌, codes, length, Some, refl, subst}
use Rattle.trop_theory.specs.Semiring.{Semiring, SemiringLaws}
use Rattle.trop_theory.specs.Vectors.{rows_size}
use Rattle.trop_theory.specs.Inequalities.{Inequality, Solves, system_size}
use Rattle.trop_theory.specs.Combinations.{IsCombination}
use Rattle.trop_theory.specs.Canonical.{IsCanonical}
use Rattle.trop_theory.proofs.MaxPlusLaws.{max_laws, max_number_laws, max_numeric_laws}
use Rattle.trop_theory.proofs.MinPlusLaws.{min_laws, min_number_laws, min_numeric_laws}
use Rattle.trop_theory.proofs.TruthValueLaws.{truth_laws, truth_number_laws}
use Rattle.trop_theory.proofs.Unique.{IsCanonical-unique}
use Rattle.trop_duality.specs.External.{IsExternal}
use Rattle.trop_duality.proofs.External.{IsExternal-unique}
use Rattle.trop_text.specs.Names.{AreNames}
use Rattle.trop_spelling.specs.declared.ring_kind.RingKind.TheVariants.{Max as MaxKind, Min as MinKind, Bool as BoolKind}
use Rattle.trop_spelling.specs.SpellingLaws.{truth_only}
use Rattle.trop_spelling.specs.Over.{Over, OverMax, OverMin, OverBool, Holds, max_three, min_three, bool_three}
use Rattle.trop_files.specs.FileLimits.{AreFileRows}
use Rattle.trop_files.specs.Generators.{Rows, GeneratorFile, greatest_number}
use Rattle.trop_files.specs.InequalityFiles.{Systems, InequalityFile, most_inequalities}
use Rattle.trop_files.proofs.ReadSizes.{gens_held, ineqs_held}
use Rattle.trop_words.specs.declared.command.Command.TheVariants.{Ext}
use Rattle.tplib_reply.specs.declared.stop.Stop.TheVariants as stop
use Rattle.tplib_reply.specs.Meaning.{OverLimit}
use Rattle.tplib_cones.specs.Reduce.{IsReducedFile}
use Rattle.tplib_cones.specs.Ext.{IsConvertedFile, IsConversionStop}
use Rattle.tplib_poly.specs.InRing.{answers_over}
use Rattle.tplib_poly.specs.Int.{int_ring}
use Rattle.tplib_cmd.specs.declared.status.Status.{Status}
use Rattle.tplib_cmd.specs.Ends.{Run, EndsWell, EndsWith}
use Rattle.tplib_laws.specs.RoundTrips.{plain_int, EndsRightly, HasSmallRows, FitsGenerators, IsBoundsOf, IsBoundsStopOf, HasFewBounds, FitsInequalities, IsFrontStopOf}
use Rattle.tplib_laws.proofs.HeaderNames.{gens_names, ineqs_names}
use Rattle.tplib_laws.proofs.Unstopped.{unstopped_few}
use Rattle.tplib_laws.proofs.Understood.{int_understood, ext_understood}
use Rattle.tplib_laws.proofs.Ends.{ends_rightly}
use Rattle.tplib_laws.proofs.Trips.{int_takes, ext_takes}

-- ---- what is known of the list that a text prints

module _ {V : Type 0} {R : Semiring V} (laws : SemiringLaws R) where
  rows_small : (C : List V → Type 0) (rows : List (List V)) → IsCanonical R C rows → HasSmallRows R C →
      rows_size R rows ≤ greatest_number
  rows_small C rows h fits = subst (λ r. rows_size R r ≤ greatest_number)
      (IsCanonical-unique laws C C fits.rows rows (λ x. (λ c. c, λ c. c)) fits.canonical h) fits.small

  same_bounds : (n : ℕ) (C : List V → Type 0) (bounds : List (Inequality V)) → IsExternal R n C bounds →
      (fits : HasFewBounds R n C) → fits.bounds ≡ bounds
  same_bounds n C bounds h fits =
      IsExternal-unique laws n C C fits.bounds bounds (λ x. (λ c. c, λ c. c)) fits.external h

  bounds_few : (n : ℕ) (C : List V → Type 0) (bounds : List (Inequality V)) → IsExternal R n C bounds →
      HasFewBounds R n C → length bounds ≤ most_inequalities
  bounds_few n C bounds h fits = subst (λ b. length b ≤ most_inequalities) (same_bounds n C bounds h fits) fits.few

  bounds_small : (n : ℕ) (C : List V → Type 0) (bounds : List (Inequality V)) → IsExternal R n C bounds →
      HasFewBounds R n C → system_size R bounds ≤ greatest_number
  bounds_small n C bounds h fits = subst (λ b. system_size R b ≤ greatest_number) (same_bounds n C bounds h fits)
      fits.small

-- ---- over the semiring of the first file

module _ (names : List (List ℕ)) (are : AreNames names) (few_names : length names ≤ 63) (text : List ℕ) (run : Run)
    (status : Status) (known : run.in_before.left ≡ Some text) where
  int_over : (system : Over Systems)
      (unstopped : (k : ℕ) → IsConversionStop (record { names = names; inequalities = system }) k → ⊥) →
      IsConvertedFile (record { names = names; inequalities = system }) text →
      FitsGenerators (record { names = names; inequalities = system }) → EndsWith (codes "int" ∷ []) run status →
      EndsRightly (IsBoundsOf (record { names = names; inequalities = system }))
      (IsBoundsStopOf (record { names = names; inequalities = system })) run status
  int_over (OverMax xs) unstopped c fits h =
      let n = length names + 1 in
      let back = int_takes max_laws max_number_laws MaxKind false (max_numeric_laws, refl) {over = max_three.over}
      max_three.each names are few_names xs text c (unstopped_few _ n xs unstopped c.answer c.canonical)
      (rows_small max_laws (Solves _ n xs) c.answer c.canonical fits) in
      ends_rightly plain_int text _ _ _ back run known status (int_understood run status h)
  int_over (OverMin xs) unstopped c fits h =
      let n = length names + 1 in
      let back = int_takes min_laws min_number_laws MinKind true (min_numeric_laws, refl) {over = min_three.over}
      min_three.each names are few_names xs text c (unstopped_few _ n xs unstopped c.answer c.canonical)
      (rows_small min_laws (Solves _ n xs) c.answer c.canonical fits) in
      ends_rightly plain_int text _ _ _ back run known status (int_understood run status h)
  int_over (OverBool xs) unstopped c fits h =
      let n = length names + 1 in
      let back = int_takes truth_laws truth_number_laws BoolKind false truth_only {over = bool_three.over}
      bool_three.each names are few_names xs text c (unstopped_few _ n xs unstopped c.answer c.canonical)
      (rows_small truth_laws (Solves _ n xs) c.answer c.canonical fits) in
      ends_rightly plain_int text _ _ _ back run known status (int_understood run status h)

  ext_over : (line : ℕ) (rows : Over Rows) → Holds (λ V kind R N xs. AreFileRows R (length names + 1) xs) rows →
      answers_over int_ring names rows true text →
      FitsInequalities (record { names = names; vars_line = line; rows = rows }) →
      EndsWith (codes "ext" ∷ []) run status →
      EndsRightly (IsReducedFile (record { names = names; vars_line = line; rows = rows }))
      (IsFrontStopOf (record { names = names; vars_line = line; rows = rows })) run status
  ext_over line (OverMax xs) held c fits h =
      let n = length names + 1 in
      let cone = IsCombination _ n xs in
      let back = ext_takes max_laws max_number_laws MaxKind false (max_numeric_laws, refl) {over = max_three.over}
      max_three.each names are few_names line xs held.wide text c
      (bounds_few max_laws n cone c.bounds c.external fits) (bounds_small max_laws n cone c.bounds c.external fits) in
      ends_rightly Ext text _ _ _ back run known status (ext_understood run status h)
  ext_over line (OverMin xs) held c fits h =
      let n = length names + 1 in
      let cone = IsCombination _ n xs in
      let back = ext_takes min_laws min_number_laws MinKind true (min_numeric_laws, refl) {over = min_three.over}
      min_three.each names are few_names line xs held.wide text c
      (bounds_few min_laws n cone c.bounds c.external fits) (bounds_small min_laws n cone c.bounds c.external fits) in
      ends_rightly Ext text _ _ _ back run known status (ext_understood run status h)
  ext_over line (OverBool xs) held c fits h =
      let n = length names + 1 in
      let cone = IsCombination _ n xs in
      let back = ext_takes truth_laws truth_number_laws BoolKind false truth_only {over = bool_three.over}
      bool_three.each names are few_names line xs held.wide text c
      (bounds_few truth_laws n cone c.bounds c.external fits)
      (bounds_small truth_laws n cone c.bounds c.external fits) in
      ends_rightly Ext text _ _ _ back run known status (ext_understood run status h)

-- ---- the laws

pub int_trip : (run other : Run) (status : Status) (first : EndsWell Ext run true) →
    FitsGenerators first.answered.said → other.in_before.left ≡ Some first.text →
    EndsWith (codes "int" ∷ []) other status →
    EndsRightly (IsBoundsOf first.answered.said) (IsBoundsStopOf first.answered.said) other status
int_trip run other status first fits known h =
    let file : InequalityFile = first.answered.said in
    let held = ineqs_held _ file first.answered.spelled in
    int_over file.names (ineqs_names _ file first.answered.spelled) held.names_few first.text other status known
    file.inequalities (λ k. first.answered.unstopped OverLimit (stop.Rows k)) first.answered.answer fits h

pub ext_trip : (run other : Run) (status : Status) (first : EndsWell plain_int run true) →
    FitsInequalities first.answered.said → other.in_before.left ≡ Some first.text →
    EndsWith (codes "ext" ∷ []) other status →
    EndsRightly (IsReducedFile first.answered.said) (IsFrontStopOf first.answered.said) other status
ext_trip run other status first fits known h =
    let file : GeneratorFile = first.answered.said in
    let held = gens_held _ file first.answered.spelled in
    ext_over file.names (gens_names _ file first.answered.spelled) held.names_few first.text other status known
    file.vars_line file.rows held.rows_are first.answered.answer fits h
