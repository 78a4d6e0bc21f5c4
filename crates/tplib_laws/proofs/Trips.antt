-- What the printed list of a cone is taken back as, over any of the three semirings.
use Rattle.std.proofs.Common.{◌≡◌, ◌≤◌, ◌+◌, ℕ, Bool, true, false, List, length, refl, sym, subst}
use Rattle.std.specs.Prelude.{◌↔◌}
use Rattle.trop_theory.specs.Semiring.{Semiring, SemiringLaws}
use Rattle.trop_theory.specs.Numbers.{Numbering, NumberLaws}
use Rattle.trop_theory.specs.Vectors.{AreWide, rows_size}
use Rattle.trop_theory.specs.Inequalities.{Inequality, Solves, system_size}
use Rattle.trop_theory.specs.Combinations.{IsCombination}
use Rattle.trop_theory.proofs.Combinations.{IsCombination-length}
use Rattle.trop_theory.proofs.Canonical.{IsCanonical-same}
use Rattle.trop_duality.proofs.External.{IsExternal-same}
use Rattle.trop_duality.proofs.Bipolar.{IsIn-external}
use Rattle.trop_text.specs.Names.{AreNames}
use Rattle.trop_spelling.specs.declared.ring_kind.RingKind.{RingKind}
use Rattle.trop_spelling.specs.Spelling.{KindLaws}
use Rattle.trop_spelling.specs.Over.{Embedding, IsOneOfThree, Holds}
use Rattle.trop_spelling.proofs.EachKind.{Holds-over}
use Rattle.trop_files.specs.Generators.{Rows, GeneratorFile, most_generators, greatest_number}
use Rattle.trop_files.specs.InequalityFiles.{Systems, InequalityFile, most_inequalities}
use Rattle.trop_files.proofs.WrittenFiles.{gens_read_back}
use Rattle.trop_files.proofs.WrittenSystems.{system_read_back}
use Rattle.trop_words.specs.declared.command.Command.TheVariants.{Ext}
use Rattle.tplib_reply.specs.declared.stop.Stop.{Stop}
use Rattle.tplib_reply.specs.declared.stop.Stop.TheVariants as stop
use Rattle.tplib_reply.specs.Meaning.{Cause, OverLimit, OutOfRange, at_rows, always_yes}
use Rattle.tplib_cones.specs.ConeFiles.{IsConeFile}
use Rattle.tplib_cones.specs.Reduce.{IsReduced, IsReducedFile}
use Rattle.tplib_cones.specs.Ext.{IsConverted, IsConvertedFile, IsConversionStop}
use Rattle.tplib_poly.specs.Bounds.{IsBoundsFile, IsBoundsStop}
use Rattle.tplib_poly.specs.Int.{int_ring}
use Rattle.trop_cones.specs.RowStops.{IsRowsStop}
use Rattle.tplib_laws.specs.RoundTrips.{plain_int, IsBoundsOf, IsBoundsStopOf, IsFrontStop, IsFrontStopOf}
use Rattle.tplib_laws.proofs.Readings.{gens_once, ineqs_once}
use Rattle.tplib_laws.proofs.TextLengths.{gens_short}
use Rattle.tplib_laws.proofs.ListLengths.{external_short}
use Rattle.tplib_laws.proofs.Ends.{IsTakenBack}

-- what holds over one of the three is what is said there
Holds-at : {V : Type 0} {kind : RingKind} {R : Semiring V} {N : Numbering V} {over : Embedding V} →
    IsOneOfThree V kind R N over → {F : Type 0 → Type 0}
    (P : (V : Type 0) → RingKind → Semiring V → Numbering V → F V → Type 0) (x : F V) → Holds P (over F x) →
    P V kind R N x
Holds-at one {F} P = one (λ V kind R N over. (x : F V) → Holds P (over F x) → P V kind R N x) (λ x h. h) (λ x h. h)
    (λ x h. h)

-- ---- files of the same cone

module _ {V : Type 0} (kind : RingKind) (R : Semiring V) (N : Numbering V) (names : List (List ℕ))
    (C D : List V → Type 0) (same : (x : List V) → C x ↔ D x) where
  bounds_file-same : (text : List ℕ) → IsBoundsFile kind R N names C text → IsBoundsFile kind R N names D text
  bounds_file-same text h = record {
    bounds = h.bounds;
    external = IsExternal-same R (length names + 1) C D same h.bounds h.external;
    solved = λ x. (λ d. (h.solved x).0 ((same x).1 d), λ s. (same x).0 ((h.solved x).1 s));
    printed = h.printed;
  }

  bounds_stop-same : (i k : ℕ) → IsBoundsStop R (length names + 1) C i k → IsBoundsStop R (length names + 1) D i k
  bounds_stop-same i k h = record {
    rows = h.rows;
    canonical = IsCanonical-same C D same h.rows h.canonical;
    stop = h.stop;
  }

  cone_file-same : (text : List ℕ) → IsConeFile kind R N names C text → IsConeFile kind R N names D text
  cone_file-same text h = record {
    answer = h.answer;
    canonical = IsCanonical-same C D same h.answer h.canonical;
    generates = λ x. (λ d. (h.generates x).0 ((same x).1 d), λ c. (same x).0 ((h.generates x).1 c));
    independent = h.independent;
    printed = h.printed;
  }

-- ---- lists that are taken back

module _ {V : Type 0} {R : Semiring V} {N : Numbering V} (laws : SemiringLaws R) (numbers : NumberLaws R N)
    (kind : RingKind) (reversed : Bool) (known : KindLaws kind R N reversed) {over : Embedding V}
    (one : IsOneOfThree V kind R N over) (names : List (List ℕ)) (are : AreNames names)
    (few_names : length names ≤ 63) where
  abbrev solutions : List (Inequality V) → List V → Type 0
  solutions system = Solves R (length names + 1) system

  abbrev combinations : List (List V) → List V → Type 0
  combinations rows = IsCombination R (length names + 1) rows

  abbrev rows_file : ℕ → List (List V) → GeneratorFile
  rows_file line rows = record { names = names; vars_line = line; rows = over Rows rows }

  abbrev system_file : List (Inequality V) → InequalityFile
  system_file system = record { names = names; inequalities = over Systems system }

  module _ (system : List (Inequality V)) (text : List ℕ) (c : IsConverted kind R N names system text) where
    back : (x : List V) → combinations c.answer x ↔ solutions system x
    back x = ((c.generates x).1, (c.generates x).0)

    answer_wide : AreWide (length names + 1) c.answer
    answer_wide k d l = (c.canonical.extreme k d l).member.wide

    rows_right : (says : Bool) (answer : List ℕ) → int_ring.answers names V kind R N c.answer says answer →
        (says ≡ true) × IsBoundsOf (system_file system) answer
    rows_right true answer h = (
      refl,
      Holds-over one (λ V kind R N system. IsBoundsFile kind R N names (Solves R (length names + 1) system) answer)
          system (bounds_file-same kind R N names (combinations c.answer) (solutions system) back answer h),
    )
    rows_right false answer h = absurd h

    rows_stop : (cause : Cause) (s : Stop) → int_ring.stops names V kind R N c.answer cause s →
        (cause ≡ OverLimit) × IsBoundsStopOf (system_file system) s
    rows_stop OverLimit (stop.Polar i k) h = (
      refl,
      Holds-over one (λ V kind R N system. IsBoundsStop R (length names + 1) (Solves R (length names + 1) system) i k)
          system (bounds_stop-same kind R N names (combinations c.answer) (solutions system) back i k h),
    )
    rows_stop OverLimit (stop.Rows k) h = absurd h
    rows_stop OverLimit (stop.Lean k j) h = absurd h
    rows_stop OverLimit (stop.At place) h = absurd h
    rows_stop OverLimit (stop.PointPolar p i k) h = absurd h
    rows_stop OutOfRange s h = absurd h

    pub int_takes : length c.answer ≤ most_generators → rows_size R c.answer ≤ greatest_number →
        IsTakenBack plain_int text (rows_file 3 c.answer) (IsBoundsOf (system_file system))
        (IsBoundsStopOf (system_file system))
    int_takes few small =
        let spelled = gens_read_back kind reversed R N numbers known one names c.answer are few_names
        c.canonical.normal answer_wide few small in
        subst (λ t. IsTakenBack plain_int t (rows_file 3 c.answer) (IsBoundsOf (system_file system))
        (IsBoundsStopOf (system_file system))) (sym c.printed) (record {
          read = refl;
          short = gens_short numbers kind reversed known names are few_names c.answer answer_wide few small;
          spelled = spelled;
          only = λ other h. gens_once _ (rows_file 3 c.answer) other spelled h;
          sound = λ fault h. h.first.spelled (rows_file 3 c.answer) spelled;
          right = λ says answer h. rows_right says answer
              (Holds-at one (λ V kind R N rows. int_ring.answers names V kind R N rows says answer) c.answer h);
          stops = λ cause s h. rows_stop cause s
              (Holds-at one (λ V kind R N rows. int_ring.stops names V kind R N rows cause s) c.answer h);
        })

  module _ (line : ℕ) (rows : List (List V)) (wide : AreWide (length names + 1) rows) (text : List ℕ)
      (c : IsBoundsFile kind R N names (combinations rows) text) where
    forth : (x : List V) → solutions c.bounds x ↔ combinations rows x
    forth x = ((c.solved x).1, (c.solved x).0)

    lengths : (x : List V) → combinations rows x → length x ≡ length names + 1
    lengths x h = IsCombination-length laws (length names + 1) rows x wide h

    bounds_right : (says : Bool) (answer : List ℕ) → always_yes IsConvertedFile (system_file c.bounds) says answer →
        (says ≡ true) × IsReducedFile (rows_file line rows) answer
    bounds_right true answer h = (
      refl,
      Holds-over one (λ V kind R N rows. IsReduced kind R N names rows answer) rows
          (cone_file-same kind R N names (solutions c.bounds) (combinations rows) forth answer
          (Holds-at one (λ V kind R N system. IsConverted kind R N names system answer) c.bounds h)),
    )
    bounds_right false answer h = absurd h

    bounds_stop : (cause : Cause) (s : Stop) → at_rows IsConversionStop (system_file c.bounds) cause s →
        (cause ≡ OverLimit) × IsFrontStopOf (rows_file line rows) s
    bounds_stop OverLimit (stop.Rows k) h = (
      refl,
      Holds-over one (λ V kind R N rows. IsFrontStop R (length names + 1) (IsCombination R (length names + 1) rows) k)
          rows (record {
            bounds = c.bounds;
            external = c.external;
            stop = Holds-at one (λ V kind R N system. IsRowsStop R (length names + 1) system k) c.bounds h;
          }),
    )
    bounds_stop OverLimit (stop.Polar i k) h = absurd h
    bounds_stop OverLimit (stop.Lean k j) h = absurd h
    bounds_stop OverLimit (stop.At place) h = absurd h
    bounds_stop OverLimit (stop.PointPolar p i k) h = absurd h
    bounds_stop OutOfRange s h = absurd h

    pub ext_takes : length c.bounds ≤ most_inequalities → system_size R c.bounds ≤ greatest_number →
        IsTakenBack Ext text (system_file c.bounds) (IsReducedFile (rows_file line rows))
        (IsFrontStopOf (rows_file line rows))
    ext_takes few small =
        let wide = IsIn-external laws (length names + 1) (combinations rows) lengths c.bounds c.external in
        let spelled = system_read_back kind reversed R N known numbers laws.zero_neutral one names are few_names
        c.bounds wide few small in
        subst (λ t. IsTakenBack Ext t (system_file c.bounds) (IsReducedFile (rows_file line rows))
        (IsFrontStopOf (rows_file line rows))) (sym c.printed) (record {
          read = refl;
          short = external_short laws numbers kind reversed known names are few_names (combinations rows) lengths
              c.bounds c.external few small;
          spelled = spelled;
          only = λ other h. ineqs_once _ (system_file c.bounds) other spelled h;
          sound = λ fault h. h.first.spelled (system_file c.bounds) spelled;
          right = bounds_right;
          stops = bounds_stop;
        })
