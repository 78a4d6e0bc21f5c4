-- What is said of two cones, of two others with the same vectors.
-- Index: back, forget_same, cone_file_same, join_same, meet_same, outsider_same, bounds_stop_same, meet_stop_same,
-- answers_same, stops_same.
use Rattle.std.proofs.Common.{◌≡◌, ◌↔◌, ◌⊎◌, inl, inr, ℕ, Bool, true, false, List}
use Rattle.trop_theory.specs.Semiring.{Semiring, SemiringLaws}
use Rattle.trop_theory.specs.Numbers.{Numbering}
use Rattle.trop_theory.specs.Canonical.{IsOverLimit}
use Rattle.trop_theory.specs.Inequalities.{Inequality, Solves}
use Rattle.std.specs.Prelude.{take, length}
use Rattle.trop_theory.proofs.Canonical.{IsCanonical-same}
use Rattle.trop_cones.specs.Sets.{InJoin, InMeet, InForget}
use Rattle.trop_cones.specs.RowStops.{IsFirstOver, IsMeetStop}
use Rattle.trop_duality.proofs.External.{IsExternal-same}
use Rattle.trop_duality.proofs.Polars.{IsOverLimit-same}
use Rattle.trop_spelling.specs.declared.ring_kind.RingKind.{RingKind}
use Rattle.tplib_reply.specs.declared.stop.Stop.{Stop}
use Rattle.tplib_reply.specs.declared.stop.Stop.TheVariants.{Rows, Polar}
use Rattle.tplib_reply.specs.Meaning.{Cause, OverLimit, OutOfRange}
use Rattle.tplib_cones.specs.ConeFiles.{IsConeFile}
use Rattle.tplib_poly.specs.Bounds.{IsBoundsStop}
use Rattle.tplib_poly.specs.Outside.{IsOutsider}
use Rattle.tplib_poly.specs.declared.pair.PairCommand.{PairCommand}
use Rattle.tplib_poly.specs.declared.pair.PairCommand.TheVariants.{Include, Equal, Join, Meet}
use Rattle.tplib_poly.specs.Pairs.{NamesOutsider, IsIncludeAnswer, IsEqualAnswer, IsMeetRowsStop, PairStops, PairAnswers}

-- the two have the same vectors
abbrev pub AreSame : {V : Type 0} → (List V → Type 0) → (List V → Type 0) → Type 0
AreSame {V} C D = (x : List V) → C x ↔ D x

pub back : {V : Type 0} {C D : List V → Type 0} → AreSame C D → AreSame D C
back same x = ((same x).1, (same x).0)

pub forget_same : {V : Type 0} {R : Semiring V} {C D : List V → Type 0} → AreSame C D → (i : ℕ) →
    AreSame (InForget R C i) (InForget R D i)
forget_same same i x = (
  λ h. record { other = h.other; member = (same h.other).0 h.member; wide = h.wide; agrees = h.agrees },
  λ h. record { other = h.other; member = (same h.other).1 h.member; wide = h.wide; agrees = h.agrees },
)

pub cone_file_same : {V : Type 0} {R : Semiring V} (kind : RingKind) (N : Numbering V)
    (names : List (List ℕ)) {C D : List V → Type 0} → AreSame C D → (text : List ℕ) → IsConeFile kind R N names C text →
    IsConeFile kind R N names D text
cone_file_same {V} {R} kind N names {C} {D} same text h = record {
  answer = h.answer;
  canonical = IsCanonical-same C D same h.answer h.canonical;
  generates = λ x. (λ d. (h.generates x).0 ((same x).1 d), λ c. (same x).0 ((h.generates x).1 c));
  independent = h.independent;
  printed = h.printed;
}

module _ {V : Type 0} {R : Semiring V} (laws : SemiringLaws R) {A B C D : List V → Type 0} (first : AreSame A C)
    (second : AreSame B D) where
  pub join_same : AreSame (InJoin R A B) (InJoin R C D)
  join_same x = (
    λ h. record {
      left = h.left;
      right = h.right;
      in_first = (first h.left).0 h.in_first;
      in_second =
          (second h.right).0 h.in_second;
      sum = h.sum;
    },
    λ h. record {
      left = h.left;
      right = h.right;
      in_first = (first h.left).1 h.in_first;
      in_second =
          (second h.right).1 h.in_second;
      sum = h.sum;
    },
  )

  pub meet_same : AreSame (InMeet A B) (InMeet C D)
  meet_same x = (λ h. ((first x).0 h.0, (second x).0 h.1), λ h. ((first x).1 h.0, (second x).1 h.1))

  outsider_same : (row : List V) → IsOutsider R A B row → IsOutsider R C D row
  outsider_same row h = record {
    rows = h.rows;
    place = h.place;
    canonical = IsCanonical-same A C first h.rows h.canonical;
    is = h.is;
    first = record {
      within = h.first.within;
      outside = λ d m. h.first.outside d ((second _).1 m);
      before =
          λ j d l. (second _).0 (h.first.before j d l);
    };
  }

  names_same : (kind : RingKind) (N : Numbering V) (words text : List ℕ) → NamesOutsider kind R N words A B text →
      NamesOutsider kind R N words C D text
  names_same kind N words text h = record { row = h.row; outsider = outsider_same h.row h.outsider; line = h.line }

  bounds_stop_same : (n i k : ℕ) → IsBoundsStop R n B i k → IsBoundsStop R n D i k
  bounds_stop_same n i k h = record {
    rows = h.rows;
    canonical = IsCanonical-same B D second h.rows h.canonical;
    stop =
        h.stop;
  }

  in_part_same : (n : ℕ) (bounds : List (Inequality V)) →
      AreSame (InMeet A (Solves R n bounds)) (InMeet C (Solves R n bounds))
  in_part_same n bounds x = (λ h. ((first x).0 h.0, h.1), λ h. ((first x).1 h.0, h.1))

  meet_stop_same : (n : ℕ) (bounds : List (Inequality V)) (k : ℕ) → IsMeetStop R A n bounds k →
      IsMeetStop R C n bounds k
  meet_stop_same n bounds k h = record {
    within = h.within;
    over = IsOverLimit-same laws n (InMeet A (Solves R n (take k bounds))) (InMeet C (Solves R n (take k bounds)))
        (in_part_same n (take k bounds)) h.over;
    least = λ j below over. h.least j below (IsOverLimit-same laws n (InMeet C (Solves R n (take j bounds)))
        (InMeet A (Solves R n (take j bounds))) (back (in_part_same n (take j bounds))) over);
  }

module _ {V : Type 0} {R : Semiring V} (laws : SemiringLaws R) {A B C D : List V → Type 0} (first : AreSame A C)
    (second : AreSame B D) where
  meet_rows_same : (n k : ℕ) → IsMeetRowsStop R n A B k → IsMeetRowsStop R n C D k
  meet_rows_same n k h = record {
    bounds = h.bounds;
    unbounded = λ i j s. h.unbounded i j (bounds_stop_same laws (back first) (back second) n i j s);
    external = IsExternal-same R n B D second h.bounds h.external;
    stop = meet_stop_same laws first second n h.bounds k h.stop;
  }

  include_same : (kind : RingKind) (N : Numbering V) (says : Bool) (text : List ℕ) →
      IsIncludeAnswer kind R N A B says text → IsIncludeAnswer kind R N C D says text
  include_same kind N true text h = (λ x c. (second x).0 (h.0 x ((first x).1 c)), h.1)
  include_same kind N false text h = names_same laws first second kind N _ text h

  equal_no_same : (kind : RingKind) (N : Numbering V) (text : List ℕ) → IsEqualAnswer kind R N A B false text →
      IsEqualAnswer kind R N C D false text
  equal_no_same kind N text (inl h) = inl (names_same laws first second kind N _ text h)
  equal_no_same kind N text (inr h) = inr (
    λ x c. (second x).0 (h.0 x ((first x).1 c)),
    names_same laws second first kind N _ text h.1,
  )

  equal_same : (kind : RingKind) (N : Numbering V) (says : Bool) (text : List ℕ) →
      IsEqualAnswer kind R N A B says text → IsEqualAnswer kind R N C D says text
  equal_same kind N true text h = (
    λ x. (
      λ c. (second x).0 ((h.0 x).0 ((first x).1 c)),
      λ d. (first x).0 ((h.0 x).1 ((second x).1 d)),
    ),
    h.1,
  )
  equal_same kind N false text h = equal_no_same kind N text h

  pub answers_same : (command : PairCommand) (kind : RingKind) (N : Numbering V) (names : List (List ℕ)) (says : Bool)
      (text : List ℕ) → PairAnswers command kind R N names A B says text →
      PairAnswers command kind R N names C D says text
  answers_same Include kind N names says text h = include_same kind N says text h
  answers_same Equal kind N names says text h = equal_same kind N says text h
  answers_same Join kind N names true text h = cone_file_same kind N names (join_same laws first second) text h
  answers_same Join kind N names false text h = h
  answers_same Meet kind N names true text h = cone_file_same kind N names (meet_same laws first second) text h
  answers_same Meet kind N names false text h = h

  pub stops_same : (command : PairCommand) (n : ℕ) (cause : Cause) (stop : Stop) →
      PairStops command R n A B cause stop → PairStops command R n C D cause stop
  stops_same Include n cause stop h = h
  stops_same Equal n cause stop h = h
  stops_same Join n OverLimit (Rows k) h = (
    h.0,
    IsOverLimit-same laws n (InJoin R A B) (InJoin R C D)
        (join_same laws first second) h.1,
  )
  stops_same Join n _ stop h = absurd h
  stops_same Meet n OverLimit (Rows k) h = meet_rows_same n k h
  stops_same Meet n OverLimit (Polar i k) h = bounds_stop_same laws first second n i k h
  stops_same Meet n _ stop h = absurd h
