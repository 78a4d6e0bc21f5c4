-- What is asked of two cones: their files, where they stop, and the same of two lists of rows.
-- Index: kept_same, represented_within, represented_same, include_replies, equal_replies, join_replies, join_refused,
-- meet_replies, meet_refused, meet_replied, meet_refused_in, lists_replied, lists_refused.
use Rattle.std.proofs.Common.{◌≡◌, ◌+◌, ◌∙◌, ◌↔◌, ℕ, Bool, true, List, length, Result, Ok, Err, IfOk, sym, subst}
use Rattle.std.specs.Prelude.{IfErr, OnOk}
use Rattle.trop_theory.specs.Semiring.{Semiring, SemiringLaws}
use Rattle.trop_theory.specs.Numbers.{Numbering}
use Rattle.trop_theory.specs.Combinations.{IsCombination}
use Rattle.trop_theory.specs.Canonical.{IsOverLimit}
use Rattle.trop_theory.proofs.Distinct.{within_limit}
use Rattle.trop_cones.specs.Sets.{InJoin, InMeet}
use Rattle.trop_cones.specs.RowStops.{IsMeetStop}
use Rattle.trop_cones.specs.Represents.{Represents}
use Rattle.trop_duality.specs.External.{IsExternal}
use Rattle.trop_duality.specs.PolarStops.{IsPolarStop}
use Rattle.trop_duality.proofs.External.{IsExternal-unique}
use Rattle.trop_spelling.specs.declared.ring_kind.RingKind.{RingKind}
use Rattle.trop_files.specs.PairFiles.{Two}
use Rattle.trop_poly.specs.declared.error.PolyErr.{PolyErr}
use Rattle.trop_poly.specs.declared.error.PolyErr.TheVariants as errors
use Rattle.trop_poly.specs.Refusals.{IsConeRefusal, IsMeetRefusal, IsMeetStopOf}
use Rattle.tplib_reply.specs.declared.stop.Stop.{Stop}
use Rattle.tplib_reply.specs.declared.refusal.Refusal.{Refusal}
use Rattle.tplib_reply.specs.declared.refusal.Refusal.TheVariants.{Text, Limit, Range, NoMemory}
use Rattle.tplib_reply.specs.declared.refusal.Reply.{Reply}
use Rattle.tplib_reply.specs.Meaning.{Cause, OverLimit, OutOfRange}
use Rattle.tplib_reply.proofs.Unstopped.{at_rows-none, at_rows_or_polars-none}
use Rattle.tplib_cones.specs.ConeFiles.{IsConeFile}
use Rattle.tplib_poly.specs.InRing.{IsRingReply, IsRingRefusal}
use Rattle.tplib_poly.specs.Refusals.{refusal_of}
use Rattle.tplib_poly.specs.Bounds.{IsBoundsStop}
use Rattle.tplib_poly.specs.Cones.{IsConesReply, IsConesRefusal}
use Rattle.tplib_poly.specs.declared.pair.PairCommand.{PairCommand}
use Rattle.tplib_poly.specs.declared.pair.PairCommand.TheVariants.{Include, Equal, Join, Meet}
use Rattle.tplib_poly.specs.Pairs.{IsMeetRowsStop, PairStops, PairAnswers, pair_ring}
use Rattle.tplib_poly.proofs.Same.{AreSame, back, answers_same, stops_same}
use Rattle.tplib_poly.proofs.Bounded.{no_bounds_stop}

-- a cone that is kept is within the limit
pub represented_within : {V : Type 0} {R : Semiring V} (n : ℕ) (cone : List V → Type 0) (rows : List (List V)) →
    Represents R n cone rows → IsOverLimit R cone → ⊥
represented_within {V} {R} n cone rows h over = within_limit R cone rows h.canonical h.within over

-- a cone that is kept has the vectors of its rows, in as many coordinates
pub represented_same : {V : Type 0} {R : Semiring V} (n m : ℕ) (cone : List V → Type 0) (rows : List (List V)) → m ≡ n →
    Represents R n cone rows → AreSame (IsCombination R m rows) cone
represented_same {V} {R} n m cone rows e h = subst (λ k. AreSame (IsCombination R k rows) cone) (sym e)
    (back h.generates)

-- a cone that is made of rows has the vectors that these combine, in the coordinates of the names
pub kept_same : {V : Type 0} {R : Semiring V} (n m w : ℕ) (gens rows : List (List V)) → n ≡ w → m ≡ n →
    Represents R n (IsCombination R n gens) rows → AreSame (IsCombination R m rows) (IsCombination R w gens)
kept_same {V} {R} n m w gens rows e f h = subst (λ k. AreSame (IsCombination R m rows) (IsCombination R k gens)) e
    (represented_same n m (IsCombination R n gens) rows f h)

module _ {V : Type 0} (kind : RingKind) (R : Semiring V) (N : Numbering V) (names : List (List ℕ))
    (cone other : List V → Type 0) where
  abbrev Replies : PairCommand → Reply → Type 0
  Replies command reply = IsConesReply command kind R N names cone other reply.yes reply.text.items

  -- a comparison stops nowhere
  pub include_replies : (says : Bool) (text : List ℕ) → PairAnswers Include kind R N names cone other says text →
      IsConesReply Include kind R N names cone other says text
  include_replies says text h = record { unstopped = λ cause stop s. s; answer = h }

  pub equal_replies : (says : Bool) (text : List ℕ) → PairAnswers Equal kind R N names cone other says text →
      IsConesReply Equal kind R N names cone other says text
  equal_replies says text h = record { unstopped = λ cause stop s. s; answer = h }

  -- the file of the join
  pub join_replies : (text : List ℕ) → IsConeFile kind R N names (InJoin R cone other) text →
      (IsOverLimit R (InJoin R cone other) → ⊥) → IsConesReply Join kind R N names cone other true text
  join_replies text h within = record {
    unstopped = at_rows-none (λ m k. (k ≡ 0) × IsOverLimit R (InJoin R cone other)) (length names + 1)
        (λ k s. within s.1);
    answer = h;
  }

  join_refused_at : (e : PolyErr) → IsConeRefusal R 0 (InJoin R cone other) e →
      IsConesRefusal Join kind R N names cone other (refusal_of e)
  join_refused_at (errors.Rows k) h = h
  join_refused_at (errors.Polar i k) h = absurd h
  join_refused_at errors.NoMemory h = tt

  pub join_refused : (e : PolyErr) (refusal : Refusal) → refusal ≡ refusal_of e →
      IsConeRefusal R 0 (InJoin R cone other) e → IsConesRefusal Join kind R N names cone other refusal
  join_refused e refusal is h = subst (IsConesRefusal Join kind R N names cone other) (sym is) (join_refused_at e h)

module _ {V : Type 0} {R : Semiring V} (laws : SemiringLaws R) (kind : RingKind) (N : Numbering V)
    (names : List (List ℕ)) (cone : List V → Type 0) (rows : List (List V))
    (represents : Represents R (length names + 1) (IsCombination R (length names + 1) rows) rows) where
  abbrev n : ℕ
  n = length names + 1

  abbrev other : List V → Type 0
  other = IsCombination R n rows

  -- the file of the meet
  pub meet_replies : (text : List ℕ) → IsConeFile kind R N names (InMeet cone other) text →
      ((i k : ℕ) → IsPolarStop R n rows i k → ⊥) → ((k : ℕ) → IsMeetStopOf R n cone rows k → ⊥) →
      IsConesReply Meet kind R N names cone other true text
  meet_replies text h unstopped within = record {
    unstopped = at_rows_or_polars-none (λ m k. IsMeetRowsStop R m cone other k) (λ m i k. IsBoundsStop R m other i k) n
        (λ k s. within k (s.bounds, s.external, s.stop))
        (no_bounds_stop laws n other rows represents unstopped);
    answer = h;
  }

  meet_refused_at : (e : PolyErr) → IsMeetRefusal R n cone rows e →
      IsConesRefusal Meet kind R N names cone other (refusal_of e)
  meet_refused_at (errors.Rows k) h = record {
    bounds = h.1.0;
    unbounded =
        no_bounds_stop laws n other rows represents h.0;
    external = h.1.1;
    stop = h.1.2;
  }
  meet_refused_at (errors.Polar i k) h = record { rows = rows; canonical = represents.canonical; stop = h }
  meet_refused_at errors.NoMemory h = tt

  pub meet_refused : (e : PolyErr) (refusal : Refusal) → refusal ≡ refusal_of e → IsMeetRefusal R n cone rows e →
      IsConesRefusal Meet kind R N names cone other refusal
  meet_refused e refusal is h = subst (IsConesRefusal Meet kind R N names cone other) (sym is) (meet_refused_at e h)

-- the same of two cones that are kept in as many coordinates
module _ {V : Type 0} {R : Semiring V} (laws : SemiringLaws R) (kind : RingKind) (N : Numbering V)
    (names : List (List ℕ)) (cone : List V → Type 0) (rows : List (List V)) (n m : ℕ) (width : n ≡ length names + 1)
    (wide : m ≡ length names + 1) (given : Represents R m (IsCombination R m rows) rows) where
  represents : Represents R (length names + 1) (IsCombination R (length names + 1) rows) rows
  represents = subst (λ k. Represents R k (IsCombination R k rows) rows) wide given

  as_named : (P : (List V → Type 0) → Type 0) → P (IsCombination R (length names + 1) rows) → P (IsCombination R m rows)
  as_named P h = subst (λ k. P (IsCombination R k rows)) (sym wide) h

  pub meet_replied : (text : List ℕ) → IsConeFile kind R N names (InMeet cone (IsCombination R m rows)) text →
      ((i k : ℕ) → IsPolarStop R n rows i k → ⊥) → ((k : ℕ) → IsMeetStopOf R n cone rows k → ⊥) →
      IsConesReply Meet kind R N names cone (IsCombination R m rows) true text
  meet_replied text file unstopped within =
      as_named (λ D. IsConesReply Meet kind R N names cone D true text)
      (meet_replies laws kind N names cone rows represents text
      (subst (λ k. IsConeFile kind R N names (InMeet cone (IsCombination R k rows)) text) wide file)
      (subst (λ k. (i j : ℕ) → IsPolarStop R k rows i j → ⊥) width unstopped)
      (subst (λ k. (j : ℕ) → IsMeetStopOf R k cone rows j → ⊥) width within))

  pub meet_refused_in : (e : PolyErr) (refusal : Refusal) → refusal ≡ refusal_of e → IsMeetRefusal R n cone rows e →
      IsConesRefusal Meet kind R N names cone (IsCombination R m rows) refusal
  meet_refused_in e refusal is h =
      as_named (λ D. IsConesRefusal Meet kind R N names cone D refusal)
      (meet_refused laws kind N names cone rows represents e refusal is
      (subst (λ k. IsMeetRefusal R k cone rows e) width h))

-- ---- the same of the combinations of two lists

module _ {V : Type 0} {R : Semiring V} (laws : SemiringLaws R) (command : PairCommand) (kind : RingKind)
    (N : Numbering V) (names : List (List ℕ)) (lists : Two V) {A B : List V → Type 0}
    (first : AreSame A (IsCombination R (length names + 1) lists.left))
    (second : AreSame B (IsCombination R (length names + 1) lists.right)) where
  lists_reply : (says : Bool) (text : List ℕ) → IsConesReply command kind R N names A B says text →
      IsRingReply (pair_ring command) names V kind R N lists says text
  lists_reply says text h = record {
    unstopped = λ cause stop s. h.unstopped cause stop
        (stops_same laws (back first) (back second) command (length names + 1) cause stop s);
    answer = answers_same laws first second command kind N names says text h.answer;
  }

  pub lists_replied : (r : Result Reply Refusal) →
      IfOk r (λ reply. IsConesReply command kind R N names A B reply.yes reply.text.items) →
      IfOk r (λ reply. IsRingReply (pair_ring command) names V kind R N lists reply.yes reply.text.items)
  lists_replied (Ok reply) h = lists_reply reply.yes reply.text.items h
  lists_replied (Err refusal) h = tt

  lists_refusal : (refusal : Refusal) → IsConesRefusal command kind R N names A B refusal →
      IsRingRefusal (pair_ring command) names V kind R N lists refusal
  lists_refusal (Text fault) h = h
  lists_refusal (Limit stop) h = stops_same laws first second command (length names + 1) OverLimit stop h
  lists_refusal (Range stop) h = stops_same laws first second command (length names + 1) OutOfRange stop h
  lists_refusal NoMemory h = tt

  pub lists_refused : (r : Result Reply Refusal) → IfErr r (IsConesRefusal command kind R N names A B) →
      IfErr r (IsRingRefusal (pair_ring command) names V kind R N lists)
  lists_refused (Ok reply) h = tt
  lists_refused (Err refusal) h = lists_refusal refusal h
