-- The answer of `int lean=on`, from what its calls answered: lean_reply_is, lean_stopped, bounds_stopped.
use Rattle.std.proofs.Common.{◌≡◌, ◌↔◌, ◌+◌, ℕ, true, List, length, sym, subst}
use Rattle.trop_theory.specs.Semiring.{Semiring, SemiringLaws}
use Rattle.trop_theory.specs.Numbers.{Numbering}
use Rattle.trop_theory.specs.Vectors.{AreWide}
use Rattle.trop_theory.specs.Inequalities.{Inequality, Solves}
use Rattle.trop_theory.specs.Combinations.{IsCombination}
use Rattle.trop_duality.specs.Lean.{IsLean, Certifies}
use Rattle.trop_duality.specs.LeanStops.{IsLeanStop}
use Rattle.trop_duality.proofs.External.{IsExternal-unique}
use Rattle.trop_spelling.specs.declared.ring_kind.RingKind.{RingKind}
use Rattle.trop_lean.specs.declared.error.LeanErr.{LeanErr}
use Rattle.trop_lean.specs.declared.error.LeanErr.TheVariants as errors
use Rattle.trop_lean.specs.Refusals.{IsLeanRefusal}
use Rattle.tplib_reply.specs.declared.stop.Stop.{Stop}
use Rattle.tplib_reply.specs.declared.stop.Stop.TheVariants.{Polar, Lean}
use Rattle.tplib_reply.specs.declared.refusal.Refusal.{Refusal}
use Rattle.tplib_reply.specs.declared.refusal.Refusal.TheVariants.{Limit, NoMemory}
use Rattle.tplib_reply.specs.Meaning.{Cause, OverLimit}
use Rattle.tplib_poly.specs.Bounds.{AreBoundsOf, IsBoundsRefusal}
use Rattle.tplib_poly.specs.InRing.{IsRingReply, IsRingRefusal}
use Rattle.tplib_lean.specs.Refusals.{refusal_of}
use Rattle.tplib_lean.specs.Printed.{printed_lean}
use Rattle.tplib_lean.specs.Lean.{LeanStops, lean_ring}

-- what is known of the lean list of a system in n coordinates
pub record Leaned {V : Type 0} (R : Semiring V) (n : ℕ) (system kept : List (Inequality V)) (rows : List (List V)) :
    Type 0 where
  pub lean : IsLean R n system kept rows
  pub same : (x : List V) → Solves R n kept x ↔ Solves R n system x
  pub wide : AreWide n rows
  pub certified : Certifies R kept rows
  pub unstopped : (k j : ℕ) → IsLeanStop R n system k j → ⊥

-- where the external list of the cone is made lean, nothing stops
no_stop : {V : Type 0} {R : Semiring V} (laws : SemiringLaws R) (n : ℕ) (cone : List V → Type 0)
    (bounds : List (Inequality V)) → AreBoundsOf R n cone bounds → ((k j : ℕ) → IsLeanStop R n bounds k j → ⊥) →
    (cause : Cause) (stop : Stop) → LeanStops R n cone cause stop → ⊥
no_stop laws n cone bounds told unstopped OverLimit (Polar i k) h = told.unstopped i k h
no_stop {V} {R} laws n cone bounds told unstopped OverLimit (Lean k j) h =
    unstopped k j (subst (λ xs. IsLeanStop R n xs k j)
    (IsExternal-unique laws n cone cone h.bounds bounds (λ x. (λ c. c, λ c. c)) h.external told.external) h.stop)
no_stop laws n cone bounds told unstopped _ stop h = absurd h

module _ {V : Type 0} (kind : RingKind) (R : Semiring V) (N : Numbering V) (names : List (List ℕ))
    (gens : List (List V)) (m : ℕ) (width : m ≡ length names + 1) where
  abbrev n : ℕ
  n = length names + 1

  bounds_stopped_at : (refusal : Refusal) → IsBoundsRefusal R n (IsCombination R n gens) refusal →
      IsRingRefusal lean_ring names V kind R N gens refusal
  bounds_stopped_at (Limit (Polar i k)) h = h
  bounds_stopped_at NoMemory h = tt
  bounds_stopped_at _ h = absurd h

  -- there is no external list
  pub bounds_stopped : (refusal : Refusal) → IsBoundsRefusal R m (IsCombination R m gens) refusal →
      IsRingRefusal lean_ring names V kind R N gens refusal
  bounds_stopped refusal h = bounds_stopped_at refusal
      (subst (λ w. IsBoundsRefusal R w (IsCombination R w gens) refusal) width h)

  module _ (bounds : List (Inequality V)) (told : AreBoundsOf R m (IsCombination R m gens) bounds) where
    known : AreBoundsOf R n (IsCombination R n gens) bounds
    known = subst (λ w. AreBoundsOf R w (IsCombination R w gens) bounds) width told

    lean_stopped_at : (e : LeanErr) → IsLeanRefusal R n bounds e →
        IsRingRefusal lean_ring names V kind R N gens (refusal_of e)
    lean_stopped_at (errors.Rows k j) h = record {
      bounds = bounds;
      unbounded = known.unstopped;
      external = known.external;
      stop = h;
    }
    lean_stopped_at errors.NoMemory h = tt

    -- there is one, but no lean list
    pub lean_stopped : (w : ℕ) → w ≡ m → (e : LeanErr) (refusal : Refusal) → refusal ≡ refusal_of e →
        IsLeanRefusal R w bounds e → IsRingRefusal lean_ring names V kind R N gens refusal
    lean_stopped w wide e refusal is h = subst (IsRingRefusal lean_ring names V kind R N gens) (sym is)
        (lean_stopped_at e (subst (λ z. IsLeanRefusal R z bounds e) width
        (subst (λ z. IsLeanRefusal R z bounds e) wide h)))

    -- there are both
    pub lean_reply_is : SemiringLaws R → (w : ℕ) → w ≡ m → (kept : List (Inequality V)) (rows : List (List V))
        (text : List ℕ) → Leaned R w bounds kept rows → text ≡ printed_lean kind N names kept rows →
        IsRingReply lean_ring names V kind R N gens true text
    lean_reply_is laws w wide kept rows text leaned printed =
        let lean = subst (λ z. Leaned R z bounds kept rows) width
        (subst (λ z. Leaned R z bounds kept rows) wide leaned) in
        record {
          unstopped = no_stop laws n (IsCombination R n gens) bounds known lean.unstopped;
          answer = record {
            bounds = bounds;
            kept = kept;
            rows = rows;
            external = known.external;
            lean = lean.lean;
            solved = λ x. (
              λ c. (lean.same x).1 ((known.solved x).0 c),
              λ s. (known.solved x).1 ((lean.same x).0 s),
            );
            wide = lean.wide;
            certified = lean.certified;
            printed = printed;
          };
        }
