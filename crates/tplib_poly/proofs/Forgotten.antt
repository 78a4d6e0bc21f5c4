-- A cone that forgets a variable.
use Rattle.std.proofs.Common.{◌≡◌, ◌+◌, ◌∙◌, ℕ, true, List, length, Option, Some, None, sym, subst}
use Rattle.trop_theory.specs.Semiring.{Semiring, SemiringLaws}
use Rattle.trop_theory.specs.Numbers.{Numbering}
use Rattle.trop_theory.specs.Combinations.{IsCombination}
use Rattle.trop_theory.specs.Canonical.{IsOverLimit}
use Rattle.trop_cones.specs.Sets.{InForget}
use Rattle.trop_cones.specs.Represents.{Represents}
use Rattle.trop_duality.proofs.Polars.{IsOverLimit-same}
use Rattle.trop_spelling.specs.declared.ring_kind.RingKind.{RingKind}
use Rattle.trop_poly.specs.declared.error.PolyErr.{PolyErr}
use Rattle.trop_poly.specs.declared.error.PolyErr.TheVariants as errors
use Rattle.trop_poly.specs.Refusals.{IsConeRefusal}
use Rattle.tplib_reply.specs.declared.refusal.Refusal.{Refusal}
use Rattle.tplib_reply.proofs.Unstopped.{at_rows-none}
use Rattle.tplib_cones.specs.ConeFiles.{IsConeFile}
use Rattle.tplib_poly.specs.InRing.{IsRingReply, IsRingRefusal}
use Rattle.tplib_poly.specs.Refusals.{refusal_of}
use Rattle.tplib_poly.specs.Forget.{forget_ring}
use Rattle.tplib_poly.proofs.Same.{AreSame, back, forget_same, cone_file_same}
use Rattle.tplib_poly.proofs.Pairs.{represented_within}

module _ {V : Type 0} {R : Semiring V} (laws : SemiringLaws R) (kind : RingKind) (N : Numbering V)
    (names : List (List ℕ)) (gens : List (List V)) (place i : ℕ) (at_place : i ≡ place + 1) {cone : List V → Type 0}
    (same : AreSame cone (IsCombination R (length names + 1) gens)) where
  abbrev forgotten : List V → Type 0
  forgotten = InForget R (IsCombination R (length names + 1) gens) (place + 1)

  same_forgotten : AreSame (InForget R cone i) forgotten
  same_forgotten = subst (λ j. AreSame (InForget R cone i) (InForget R (IsCombination R (length names + 1) gens) j))
      at_place (forget_same same i)

  pub forget_replies : (m : ℕ) (rows : List (List V)) {kept : List V → Type 0} (text : List ℕ) →
      Represents R m (InForget R cone i) rows → AreSame kept (InForget R cone i) → IsConeFile kind R N names kept text →
      IsRingReply (forget_ring place) names V kind R N gens true text
  forget_replies m rows text h keeps file = record {
    unstopped = at_rows-none (λ xs k. (k ≡ 0) × IsOverLimit R
        (InForget R (IsCombination R (length names + 1) xs) (place + 1))) gens
        (λ k s. represented_within m (InForget R cone i) rows h
        (IsOverLimit-same laws m forgotten (InForget R cone i) (back same_forgotten) s.1));
    answer = cone_file_same kind N names same_forgotten text (cone_file_same kind N names keeps text file);
  }

  refused_at : (e : PolyErr) → IsConeRefusal R 0 (InForget R cone i) e →
      IsRingRefusal (forget_ring place) names V kind R N gens (refusal_of e)
  refused_at (errors.Rows k) h = (h.0, IsOverLimit-same laws 0 (InForget R cone i) forgotten same_forgotten h.1)
  refused_at (errors.Polar j k) h = absurd h
  refused_at errors.NoMemory h = tt

  pub forget_refused : (e : PolyErr) (refusal : Refusal) → refusal ≡ refusal_of e →
      IsConeRefusal R 0 (InForget R cone i) e → IsRingRefusal (forget_ring place) names V kind R N gens refusal
  forget_refused e refusal is h = subst (IsRingRefusal (forget_ring place) names V kind R N gens) (sym is)
      (refused_at e h)
