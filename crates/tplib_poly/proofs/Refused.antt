-- Refusals of operations on cones, as refusals of a command over a semiring.
use Rattle.std.proofs.Common.{◌≡◌, ◌∙◌, ℕ, List, sym, ap, subst}
use Rattle.trop_theory.specs.Semiring.{Semiring}
use Rattle.trop_theory.specs.Numbers.{Numbering}
use Rattle.trop_spelling.specs.declared.ring_kind.RingKind.{RingKind}
use Rattle.trop_poly.specs.declared.error.PolyErr.{PolyErr}
use Rattle.trop_poly.specs.declared.error.PolyErr.TheVariants as errors
use Rattle.tplib_reply.specs.declared.refusal.Refusal.{Refusal}
use Rattle.tplib_reply.specs.declared.refusal.Refusal.TheVariants.{NoMemory}
use Rattle.tplib_poly.specs.InRing.{RingMeaning, IsRingRefusal}
use Rattle.tplib_poly.specs.Refusals.{refusal_of}

module _ {F : Type 0 → Type 0} (ring : RingMeaning F) (names : List (List ℕ)) {V : Type 0} (kind : RingKind)
    (R : Semiring V) (N : Numbering V) (body : F V) (refusal : Refusal) where
  pub refused_memory : refusal ≡ NoMemory → IsRingRefusal ring names V kind R N body refusal
  refused_memory is = subst (IsRingRefusal ring names V kind R N body) (sym is) tt

  -- an operation that only want of memory refuses
  pub refused_fits : (e : PolyErr) → refusal ≡ refusal_of e → e ≡ errors.NoMemory →
      IsRingRefusal ring names V kind R N body refusal
  refused_fits e is fits = refused_memory (is ∙ ap refusal_of fits)
