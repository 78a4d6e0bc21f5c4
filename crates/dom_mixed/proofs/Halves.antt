-- The answer of an image, from those of its halves.
use Rattle.std.proofs.Common.{◌≡◌, inl, inr, ℕ, false, Option, Some, None, MatchOption, refl, sym, subst, arith}
use Rattle.std.specs.Prelude.{ℤ, Result, Ok, Err}
use Rattle.trop_theory.specs.Semiring.{Semiring, SemiringLaws}
use Rattle.trop_theory.specs.Numbers.{Numbering}
use Rattle.trop_theory.specs.MaxPlus.{max_ring, max_numbering}
use Rattle.trop_theory.proofs.MaxPlusLaws.{max_laws}
use Rattle.prog_theory.specs.Edges.{Op, Skips, Sets, Havocs, Guards}
use Rattle.prog_theory.specs.Each.{EachOp}
use Rattle.prog_theory.specs.Fits.{FitsOp}
use Rattle.prog_theory.specs.Within.{IsNumberWithin}
use Rattle.dom_theory.specs.Refusals.{Whole}
use Rattle.dom_theory.specs.Relations.{Apply, Cause, OverLimit, OutOfRange}
use Rattle.dom_theory.specs.Answers.{IsFree}
use Rattle.dom_core.specs.declared.error.DomErr.{DomErr}
use Rattle.dom_core.specs.declared.error.DomErr.TheVariants.{Limit, Range, NoMemory}
use Rattle.dom_core.specs.Answers.{IsAnswer}
use Rattle.cone_domain.specs.Values.{Value}
use Rattle.cone_domain.specs.Polyhedra.{polyhedra}
use Rattle.cone_domain.proofs.Answers.{polyhedra_one}
use Rattle.mixed_theory.specs.Halves.{second_half, variables, IsHalf, IsHalfRefused, IsSecondRefused, IsImageRefused}
use Rattle.mixed_theory.specs.Mixed.{mixed}
use Rattle.mixed_claims.proofs.Readings.{abs-neg}
use Rattle.dom_mixed.specs.Answers.{IsHalfAnswer}

-- the second half has numbers of the same size
pub second_numbers : (d m : ℕ) (op : Op) → EachOp (λ x. Unit {0}) (IsNumberWithin m) op
    → MatchOption (second_half d op) (Unit {0}) (EachOp (λ x. Unit {0}) (IsNumberWithin m))
second_numbers d m Skips h = tt
second_numbers d m (Sets x t) h = (tt, omega (arith, abs-neg t.add, h.1))
second_numbers d m (Havocs x) h = tt
second_numbers d m (Guards l r) h = (omega (arith, abs-neg r.add, h.1), omega (arith, abs-neg l.add, h.0))

module _ {V : Type 0} {R : Semiring V} (laws : SemiringLaws R) (N : Numbering V) (op : Op) (v : Value V) where
  -- where the first half is refused
  pub first_refused : (err : DomErr) → IsAnswer (polyhedra R N false) (Apply op v) (Err err)
      → IsAnswer (mixed R N) (Apply op v) (Err err)
  first_refused (Limit at) h = (h.0, inl (refl, h.1))
  first_refused (Range at) h = (h.0, inl (refl, h.1))
  first_refused NoMemory h = tt

  module _ (fits : FitsOp (variables v) op) (between : Value V)
      (first : IsAnswer (polyhedra R N false) (Apply op v) (Ok between)) where
    -- where there is no second half
    none_free : second_half (variables v) op ≡ None → (cause : Cause) → IsImageRefused R N op v cause → ⊥
    none_free e cause (inl h) = first.0 cause Whole h
    none_free e cause (inr h) = subst (λ k. MatchOption k ⊥ (λ half. IsHalfRefused R N half h.between cause)) e h.refused

    pub first_alone : second_half (variables v) op ≡ None → IsAnswer (mixed R N) (Apply op v) (Ok between)
    first_alone e = (
      λ cause at h. none_free e cause h.1,
      record {
        fits = fits;
        between = between;
        first = first.1;
        second = subst (λ k. IsHalf R N k between between) (sym e) refl;
      },
    )

    -- the second half
    module _ (half : Op) (e : second_half (variables v) op ≡ Some half) where
      some_free : IsFree (polyhedra R N false) (Apply half between) → (cause : Cause) → IsImageRefused R N op v cause → ⊥
      some_free free cause (inl h) = first.0 cause Whole h
      some_free free cause (inr h) =
          let same = (polyhedra_one laws N false).applied op v h.between between h.first first.1 in
          let r : IsHalfRefused R N half h.between cause =
          subst (λ k. MatchOption k ⊥ (λ half. IsHalfRefused R N half h.between cause)) e h.refused in
          free cause Whole (subst (λ u. IsHalfRefused R N half u cause) same r)

      second_refused : (cause : Cause) → IsHalfRefused R N half between cause → IsSecondRefused R N op v cause
      second_refused cause h = record {
        between = between;
        first = first.1;
        free = λ c r. first.0 c Whole r;
        refused = subst (λ k. MatchOption k ⊥ (λ half. IsHalfRefused R N half between cause)) (sym e) h;
      }

      pub both : (result : Result (Value V) DomErr) → IsAnswer (polyhedra R N false) (Apply half between) result
          → IsAnswer (mixed R N) (Apply op v) result
      both (Ok w) h = (
        λ cause at r. some_free h.0 cause r.1,
        record {
          fits = fits;
          between = between;
          first = first.1;
          second = subst (λ k. IsHalf R N k between w) (sym e) h.1;
        },
      )
      both (Err (Limit at)) h = (h.0, inr (second_refused OverLimit (refl, h.1)))
      both (Err (Range at)) h = (h.0, inr (second_refused OutOfRange (refl, h.1)))
      both (Err NoMemory) h = tt

    -- either way
    pub answered : (k : Option Op) → second_half (variables v) op ≡ k → (result : Result (Value V) DomErr)
        → IsHalfAnswer R N k between result → IsAnswer (mixed R N) (Apply op v) result
    answered None e result h = subst (IsAnswer (mixed R N) (Apply op v)) (sym h) (first_alone e)
    answered (Some half) e result h = both half e result h

-- what holds of a half that there is
pub half_has : {X : Type 0} (P : X → Type 0) (m : Option X) (x : X) → m ≡ Some x → MatchOption m (Unit {0}) P → P x
half_has P m x e h = subst (λ k. MatchOption k (Unit {0}) P) e h

-- in max
pub refused_first : (op : Op) (v : Value (Option ℤ)) (err : DomErr) →
    IsAnswer (polyhedra max_ring max_numbering false) (Apply op v) (Err err) →
    IsAnswer (mixed max_ring max_numbering) (Apply op v) (Err err)
refused_first op v err h = first_refused max_laws max_numbering op v err h
