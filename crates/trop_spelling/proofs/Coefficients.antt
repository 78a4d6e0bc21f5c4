-- The terms of a side with a finite coefficient, one of each coordinate, have the side as their coefficients.
use Rattle.std.proofs.Common.{◌≡◌, ◌≤◌, ◌+◌, ℕ, zero, suc, List, [], ◌∷◌, ◌++◌, length, Option, Some, None, refl, sym, ap, ◌∙◌, subst, arith, append_assoc, length-append}
use Rattle.std.specs.Prelude.{ℤ}
use Rattle.std.proofs.Math.Seq.{set-append_seam, get_or-append_seam}
use Rattle.trop_theory.specs.Semiring.{Semiring}
use Rattle.trop_theory.specs.Numbers.{Numbering}
use Rattle.trop_theory.specs.Vectors.{bottom}
use Rattle.trop_spelling.specs.declared.terms.Term.{Term}
use Rattle.trop_spelling.specs.Inequalities.{term, with_term, with_terms, coefficients}

-- one more term, where its coefficient has a number
abbrev pub if_finite : {V : Type 0} → Option ℤ → Term V → List (Term V) → List (Term V)
if_finite None t terms = terms
if_finite (Some c) t terms = t ∷ terms

-- the terms with a finite coefficient, from coordinate k on
abbrev pub terms_of : {V : Type 0} → Numbering V → ℕ → List V → List (Term V)
terms_of N k [] = []
terms_of N k (x ∷ side) = if_finite (N.to x) (term k x) (terms_of N (k + 1) side)

pub length-terms_of : {V : Type 0} (N : Numbering V) (k : ℕ) (side : List V) → length (terms_of N k side) ≤ length side
length-terms_of N k [] = omega arith
length-terms_of N k (x ∷ side) = by (N.to x) (length-terms_of N (k + 1) side)
  where
    by : (o : Option ℤ) → length (terms_of N (k + 1) side) ≤ length side →
        length (if_finite o (term k x) (terms_of N (k + 1) side)) ≤ length (x ∷ side)
    by None h = omega arith
    by (Some c) h = omega arith

-- the terms as they are written: where there is none, the zero stands as the constant
abbrev pub or_zero : {V : Type 0} → Semiring V → List (Term V) → List (Term V)
or_zero R [] = term 0 R.zero ∷ []
or_zero R (t ∷ terms) = t ∷ terms

abbrev pub written_terms : {V : Type 0} → Semiring V → Numbering V → List V → List (Term V)
written_terms R N side = or_zero R (terms_of N 0 side)

module _ {V : Type 0} (R : Semiring V) (N : Numbering V) (neutral : (a : V) → R.plus R.zero a ≡ a)
    (zero_is : (a : V) → N.to a ≡ None → a ≡ R.zero) where
  -- a term of the first coordinate that has none so far
  next_term : (before after : List V) (x : V) → with_term R (before ++ R.zero ∷ after) (term (length before) x) ≡ before
      ++ x ∷ after
  next_term before after x =
      set-append_seam before R.zero after _ ∙ ap (λ y. before ++ y ∷ after)
      (ap (λ z. R.plus z x) (get_or-append_seam before R.zero after R.zero) ∙ neutral x)

  -- one more term, or none, and the terms behind it
  more_terms : (x : V) (side before : List V) (k : ℕ) → k ≡ length before → (o : Option ℤ) → N.to x ≡ o
      → with_terms R ((before ++ x ∷ []) ++ bottom R (length side)) (terms_of N (k + 1) side) ≡ (before ++ x ∷ [])
      ++ side
      → with_terms R (before ++ R.zero ∷ bottom R (length side)) (if_finite o (term k x) (terms_of N (k + 1) side)) ≡
      before ++ x ∷ side
  more_terms x side before k e o is rest = by o is
    where
      others : with_terms R (before ++ x ∷ bottom R (length side)) (terms_of N (k + 1) side) ≡ before ++ x ∷ side
      others = subst (λ r. with_terms R r (terms_of N (k + 1) side) ≡ before ++ x ∷ side)
          (append_assoc before (x ∷ []) (bottom R (length side))) (rest ∙ append_assoc before (x ∷ []) side)

      by : (o : Option ℤ) → N.to x ≡ o → with_terms R (before ++ R.zero ∷ bottom R (length side))
          (if_finite o (term k x) (terms_of N (k + 1) side)) ≡ before ++ x ∷ side
      by None none = ap (λ z. with_terms R (before ++ z ∷ bottom R (length side)) (terms_of N (k + 1) side))
          (sym (zero_is x none)) ∙ others
      by (Some c) some =
          ap (λ r. with_terms R r (terms_of N (k + 1) side))
          (ap (λ j. with_term R (before ++ R.zero ∷ bottom R (length side)) (term j x)) e
          ∙ next_term before (bottom R (length side)) x) ∙ others

  all_terms : (side before : List V) (k : ℕ) → k ≡ length before →
      with_terms R (before ++ bottom R (length side)) (terms_of N k side) ≡ before ++ side
  all_terms [] before k e = refl
  all_terms (x ∷ side) before k e =
      let next : k + 1 ≡ length (before ++ x ∷ []) = omega (arith, length-append before (x ∷ [])) in
      more_terms x side before k e (N.to x) refl (all_terms side (before ++ x ∷ []) (k + 1) next)

  pub side_read_back : (side : List V) → coefficients R (length side) (terms_of N 0 side) ≡ side
  side_read_back side = all_terms side [] 0 refl

  -- the zero changes no coefficient
  zero_term : (n : ℕ) → with_term R (bottom R n) (term 0 R.zero) ≡ bottom R n
  zero_term zero = refl
  zero_term (suc n) = ap (λ y. y ∷ bottom R n) (neutral R.zero)

  pub written_read_back : (side : List V) → coefficients R (length side) (written_terms R N side) ≡ side
  written_read_back side = by (terms_of N 0 side) (side_read_back side)
    where
      by : (terms : List (Term V)) → coefficients R (length side) terms ≡ side →
          coefficients R (length side) (or_zero R terms) ≡ side
      by [] e = zero_term (length side) ∙ e
      by (t ∷ terms) e = e
