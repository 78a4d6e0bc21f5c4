-- How long the rows and inequalities are that are read.
use Rattle.std.proofs.Common.{◌≡◌, ◌+◌, ℕ, zero, suc, Bool, true, false, List, [], ◌∷◌, length, sym, ap, ◌∙◌, subst, arith, length-append}
use Rattle.std.proofs.lemmas.List.{length-set}
use Rattle.trop_theory.specs.Semiring.{Semiring}
use Rattle.trop_theory.specs.Numbers.{Numbering}
use Rattle.trop_theory.specs.Vectors.{bottom}
use Rattle.trop_theory.specs.Inequalities.{Inequality, IsIn}
use Rattle.trop_grammar.specs.Grammar.{Repeated}
use Rattle.trop_text.specs.Pieces.{Piece}
use Rattle.trop_spelling.specs.declared.ring_kind.RingKind.{RingKind}
use Rattle.trop_spelling.specs.declared.terms.Term.{Term}
use Rattle.trop_spelling.specs.Elements.{IsNextEntry, IsRow}
use Rattle.trop_spelling.specs.Inequalities.{with_term, with_terms, coefficients, inequality, IsInequality}

module _ {V : Type 0} (kind : RingKind) (R : Semiring V) (N : Numbering V) (bound : ℕ) where
  entries_length : (n : ℕ) (before : List V) (us : List Piece) (xs : List V) →
      Repeated (IsNextEntry kind R N bound) n before us xs → length xs ≡ length before + n
  unfolding Repeated
  entries_length zero before us xs r = let e = ap length r.is in omega arith
  entries_length (suc n) before us xs r =
      let more = entries_length n r.value r.back xs r.second in
      let one = ap length r.first.second.second.is in
      omega (arith, length-append before (r.first.second.value ∷ []))

  -- a row has as many elements as are wanted
  pub length-row : (n : ℕ) (us : List Piece) (xs : List V) → IsRow kind R N bound n us xs → length xs ≡ n
  unfolding IsRow
  length-row zero us xs r = ap length r.second.second.is
  length-row (suc n) us xs r =
      let first = r.second in
      let rest = first.second in
      let all = entries_length n (first.value ∷ []) rest.front rest.value rest.first in
      let same = ap length rest.second.second.is in
      omega arith

  length-with_terms : (row : List V) (terms : List (Term V)) → length (with_terms R row terms) ≡ length row
  length-with_terms row [] = omega arith
  length-with_terms row (t ∷ terms) = length-with_terms (with_term R row t) terms ∙ length-set row t.coordinate _

  length-bottom : (n : ℕ) → length (bottom R n) ≡ n
  length-bottom zero = omega arith
  length-bottom (suc n) = let more = length-bottom n in omega arith

  length-coefficients : (n : ℕ) (terms : List (Term V)) → length (coefficients R n terms) ≡ n
  length-coefficients n terms = length-with_terms (bottom R n) terms ∙ length-bottom n

  inequality_in : (n : ℕ) (turned : Bool) (p q : List (Term V)) → IsIn n (inequality R n turned p q)
  inequality_in n true p q = record { left = length-coefficients n q; right = length-coefficients n p }
  inequality_in n false p q = record { left = length-coefficients n p; right = length-coefficients n q }

  -- an inequality has a coordinate for each name and coordinate 0
  pub IsIn-inequality : (names : List (List ℕ)) (us : List Piece) (p : Inequality V) →
      IsInequality kind R N bound names us p → IsIn (length names + 1) p
  IsIn-inequality names us p e =
      let rest = e.second.second in
      subst (IsIn (length names + 1)) (sym rest.second.second.second.is)
      (inequality_in (length names + 1) rest.value e.second.value rest.second.value)
