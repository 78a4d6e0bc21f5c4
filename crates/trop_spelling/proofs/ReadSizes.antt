-- The numbers of what is read are within the bound of the reader.
-- Elements and rows of numbers, terms, sides and inequalities of numbers, then each of the semirings.
-- Index: row_size-read, inequality_size-read.
use Rattle.std.proofs.Common.{◌≡◌, ◌+◌, ◌≤◌, ◌⊎◌, inl, inr, ℕ, zero, suc, Bool, true, false, List, [], ◌∷◌, ◌++◌, length, All, Option, Some, None, Result, Ok, Err, sym, subst, ap, ◌∙◌, refl, arith}
use Rattle.std.specs.Prelude.{ℤ, pos, neg_ℤ, unsigned_abs, if◌then◌else◌, codes}
use Rattle.std.proofs.lemmas.List.Elements.{All-nil, All-cons, All-head, All-tail, All-append, All-set, All-replicate}
use Rattle.trop_theory.specs.Semiring.{Semiring, SemiringLaws}
use Rattle.trop_theory.specs.Numbers.{Numbering, NumericLaws}
use Rattle.trop_theory.specs.Vectors.{row_size, entry, bottom}
use Rattle.trop_grammar.specs.Grammar.{Repeated, Optional, LeftOut, Written}
use Rattle.trop_grammar.specs.Lists.{Passes, AreSeparated}
use Rattle.trop_text.specs.Pieces.{Piece}
use Rattle.trop_text.specs.declared.fault.FaultKind.{FaultKind}
use Rattle.trop_spelling.specs.declared.ring_kind.RingKind.{RingKind}
use Rattle.trop_spelling.specs.declared.ring_kind.RingKind.TheVariants.{Max as MaxKind, Min as MinKind, Bool as BoolKind}
use Rattle.trop_spelling.specs.Spelling.{sum_word, IsTruthOnly, KindLaws}
use Rattle.trop_reading.specs.Words.{says, number, passed, is_digits, text_of}
use Rattle.trop_text.specs.declared.fault.FaultKind.TheVariants.{Syntax}
use Rattle.trop_spelling.specs.Elements.{max_start, max_behind, min_behind, Behind, IsElement, IsNextEntry, IsRow}
use Rattle.trop_spelling.specs.Inequalities.{known, variable, max_term, term_start, shift_sign, shift, term, IsShifted, IsNumericRest, truth_term, IsTermRest, IsTerm, side_start, between_terms, IsSideRest, with_term, with_terms, coefficients, inequality, IsInequalityRest, IsInequality}
use Rattle.trop_spelling.specs.declared.terms.Term.{Term}
use Rattle.trop_spelling.specs.declared.terms.Start.{Start}
use Rattle.trop_spelling.specs.declared.terms.Start.TheVariants.{Constant, Minus, Variable}
use Rattle.trop_text.specs.Name.{is_name}
use Rattle.trop_text.specs.Names.{place_of}
use Rattle.trop_theory.specs.Inequalities.{Inequality, inequality_size}
use Rattle.trop_reading.proofs.TokenBounds.{number_bound, passed_number}

-- ---- numbers

abs_neg : (n : ℕ) → unsigned_abs (neg_ℤ (pos n)) ≡ n
abs_neg zero = refl
abs_neg (suc n) = refl

All-one : {X : Type 0} (P : X → Type 0) (x : X) → P x → All P (x ∷ [])
All-one P x p = All-cons P x [] p (All-nil P)

-- ---- elements and rows of numbers

module _ {V : Type 0} {R : Semiring V} {N : Numbering V} {reversed : Bool} (laws : SemiringLaws R)
    (numeric : NumericLaws R N reversed) where
  abbrev IsSmall : ℕ → V → Type 0
  IsSmall bound x = R.size x ≤ bound

  size-of : (z : ℤ) → R.size (N.of z) ≡ unsigned_abs z
  size-of z = numeric.size (N.of z) z (numeric.to-of z)

  small_number : (bound n : ℕ) (z : ℤ) (x : V) → unsigned_abs z ≡ n → n ≤ bound → N.of z ≡ x → IsSmall bound x
  small_number bound n z x e h same = subst (λ s. s ≤ bound) (sym (ap R.size (sym same) ∙ size-of z ∙ e)) h

  -- the first token of an element gives a small one, or none yet
  start_small : (bound : ℕ) (p : Piece) (minus : Bool) (x : V) →
      (let r : Result (Option V) FaultKind = if minus then Ok None else passed (λ n. Some (N.of (pos n)))
      (number bound p) in r) ≡ Ok (Some x) → IsSmall bound x
  start_small bound p true x e = cc
  start_small bound p false x e =
      let found = passed_number (λ n. Some (N.of (pos n))) bound p (number bound p) (Some x)
      (λ n. number_bound bound n p) e in
      let same : N.of (pos found.0) ≡ x = cc in
      small_number bound found.0 (pos found.0) x refl found.1 same

  zero_or : (bound : ℕ) (oo : Bool) (other : Result V FaultKind) (x : V) → ((other ≡ Ok x) → IsSmall bound x) →
      (let r : Result V FaultKind = if oo then Ok R.zero else other in r) ≡ Ok x → IsSmall bound x
  zero_or bound true other x h e = let same : R.zero ≡ x = cc in
      subst (IsSmall bound) same (subst (λ s. s ≤ bound) (sym laws.size_zero) (omega arith))
  zero_or bound false other x h e = h e

  minus_small : (bound : ℕ) (p : Piece) (x : V) → passed (λ n. N.of (neg_ℤ (pos n))) (number bound p) ≡ Ok x →
      IsSmall bound x
  minus_small bound p x e =
      let found = passed_number (λ n. N.of (neg_ℤ (pos n))) bound p (number bound p) x
      (λ n. number_bound bound n p) e in
      small_number bound found.0 (neg_ℤ (pos found.0)) x (abs_neg found.0) found.1 found.2

  min_start_small : (bound : ℕ) (p : Piece) (oo : Bool) (x : V) →
      (let r : Result (Option V) FaultKind = if oo then Ok (Some R.zero) else max_start N bound p in r) ≡ Ok (Some x) →
      IsSmall bound x
  min_start_small bound p true x e = let same : R.zero ≡ x = cc in
      subst (IsSmall bound) same (subst (λ s. s ≤ bound) (sym laws.size_zero) (omega arith))
  min_start_small bound p false x e = start_small bound p (says (codes "-") p) x e

  -- behind the first token
  behind_small : (bound : ℕ) (behind : Piece → Result V FaultKind) (first : Option V) (us : List Piece) (x : V) →
      ((y : V) → first ≡ Some y → IsSmall bound y) → ((p : Piece) → behind p ≡ Ok x → IsSmall bound x) →
      Behind behind first us x → IsSmall bound x
  behind_small bound behind (Some y) us x first rest b = first x (ap Some (sym b.is))
  behind_small bound behind None us x first rest b = rest b.token b.is

  max_element_small : (bound : ℕ) (us : List Piece) (x : V) → IsElement MaxKind R N bound us x → IsSmall bound x
  unfolding IsElement
  max_element_small bound us x e =
      behind_small bound (max_behind R N bound) e.value e.back x
      (λ y same. start_small bound e.first.token (says (codes "-") e.first.token) y (e.first.is ∙ ap Ok same))
      (λ p b. zero_or bound (says (codes "oo") p) (passed (λ n. N.of (neg_ℤ (pos n))) (number bound p)) x
      (minus_small bound p x) b) e.second

  min_element_small : (bound : ℕ) (us : List Piece) (x : V) → IsElement MinKind R N bound us x → IsSmall bound x
  unfolding IsElement
  min_element_small bound us x e =
      behind_small bound (min_behind N bound) e.value e.back x
      (λ y same. min_start_small bound e.first.token (says (codes "oo") e.first.token) y (e.first.is ∙ ap Ok same))
      (λ p b. minus_small bound p x b) e.second

  -- entries one after another
  entries_small : (kind : RingKind) (bound n : ℕ) (before : List V) (us : List Piece) (xs : List V) →
      ((us : List Piece) (x : V) → IsElement kind R N bound us x → IsSmall bound x)
      → All (IsSmall bound) before → Repeated (IsNextEntry kind R N bound) n before us xs → All (IsSmall bound) xs
  unfolding Repeated
  entries_small kind bound zero before us xs element h r = subst (All (IsSmall bound)) (sym r.is) h
  entries_small kind bound (suc n) before us xs element h r =
      let more = r.first.second in
      let one : All (IsSmall bound) (before ++ more.value ∷ []) =
      All-append (IsSmall bound) before (more.value ∷ []) h
      (All-one (IsSmall bound) more.value (element more.front more.value more.first)) in
      entries_small kind bound n r.value r.back xs element (subst (All (IsSmall bound)) (sym more.second.is) one)
      r.second

  row_small : (kind : RingKind) (bound vars : ℕ) (us : List Piece) (xs : List V) →
      ((us : List Piece) (x : V) → IsElement kind R N bound us x → IsSmall bound x) → IsRow kind R N bound vars us xs →
      All (IsSmall bound) xs
  unfolding IsRow
  row_small kind bound zero us xs element r = subst (All (IsSmall bound)) (sym r.second.second.is)
      (All-nil (IsSmall bound))
  row_small kind bound (suc n) us xs element r =
      let first = r.second in
      let rest = first.second in
      subst (All (IsSmall bound)) (sym rest.second.second.is)
      (entries_small kind bound n (first.value ∷ []) rest.front rest.value element
      (All-one (IsSmall bound) first.value (element first.front first.value first.first)) rest.first)

  row_size-le : (bound : ℕ) (x : List V) → All (IsSmall bound) x → row_size R x ≤ bound
  row_size-le bound [] h = omega arith
  row_size-le bound (a ∷ x) h = let first = All-head (IsSmall bound) a x h in let more =
      row_size-le bound x (All-tail (IsSmall bound) a x h) in omega arith

  -- ---- terms, sides and inequalities of numbers

  abbrev StartSmall : ℕ → Start V → Type 0
  StartSmall bound (Constant x) = IsSmall bound x
  StartSmall bound Minus = Unit {0}
  StartSmall bound (Variable i) = Unit {0}

  abbrev TermSmall : ℕ → Term V → Type 0
  TermSmall bound t = IsSmall bound t.coefficient

  zero_small : (bound : ℕ) → IsSmall bound R.zero
  zero_small bound = subst (λ s. s ≤ bound) (sym laws.size_zero) (omega arith)

  one_small : (bound : ℕ) → IsSmall bound R.one
  one_small bound = subst (λ s. s ≤ bound) (sym laws.size_one) (omega arith)

  plus_small : (bound : ℕ) (p : Piece) (x : V) → passed (λ n. N.of (pos n)) (number bound p) ≡ Ok x → IsSmall bound x
  plus_small bound p x e =
      let found = passed_number (λ n. N.of (pos n)) bound p (number bound p) x (λ n. number_bound bound n p) e in
      small_number bound found.0 (pos found.0) x refl found.1 found.2

  shift_small : (bound : ℕ) (up : Bool) (p : Piece) (x : V) → shift N bound up p ≡ Ok x → IsSmall bound x
  shift_small bound true p x e = plus_small bound p x e
  shift_small bound false p x e = minus_small bound p x e

  -- a variable gives no number
  known_small : (bound : ℕ) (place : Option ℕ) (start : Start V) → known place ≡ Ok start → StartSmall bound start
  known_small bound (Some place) start e = let same : Variable (place + 1) ≡ start = cc in
      subst (StartSmall bound) same tt
  known_small bound None start e = cc

  named_small : (bound : ℕ) (named : Bool) (place : Option ℕ) (start : Start V) →
      (let r : Result (Start V) FaultKind = if named then known place else Err Syntax in r) ≡ Ok start →
      StartSmall bound start
  named_small bound true place start e = known_small bound place start e
  named_small bound false place start e = cc

  variable_small : (bound : ℕ) (names : List (List ℕ)) (p : Piece) (start : Start V) → variable names p ≡ Ok start →
      StartSmall bound start
  unfolding variable
  variable_small bound names p start e = named_small bound (is_name (text_of p)) (place_of (text_of p) names) start e

  digits_start : (bound : ℕ) (digits : Bool) (p : Piece) (other : Result (Start V) FaultKind) (start : Start V) →
      (other ≡ Ok start → StartSmall bound start)
      → (let r : Result (Start V) FaultKind = if digits then passed (λ n. Constant (N.of (pos n)))
      (number bound p) else other in r) ≡ Ok start → StartSmall bound start
  digits_start bound true p other start h e =
      let found = passed_number (λ n. Constant (N.of (pos n))) bound p (number bound p) start
      (λ n. number_bound bound n p) e in
      subst (StartSmall bound) found.2 (small_number bound found.0 (pos found.0) (N.of (pos found.0)) refl found.1 refl)
  digits_start bound false p other start h e = h e

  minus_start : (bound : ℕ) (minus : Bool) (other : Result (Start V) FaultKind) (start : Start V) →
      (other ≡ Ok start → StartSmall bound start)
      → (let r : Result (Start V) FaultKind = if minus then Ok Minus else other in r) ≡ Ok start →
      StartSmall bound start
  minus_start bound true other start h e = let same : Minus ≡ start = cc in subst (StartSmall bound) same tt
  minus_start bound false other start h e = h e

  max_term_small : (bound : ℕ) (names : List (List ℕ)) (p : Piece) (start : Start V) →
      max_term N bound names p ≡ Ok start → StartSmall bound start
  unfolding max_term
  max_term_small bound names p start e =
      minus_start bound (says (codes "-") p) _ start
      (λ f. digits_start bound (is_digits p) p _ start (variable_small bound names p start) f) e

  constant_start : (bound : ℕ) (is : Bool) (x : V) (other : Result (Start V) FaultKind) (start : Start V) →
      IsSmall bound x → (other ≡ Ok start → StartSmall bound start)
      → (let r : Result (Start V) FaultKind = if is then Ok (Constant x) else other in r) ≡ Ok start →
      StartSmall bound start
  constant_start bound true x other start small h e = let same : Constant x ≡ start = cc in
      subst (StartSmall bound) same small
  constant_start bound false x other start small h e = h e

  term_start_small : (kind : RingKind) (bound : ℕ) (names : List (List ℕ)) (p : Piece) (start : Start V) →
      term_start kind R N bound names p ≡ Ok start → StartSmall bound start
  unfolding term_start
  term_start_small MaxKind bound names p start e = max_term_small bound names p start e
  term_start_small MinKind bound names p start e =
      constant_start bound (says (codes "oo") p) R.zero _ start (zero_small bound)
      (max_term_small bound names p start) e
  term_start_small BoolKind bound names p start e =
      constant_start bound (says (codes "true") p) R.one _ start (one_small bound)
      (λ f. constant_start bound (says (codes "false") p) R.zero _ start (zero_small bound)
      (variable_small bound names p start) f) e

  shifted_small : (bound i : ℕ) (us : List Piece) (t : Term V) →
      Optional shift_sign (term i R.one) (IsShifted N bound i) us t → TermSmall bound t
  shifted_small bound i us t (LeftOut e is) = subst (TermSmall bound) (sym is) (one_small bound)
  shifted_small bound i us t (Written token up vs e announced s) =
      subst (TermSmall bound) (sym s.second.is) (shift_small bound up s.first.token s.value s.first.is)

  numeric_rest_small : (bound : ℕ) (behind : Piece → Result V FaultKind) (start : Start V) (us : List Piece)
      (t : Term V) → ((p : Piece) (x : V) → behind p ≡ Ok x → IsSmall bound x)
      → StartSmall bound start → IsNumericRest R N bound behind start us t → TermSmall bound t
  numeric_rest_small bound behind (Constant x) us t rest small e = subst (TermSmall bound) (sym e.is) small
  numeric_rest_small bound behind Minus us t rest small e =
      subst (TermSmall bound) (sym e.second.is) (rest e.first.token e.value e.first.is)
  numeric_rest_small bound behind (Variable i) us t rest small e = shifted_small bound i us t e

  truth_term_small : (bound : ℕ) (start : Start V) → StartSmall bound start → TermSmall bound (truth_term R start)
  truth_term_small bound (Constant x) small = small
  truth_term_small bound Minus small = zero_small bound
  truth_term_small bound (Variable i) small = one_small bound

  term_rest_small : (kind : RingKind) (bound : ℕ) (start : Start V) (us : List Piece) (t : Term V) →
      StartSmall bound start → IsTermRest kind R N bound start us t → TermSmall bound t
  term_rest_small MaxKind bound start us t small e =
      numeric_rest_small bound (max_behind R N bound) start us t
      (λ p x b. zero_or bound (says (codes "oo") p) (passed (λ n. N.of (neg_ℤ (pos n))) (number bound p)) x
      (minus_small bound p x) b) small e
  term_rest_small MinKind bound start us t small e =
      numeric_rest_small bound (min_behind N bound) start us t (λ p x b. minus_small bound p x b) small e
  term_rest_small BoolKind bound start us t small e =
      subst (TermSmall bound) (sym e.is) (truth_term_small bound start small)

  separated_small : (kind : RingKind) (bound : ℕ) (names : List (List ℕ)) (t : Term V) (us : List Piece)
      (ts : List (Term V)) → AreSeparated (IsTerm kind R N bound names) (Passes between_terms) t us ts →
      All (TermSmall bound) (t ∷ ts)
  separated_small kind bound names t us [] (vs, token, whole, line, between) =
      All-one (TermSmall bound) t (term_rest_small kind bound line.value line.back t
      (term_start_small kind bound names line.first.token line.value line.first.is) line.second)
  separated_small kind bound names t us (u ∷ ts) (vs, ws, token, whole, line, between, more) =
      All-cons (TermSmall bound) t (u ∷ ts) (term_rest_small kind bound line.value line.back t
      (term_start_small kind bound names line.first.token line.value line.first.is) line.second)
      (separated_small kind bound names u ws ts more)

  start_passed : (bound : ℕ) (r : Result (Start V) FaultKind) (first : Option (Start V)) →
      ((start : Start V) → r ≡ Ok start → StartSmall bound start) → passed (λ start. Some start) r ≡ Ok first →
      (start : Start V) → first ≡ Some start → StartSmall bound start
  start_passed bound (Ok s) first h e start f = let same : s ≡ start = cc in h start (ap Ok same)
  start_passed bound (Err what) first h e start f = cc

  sum_or : (bound : ℕ) (sum : Bool) (r : Result (Start V) FaultKind) (first : Option (Start V)) →
      ((start : Start V) → r ≡ Ok start → StartSmall bound start)
      → (let all : Result (Option (Start V)) FaultKind = if sum then Ok None else passed (λ start. Some start) r in all)
      ≡ Ok first → (start : Start V) → first ≡ Some start → StartSmall bound start
  sum_or bound true r first h e start f = cc
  sum_or bound false r first h e start f = start_passed bound r first h e start f

  side_rest_small : (kind : RingKind) (bound : ℕ) (names : List (List ℕ)) (first : Option (Start V)) (us : List Piece)
      (terms : List (Term V)) → ((start : Start V) → first ≡ Some start → StartSmall bound start)
      → IsSideRest kind R N bound names first us terms → All (TermSmall bound) terms
  side_rest_small kind bound names (Some start) us terms small e =
      subst (All (TermSmall bound)) (sym e.second.is)
      (All-one (TermSmall bound) e.value (term_rest_small kind bound start e.front e.value
      (small start refl) e.first))
  side_rest_small kind bound names None us terms small e =
      subst (All (TermSmall bound)) (sym e.second.is)
      (separated_small kind bound names e.second.first e.back e.second.others e.second.are)

  -- adding terms keeps rows small
  entry_small : (bound : ℕ) (row : List V) (i : ℕ) → All (IsSmall bound) row → IsSmall bound (entry R row i)
  entry_small bound [] i h = zero_small bound
  entry_small bound (a ∷ row) zero h = All-head (IsSmall bound) a row h
  entry_small bound (a ∷ row) (suc i) h = entry_small bound row i (All-tail (IsSmall bound) a row h)

  sum_small : (bound : ℕ) (a b : V) → IsSmall bound a → IsSmall bound b → IsSmall bound (R.plus a b)
  sum_small bound a b p q = let most = laws.size_plus a b in omega arith

  with_terms_small : (bound : ℕ) (row : List V) (terms : List (Term V)) → All (IsSmall bound) row →
      All (TermSmall bound) terms → All (IsSmall bound) (with_terms R row terms)
  with_terms_small bound row [] h ts = h
  with_terms_small bound row (t ∷ terms) h ts =
      with_terms_small bound (with_term R row t) terms
      (All-set (IsSmall bound) row t.coordinate _ (sum_small bound _ _ (entry_small bound row t.coordinate h)
      (All-head (TermSmall bound) t terms ts)) h) (All-tail (TermSmall bound) t terms ts)

  coefficients_small : (bound n : ℕ) (terms : List (Term V)) → All (TermSmall bound) terms →
      row_size R (coefficients R n terms) ≤ bound
  coefficients_small bound n terms ts = row_size-le bound _
      (with_terms_small bound (bottom R n) terms (All-replicate (IsSmall bound) n R.zero (zero_small bound)) ts)

  turned_small : (bound n : ℕ) (turned : Bool) (p q : List (Term V)) → All (TermSmall bound) p →
      All (TermSmall bound) q → inequality_size R (inequality R n turned p q) ≤ bound
  turned_small bound n true p q ps qs = let left = coefficients_small bound n q qs in let right =
      coefficients_small bound n p ps in omega arith
  turned_small bound n false p q ps qs = let left = coefficients_small bound n p ps in let right =
      coefficients_small bound n q qs in omega arith

  first_start_small : (kind : RingKind) (bound : ℕ) (names : List (List ℕ)) (p : Piece) (first : Option (Start V)) →
      side_start kind R N bound names p ≡ Ok first → (start : Start V) → first ≡ Some start → StartSmall bound start
  first_start_small kind bound names p first e = sum_or bound (says (sum_word kind) p)
      (term_start kind R N bound names p) first (term_start_small kind bound names p) e

  inequality_small : (kind : RingKind) (bound : ℕ) (names : List (List ℕ)) (first : Option (Start V)) (us : List Piece)
      (p : Inequality V) → ((start : Start V) → first ≡ Some start → StartSmall bound start)
      → IsInequalityRest kind R N bound names first us p → inequality_size R p ≤ bound
  inequality_small kind bound names first us p small e =
      let turned = e.second in
      let right = turned.second in
      let rest = right.second in
      let ps = side_rest_small kind bound names first e.front e.value small e.first in
      let side = right.first in
      let qs = side_rest_small kind bound names side.value side.back right.value
      (first_start_small kind bound names side.first.token side.value side.first.is) side.second in
      subst (λ i. inequality_size R i ≤ bound) (sym rest.second.is)
      (turned_small bound (length names + 1) turned.value e.value right.value ps qs)

  line_small : (kind : RingKind) (bound : ℕ) (names : List (List ℕ)) (us : List Piece) (p : Inequality V) →
      IsInequality kind R N bound names us p → inequality_size R p ≤ bound
  line_small kind bound names us p e = inequality_small kind bound names e.value e.back p
      (first_start_small kind bound names e.first.token e.value e.first.is) e.second

-- ---- each of the semirings

module _ {V : Type 0} {R : Semiring V} (laws : SemiringLaws R) where
  truth_element : (a : V) → (a ≡ R.zero) ⊎ (a ≡ R.one) → R.size a ≤ 0
  truth_element a (inl e) = subst (λ x. R.size x ≤ 0) (sym e) (subst (λ s. s ≤ 0) (sym laws.size_zero) (omega arith))
  truth_element a (inr e) = subst (λ x. R.size x ≤ 0) (sym e) (subst (λ s. s ≤ 0) (sym laws.size_one) (omega arith))

  truth_row : (N : Numbering V) → IsTruthOnly R N → (x : List V) → row_size R x ≤ 0
  truth_row N only [] = omega arith
  truth_row N only (a ∷ x) = let first = truth_element a (only.two a) in let more = truth_row N only x in omega arith

  -- the numbers of a row that is read
  pub row_size-read : (kind : RingKind) (N : Numbering V) (reversed : Bool) (bound n : ℕ) (us : List Piece) (x : List V)
      → KindLaws kind R N reversed → IsRow kind R N bound n us x → row_size R x ≤ bound
  row_size-read MaxKind N reversed bound n us x kinds r =
      row_size-le laws kinds.0 bound x (row_small laws kinds.0 MaxKind bound n us x
      (max_element_small laws kinds.0 bound) r)
  row_size-read MinKind N reversed bound n us x kinds r =
      row_size-le laws kinds.0 bound x (row_small laws kinds.0 MinKind bound n us x
      (min_element_small laws kinds.0 bound) r)
  row_size-read BoolKind N reversed bound n us x kinds r = let small = truth_row N kinds x in omega arith

  -- those of an inequality
  pub inequality_size-read : (kind : RingKind) (N : Numbering V) (reversed : Bool) (bound : ℕ) (names : List (List ℕ))
      (us : List Piece) (p : Inequality V) → KindLaws kind R N reversed → IsInequality kind R N bound names us p →
      inequality_size R p ≤ bound
  inequality_size-read MaxKind N reversed bound names us p kinds e = line_small laws kinds.0 MaxKind bound names us p e
  inequality_size-read MinKind N reversed bound names us p kinds e = line_small laws kinds.0 MinKind bound names us p e
  inequality_size-read BoolKind N reversed bound names us p kinds e = let left = truth_row N kinds p.left in let right =
      truth_row N kinds p.right in omega arith
