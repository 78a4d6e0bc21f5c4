-- Terms, sides and inequalities are read right.
-- Index: NoShift, terms_parts, inequality_rest_reads, inequality_reads.
use Rattle.std.proofs.Common.{◌≡◌, ◌+◌, ℕ, Bool, true, false, cond, List, [], ◌∷◌, ◌++◌, codes, length, Option, Some, None, Result, Ok, Err, refl, sym, ap, subst, ◌∙◌, ◌⊎◌, inl, inr, arith, pos, neg_ℤ, ◌≤◌}
use Rattle.std.specs.Str.{bytes_eq}
use Rattle.std.proofs.lemmas.Bool.{le-leb}
use Rattle.std.proofs.lemmas.Slice.Eq.{bytes_eq-Decides}
use Rattle.trop_theory.specs.Semiring.{Semiring}
use Rattle.trop_theory.specs.Numbers.{Numbering}
use Rattle.trop_grammar.specs.Reads.{Reads, Anything, Unannounced}
use Rattle.trop_grammar.specs.Lists.{Passes, Separated}
use Rattle.trop_grammar.proofs.Laws.{Reads-bind, Reads-then, Reads-gives, Reads-weaker, Reads-option}
use Rattle.trop_grammar.proofs.ListLaws.{Reads-judged}
use Rattle.trop_grammar.proofs.SeparatedLaws.{Reads-separated, AreSeparators}
use Rattle.trop_text.specs.Pieces.{Piece, Token, LineEnd, InputEnd}
use Rattle.trop_text.specs.declared.fault.FaultKind.{FaultKind}
use Rattle.trop_text.specs.declared.fault.FaultKind.TheVariants.{Syntax}
use Rattle.trop_spelling.specs.declared.ring_kind.RingKind.{RingKind}
use Rattle.trop_spelling.specs.declared.ring_kind.RingKind.TheVariants.{Max as MaxKind, Min as MinKind, Bool as BoolKind}
use Rattle.trop_spelling.specs.declared.terms.Start.{Start}
use Rattle.trop_spelling.specs.declared.terms.Start.TheVariants.{Constant, Minus, Variable}
use Rattle.trop_reading.specs.Words.{says, said, line_end, text_of, number}
use Rattle.trop_spelling.specs.Elements.{max_behind, min_behind, behind_minus}
use Rattle.trop_spelling.specs.Inequalities.{term_start, max_term, shift_sign, shift, term, IsShifted, IsNumericRest, truth_term, IsTermRest, IsTerm, side_start, between_terms, IsSideRest, IsSide, order_mark, inequality, IsInequalityRest, IsInequality, shifted_at, numeric_rest_at, term_rest_at, term_at, terms_at, side_rest_at, side_at, inequality_rest_at, inequality_at}
use Rattle.trop_reading.proofs.Samples.{sample, nought, said_reads, line_end_reads}
use Rattle.trop_spelling.proofs.ElementLaws.{nought_fits}

-- no sign that adds a number to a variable follows
abbrev pub NoShift : List Piece → Type 0
NoShift = Unannounced shift_sign

-- ---- tokens that may follow a term are no such signs

abbrev shift_text : List ℕ → Option Bool
shift_text text = cond (bytes_eq text (codes "+")) (Some true) (cond (bytes_eq text (codes "-")) (Some false) None)

no_shift : (a : List ℕ) (p : Piece) → says a p ≡ true → shift_text a ≡ None → shift_sign p ≡ None
no_shift a p e k = ap shift_text ((bytes_eq-Decides (text_of p) a).0 e) ∙ k

one_word : {X : Type 0} (b : Bool) (x v : X) (w : FaultKind) → cond b (Ok x) (Err w) ≡ Ok v → b ≡ true
one_word true x v w e = refl
one_word false x v w e = absurd cc

two_words : {X : Type 0} (b c : Bool) (x y v : X) (w : FaultKind) → cond b (Ok x) (cond c (Ok y) (Err w)) ≡ Ok v →
    (b ≡ true) ⊎ (c ≡ true)
two_words true c x y v w e = inl refl
two_words false true x y v w e = inr refl
two_words false false x y v w e = absurd cc

behind_term : (p : Piece) (more : Bool) (rest : List Piece) → between_terms p ≡ Ok more → NoShift (p ∷ rest)
behind_term p more rest e =
    elim (two_words (says (codes ",") p) (says (codes ")") p) true false more Syntax e) [
      | inl h ↦ no_shift (codes ",") p h refl
      | inr h ↦ no_shift (codes ")") p h refl
    ]

behind_left : (kind : RingKind) (p : Piece) (turned : Bool) (rest : List Piece) → order_mark kind p ≡ Ok turned →
    NoShift (p ∷ rest)
behind_left MaxKind p turned rest e =
    elim (two_words (says (codes "<=") p) (says (codes ">=") p) false true turned Syntax e)
    [ inl h ↦ no_shift (codes "<=") p h refl | inr h ↦ no_shift (codes ">=") p h refl ]
behind_left MinKind p turned rest e =
    elim (two_words (says (codes ">=") p) (says (codes "<=") p) false true turned Syntax e)
    [ inl h ↦ no_shift (codes ">=") p h refl | inr h ↦ no_shift (codes "<=") p h refl ]
behind_left BoolKind p turned rest e = no_shift (codes "=>") p (one_word (says (codes "=>") p) false turned Syntax e)
    refl

behind_right : (p : Piece) (u : Unit {0}) (rest : List Piece) → line_end p ≡ Ok u → NoShift (p ∷ rest)
behind_right (LineEnd line) u rest e = refl
behind_right (Token t) u rest e = absurd cc
behind_right InputEnd u rest e = absurd cc

closed_to : (b c : Bool) (u : Unit {0}) → (b ≡ true → c ≡ false) → cond c (Ok tt) (Err Syntax) ≡ Ok u →
    cond b (Ok true) (cond c (Ok false) (Err Syntax)) ≡ Ok false
closed_to true true u apart e = let k = apart refl in absurd cc
closed_to true false u apart e = absurd cc
closed_to false true u apart e = refl
closed_to false false u apart e = absurd cc

abbrev closes : Bool → Result (Unit {0}) FaultKind
closes c = cond c (Ok tt) (Err Syntax)

closed_from : (b c : Bool) → cond b (Ok true) (cond c (Ok false) (Err Syntax)) ≡ Ok false → closes c ≡ Ok tt
closed_from true c e = absurd cc
closed_from false true e = refl
closed_from false false e = absurd cc

no_bracket : (p : Piece) → says (codes ",") p ≡ true → says (codes ")") p ≡ false
no_bracket p e = ap (λ text. bytes_eq text (codes ")")) ((bytes_eq-Decides (text_of p) (codes ",")).0 e)

module _ {V : Type 0} (R : Semiring V) (N : Numbering V) (bound : ℕ) (names : List (List ℕ)) where
  nought_up : (up : Bool) → (x : V) × (shift N bound up nought ≡ Ok x)
  unfolding number
  nought_up true = let h : 0 ≤ bound = omega arith in (N.of (pos 0), (rw (le-leb 0 bound h) refl))
  nought_up false = let h : 0 ≤ bound = omega arith in (N.of (neg_ℤ (pos 0)), (rw (le-leb 0 bound h) refl))

  shifted_reads : (place : ℕ) (up : Bool) → Reads Anything (shifted_at N bound place up) (IsShifted N bound place up)
  unfolding shifted_at
  shifted_reads place up = let z = nought_up up in
      Reads-then (Reads-judged Syntax (shift N bound up) nought z.0 z.1) (λ x. Reads-gives (term place x))

  numeric_rest_reads : (behind : Piece → Result V FaultKind) (p : Piece) (x : V) → behind p ≡ Ok x → (start : Start V) →
      Reads NoShift (numeric_rest_at R N bound behind start) (IsNumericRest R N bound behind start)
  unfolding numeric_rest_at
  numeric_rest_reads behind p x e (Constant y) = Reads-gives (term 0 y)
  numeric_rest_reads behind p x e Minus = Reads-then (Reads-judged Syntax behind p x e) (λ y. Reads-gives (term 0 y))
  numeric_rest_reads behind p x e (Variable place) = Reads-option shift_sign (term place R.one) (shifted_reads place)

  term_rest_reads : (kind : RingKind) (start : Start V) →
      Reads NoShift (term_rest_at kind R N bound start) (IsTermRest kind R N bound start)
  unfolding term_rest_at behind_minus
  term_rest_reads MaxKind start = numeric_rest_reads (max_behind R N bound) (sample (codes "oo")) R.zero refl start
  term_rest_reads MinKind start = numeric_rest_reads (min_behind N bound) nought (N.of (neg_ℤ (pos 0)))
      (nought_fits R N bound) start
  term_rest_reads BoolKind start = Reads-gives (truth_term R start)

  -- some token begins a term
  start_some : (kind : RingKind) → (p : Piece) × (start : Start V) × (term_start kind R N bound names p ≡ Ok start)
  unfolding term_start max_term
  start_some MaxKind = (sample (codes "-"), Minus, refl)
  start_some MinKind = (sample (codes "-"), Minus, refl)
  start_some BoolKind = (sample (codes "true"), Constant R.one, refl)

  term_reads : (kind : RingKind) → Reads NoShift (term_at kind R N bound names) (IsTerm kind R N bound names)
  unfolding term_at
  term_reads kind = let s = start_some kind in Reads-then
      (Reads-judged Syntax (term_start kind R N bound names) s.0 s.1 s.2) (term_rest_reads kind)

  pub terms_parts : (kind : RingKind) → AreSeparators NoShift (term_at kind R N bound names) between_terms
      (said (codes ")")) (IsTerm kind R N bound names)
  terms_parts kind = record {
    end = sample (codes ")");
    ends = refl;
    reads = term_reads kind;
    fits = behind_term;
    close_to = λ p u h. closed_to (says (codes ",") p) (says (codes ")") p) u (no_bracket p) h;
    close_from = λ p h. closed_from (says (codes ",") p) (says (codes ")") p) h;
  }

  terms_reads : (kind : RingKind) → Reads Anything (terms_at kind R N bound names)
      (Separated (IsTerm kind R N bound names) (Passes between_terms))
  unfolding terms_at
  terms_reads kind = Reads-separated Syntax NoShift (term_at kind R N bound names) between_terms (said (codes ")"))
      (IsTerm kind R N bound names) (terms_parts kind)

  side_rest_reads : (kind : RingKind) (start : Option (Start V)) →
      Reads NoShift (side_rest_at kind R N bound names start) (IsSideRest kind R N bound names start)
  unfolding side_rest_at
  side_rest_reads kind (Some start) = Reads-bind NoShift NoShift (term_rest_reads kind start)
      (λ t. Reads-gives (t ∷ [])) (λ t ws rest y h ends. subst (λ (z : List Piece). NoShift (z ++ rest))
      (sym h.none) ends)
  side_rest_reads kind None = Reads-then (said_reads (codes "(") refl) (λ u. Reads-weaker (terms_reads kind))

  side_some : (kind : RingKind) → (p : Piece) × (start : Option (Start V))
      × (side_start kind R N bound names p ≡ Ok start)
  side_some MaxKind = (sample (codes "max"), None, refl)
  side_some MinKind = (sample (codes "min"), None, refl)
  side_some BoolKind = (sample (codes "or"), None, refl)

  side_reads : (kind : RingKind) → Reads NoShift (side_at kind R N bound names) (IsSide kind R N bound names)
  unfolding side_at
  side_reads kind = let s = side_some kind in Reads-then
      (Reads-judged Syntax (side_start kind R N bound names) s.0 s.1 s.2) (side_rest_reads kind)

  order_some : (kind : RingKind) → (p : Piece) × (turned : Bool) × (order_mark kind p ≡ Ok turned)
  order_some MaxKind = (sample (codes "<="), false, refl)
  order_some MinKind = (sample (codes ">="), false, refl)
  order_some BoolKind = (sample (codes "=>"), false, refl)

  first_fits : {X : Type 0} (judge : Piece → Result X FaultKind) →
      ((p : Piece) (x : X) (rest : List Piece) → judge p ≡ Ok x → NoShift (p ∷ rest)) →
      (p : Piece) (x : X) (us ws rest : List Piece) → us ≡ (p ∷ []) ++ ws → judge p ≡ Ok x → NoShift (us ++ rest)
  first_fits judge fits p x us ws rest whole e = subst (λ (z : List Piece). NoShift (z ++ rest)) (sym whole)
      (fits p x (ws ++ rest) e)

  pub inequality_rest_reads : (kind : RingKind) (start : Option (Start V)) →
      Reads Anything (inequality_rest_at kind R N bound names start) (IsInequalityRest kind R N bound names start)
  unfolding inequality_rest_at
  inequality_rest_reads kind start =
      let o = order_some kind in
      Reads-bind NoShift Anything (side_rest_reads kind start)
      (λ p. Reads-then (Reads-judged Syntax (order_mark kind) o.0 o.1 o.2)
      (λ turned. Reads-bind NoShift Anything (side_reads kind)
      (λ q. Reads-then line_end_reads (λ u. Reads-gives (inequality R (length names + 1) turned p q)))
      (λ q ws rest y h ends. first_fits line_end behind_right h.first.token h.value ws h.back rest
      (h.whole ∙ ap (λ (z : List Piece). z ++ h.back) h.first.whole) h.first.is)))
      (λ p ws rest y h ends. first_fits (order_mark kind) (behind_left kind) h.first.token h.value ws h.back rest
      (h.whole ∙ ap (λ (z : List Piece). z ++ h.back) h.first.whole) h.first.is)

  pub inequality_reads : (kind : RingKind) → Reads Anything (inequality_at kind R N bound names)
      (IsInequality kind R N bound names)
  unfolding inequality_at
  inequality_reads kind = let s = side_some kind in
      Reads-then (Reads-judged Syntax (side_start kind R N bound names) s.0 s.1 s.2) (inequality_rest_reads kind)
