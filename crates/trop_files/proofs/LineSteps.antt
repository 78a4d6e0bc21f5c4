-- A list of inequalities is read the same line by line.
-- Index: read_ok, same_read, Xs, start, item, last, line_below, rest_of, list_ends, list_stops, ends_input, end_none,
-- line_is, line_from, first_more, first_length, reads_on.
use Rattle.std.proofs.Common.{◌≡◌, ◌<◌, ◌≤◌, ◌+◌, ◌-◌, ◌⊎◌, inl, inr, ℕ, zero, suc, Bool, true, false, Option, Some, None, List, [], ◌∷◌, ◌++◌, length, Result, Ok, Err, refl, sym, ap, ◌∙◌, arith, add-one, length-append}
use Rattle.std.specs.Prelude.{nat_lt, if◌then◌else◌}
use Rattle.std.proofs.lemmas.Bool.{lt-ltb, le-ltb, cases_lt}
use Rattle.trop_theory.specs.Semiring.{Semiring}
use Rattle.trop_theory.specs.Numbers.{Numbering}
use Rattle.trop_theory.specs.Inequalities.{Inequality}
use Rattle.trop_grammar.specs.Reading.{Reading, Miss, Next, More, Done, go_on, read_then, gives, judged, token_at}
use Rattle.trop_grammar.specs.Lists.{next_or_end, only_end, item_or_end, list_step, list_at}
use Rattle.trop_grammar.proofs.Laws.{go_on-ok}
use Rattle.trop_grammar.proofs.Loops.{list-start, list-more, list-done, list-fails, list-closed, list-unclosed}
use Rattle.trop_text.specs.Pieces.{Piece, Token, LineEnd, InputEnd}
use Rattle.trop_text.specs.declared.fault.FaultKind.{FaultKind}
use Rattle.trop_text.specs.declared.fault.FaultKind.TheVariants.{Syntax}
use Rattle.trop_spelling.specs.declared.terms.Start.{Start}
use Rattle.trop_spelling.specs.declared.ring_kind.RingKind.{RingKind}
use Rattle.trop_spelling.specs.declared.ring_kind.RingKind.TheVariants.{Max as MaxKind, Min as MinKind, Bool as BoolKind}
use Rattle.trop_reading.specs.Words.{is_input_end, passed}
use Rattle.trop_files.specs.Generators.{greatest_number}
use Rattle.trop_spelling.specs.Inequalities.{variable, max_term, term_start, side_start, inequality_at, inequality_rest_at}
use Rattle.trop_files.specs.InequalityFiles.{most_inequalities, past_inequalities, next_inequality, no_inequality, inequalities_at}
use Rattle.trop_files.specs.InequalityLines.{next_start, line_rest_at, line_at, first_at}

-- ---- values of readings

abbrev pub read_ok : {A : Type 0} → A × List Piece → Reading Piece FaultKind A
read_ok p = Ok p

pub same_read : {A : Type 0} (x y : A) (us vs : List Piece) → read_ok (x, us) ≡ read_ok (y, vs) → (x ≡ y) × (us ≡ vs)
same_read {A} x y us vs e = let p : (x, us) ≡ (y, vs) = cc in
    (ap (λ (z : A × List Piece). z.0) p, ap (λ (z : A × List Piece). z.1) p)

judged_ok : {A : Type 0} (v : Result A FaultKind) (p : Piece) (ps : List Piece) (x : A) (us : List Piece) →
    judged v p ps ≡ Ok (x, us) → (v ≡ Ok x) × (ps ≡ us)
judged_ok (Ok y) p ps x us e = let same = same_read y x ps us e in (ap Ok same.0, same.1)
judged_ok (Err what) p ps x us e = absurd cc

token_same : {A : Type 0} (r s : Piece → Result A FaultKind) (ts : List Piece) → ((p : Piece) → r p ≡ s p) →
    token_at Syntax r ts ≡ token_at Syntax s ts
unfolding token_at
token_same r s [] same = refl
token_same r s (p ∷ ps) same = ap (λ v. judged v p ps) (same p)

-- ---- a judge behind some of the lines

begun : {C : Type 0} (ended : Bool) (word : Result C FaultKind) (c : C) → next_or_end ended word ≡ Ok (Some c) →
    word ≡ Ok c
begun true word c e = absurd cc
begun false (Ok d) c e = let same : d ≡ c = cc in ap Ok same
begun false (Err what) c e = absurd cc

judge_ended : {C : Type 0} (open_list ended : Bool) (word : Result C FaultKind) (what : FaultKind)
    → (let r : Result (Option C) FaultKind = if open_list then next_or_end ended word else passed (λ u. None)
    (only_end ended what) in r) ≡ Ok None → ended ≡ true
judge_ended open_list true word what e = refl
judge_ended true false (Ok c) what e = absurd cc
judge_ended true false (Err w) what e = absurd cc
judge_ended false false word what e = absurd cc

only_judged : {C : Type 0} (v : Result (Unit {0}) FaultKind) (c : C) → passed (λ u. None) v ≡ Ok (Some c) → ⊥
only_judged (Ok u) c e = cc
only_judged (Err what) c e = cc

is_end : (p : Piece) → is_input_end p ≡ true → p ≡ InputEnd
is_end InputEnd e = refl
is_end (Token t) e = absurd cc
is_end (LineEnd line) e = absurd cc

-- no side begins with the end of the input
no_side : {V : Type 0} (kind : RingKind) (R : Semiring V) (N : Numbering V) (names : List (List ℕ))
    (c : Option (Start V)) → side_start kind R N greatest_number names InputEnd ≡ Ok c → ⊥
unfolding term_start max_term variable
no_side MaxKind R N names c e = cc
no_side MinKind R N names c e = cc
no_side BoolKind R N names c e = cc

not_end : {V : Type 0} (kind : RingKind) (R : Semiring V) (N : Numbering V) (names : List (List ℕ)) (p : Piece)
    (c : Option (Start V)) → side_start kind R N greatest_number names p ≡ Ok c → is_input_end p ≡ false
not_end kind R N names InputEnd c e = absurd (no_side kind R N names c e)
not_end kind R N names (Token t) c e = refl
not_end kind R N names (LineEnd line) c e = refl

module _ {V : Type 0} (kind : RingKind) (R : Semiring V) (N : Numbering V) (names : List (List ℕ)) where
  abbrev pub Xs : Type 0
  Xs = List (Inequality V)

  abbrev pub start : Xs → Piece → Result (Option (Option (Start V))) FaultKind
  start = next_inequality kind R N names is_input_end

  abbrev pub item : Xs → Option (Start V) → List Piece → Reading Piece FaultKind (Inequality V)
  item before = inequality_rest_at kind R N greatest_number names

  abbrev pub last : Xs → Piece → Result (Unit {0}) FaultKind
  last before = no_inequality kind is_input_end

  abbrev further : Xs → Option (Inequality V) → Next Xs Xs
  further xs None = Done xs
  further xs (Some x) = More (xs ++ x ∷ [])

  go_some : (xs : Xs) (r : Reading Piece FaultKind (Inequality V)) →
      go_on r (λ x. gives (More (xs ++ x ∷ []))) ≡ go_on (go_on r (λ x. gives (Some x))) (λ o. gives (further xs o))
  unfolding gives
  go_some xs (Ok x) = refl
  go_some xs (Err miss) = refl

  go_start : (xs : Xs) (o : Option (Option (Start V))) (vs : List Piece) →
      item_or_end item xs o vs ≡ go_on (line_rest_at kind R N names o vs) (λ o. gives (further xs o))
  unfolding item_or_end line_rest_at gives read_then
  go_start xs None vs = refl
  go_start xs (Some c) vs = go_some xs (inequality_rest_at kind R N greatest_number names c vs)

  go_item : (xs : Xs) (r : Reading Piece FaultKind (Option (Option (Start V)))) →
      go_on r (item_or_end item xs) ≡ go_on (go_on r (line_rest_at kind R N names)) (λ o. gives (further xs o))
  go_item xs (Ok x) = go_start xs x.0 x.1
  go_item xs (Err miss) = refl

  below_start : (k : ℕ) (xs : Xs) (p : Piece) → k < most_inequalities → start xs p ≡ next_start kind R N names k p
  below_start k xs p h = rw (lt-ltb k most_inequalities h) refl

  -- behind fewer lines than the most, the next line is a step along the list
  line_step : (k : ℕ) (xs : Xs) (ts : List Piece) → k < most_inequalities →
      list_step Syntax start item xs ts ≡ go_on (line_at kind R N names k ts) (λ o. gives (further xs o))
  unfolding list_step line_at read_then
  line_step k xs ts h =
      ap (λ r. go_on r (item_or_end item xs)) (token_same (start xs) (next_start kind R N names k) ts
      (λ p. below_start k xs p h))
      ∙ go_item xs (token_at Syntax (next_start kind R N names k) ts)

  go_last : (v : Result (Unit {0}) FaultKind) (p : Piece) (ps : List Piece) →
      go_on (judged (passed (λ u. None) v) p ps) (line_rest_at kind R N names) ≡ go_on (judged v p ps) (λ u. gives None)
  unfolding line_rest_at
  go_last (Ok u) p ps = refl
  go_last (Err what) p ps = refl

  -- behind the most lines only the end may follow
  line_last : (k : ℕ) (ts : List Piece) → most_inequalities ≤ k →
      line_at kind R N names k ts ≡ go_on (token_at Syntax (no_inequality kind is_input_end) ts) (λ u. gives None)
  unfolding line_at read_then token_at
  line_last k [] h = refl
  line_last k (p ∷ ps) h = rw (le-ltb k most_inequalities h) (go_last (no_inequality kind is_input_end p) p ps)

  none_last : (r : Reading Piece FaultKind (Unit {0})) (x : Inequality V) (us : List Piece) →
      go_on r (λ u. gives {A = Option (Inequality V)} None) ≡ Ok (Some x, us) → ⊥
  unfolding gives
  none_last (Ok u) x us e = let apart = (same_read {A = Option (Inequality V)} None (Some x) u.1 us e).0 in cc
  none_last (Err miss) x us e = cc

  below_most : (k : ℕ) (ts : List Piece) (x : Inequality V) (us : List Piece) →
      line_at kind R N names k ts ≡ Ok (Some x, us) → (k < most_inequalities) ⊎ (most_inequalities ≤ k) →
      k < most_inequalities
  below_most k ts x us e (inl h) = h
  below_most k ts x us e (inr h) = absurd (none_last (token_at Syntax (no_inequality kind is_input_end) ts) x us
      (sym (line_last k ts h) ∙ e))

  -- only behind fewer lines than the most an inequality follows
  pub line_below : (k : ℕ) (ts : List Piece) (x : Inequality V) (us : List Piece) →
      line_at kind R N names k ts ≡ Ok (Some x, us) → k < most_inequalities
  line_below k ts x us e = below_most k ts x us e (cases_lt k most_inequalities)

  -- ---- the list

  abbrev pub rest_of : ℕ → Xs → List Piece → Reading Piece FaultKind Xs
  rest_of k xs = list_at Syntax start item last (most_inequalities - k) xs

  list_more : (k : ℕ) (xs : Xs) (ts : List Piece) (x : Inequality V) (us : List Piece) → k < most_inequalities →
      line_at kind R N names k ts ≡ Ok (Some x, us) → rest_of k xs ts ≡ rest_of (k + 1) (xs ++ x ∷ []) us
  unfolding gives
  list_more k xs ts x us h e = list-more Syntax start item last most_inequalities k xs (xs ++ x ∷ []) ts us true h refl
      (line_step k xs ts h ∙ ap (λ r. go_on r (λ o. gives (further xs o))) e)

  last_ok : (r : Reading Piece FaultKind (Unit {0})) (us : List Piece) →
      go_on r (λ u. gives {A = Option (Inequality V)} None) ≡ Ok (None, us) → r ≡ Ok (tt, us)
  unfolding gives
  last_ok (Ok u) us e = let same = same_read {A = Option (Inequality V)} None None u.1 us e in
      ap (λ z. Ok (tt, z)) same.1
  last_ok (Err miss) us e = absurd cc

  last_err : (r : Reading Piece FaultKind (Unit {0})) (miss : Miss Piece FaultKind) →
      go_on r (λ u. gives {A = Option (Inequality V)} None) ≡ Err miss → r ≡ Err miss
  unfolding gives
  last_err (Ok u) miss e = absurd cc
  last_err (Err other) miss e = let same : other ≡ miss = cc in ap Err same

  ended_by : (k : ℕ) (xs : Xs) (ts us : List Piece) → line_at kind R N names k ts ≡ Ok (None, us) →
      (k < most_inequalities) ⊎ (most_inequalities ≤ k) → rest_of k xs ts ≡ Ok (xs, us)
  unfolding gives
  ended_by k xs ts us e (inl h) = list-done Syntax start item last most_inequalities k xs xs ts us false h refl
      (line_step k xs ts h ∙ ap (λ r. go_on r (λ o. gives (further xs o))) e)
  ended_by k xs ts us e (inr h) = list-closed Syntax start item last most_inequalities k xs ts us h
      (last_ok (token_at Syntax (no_inequality kind is_input_end) ts) us (sym (line_last k ts h) ∙ e))

  -- where no line is left the list is at its end
  pub list_ends : (k : ℕ) (xs : Xs) (ts us : List Piece) → line_at kind R N names k ts ≡ Ok (None, us) →
      rest_of k xs ts ≡ Ok (xs, us)
  list_ends k xs ts us e = ended_by k xs ts us e (cases_lt k most_inequalities)

  failed_by : (k : ℕ) (xs : Xs) (ts : List Piece) (miss : Miss Piece FaultKind) →
      line_at kind R N names k ts ≡ Err miss → (k < most_inequalities) ⊎ (most_inequalities ≤ k) →
      rest_of k xs ts ≡ Err miss
  failed_by k xs ts miss e (inl h) = list-fails Syntax start item last most_inequalities k xs ts miss h
      (line_step k xs ts h ∙ ap (λ r. go_on r (λ o. gives (further xs o))) e)
  failed_by k xs ts miss e (inr h) = list-unclosed Syntax start item last most_inequalities k xs ts miss h
      (last_err (token_at Syntax (no_inequality kind is_input_end) ts) miss (sym (line_last k ts h) ∙ e))

  -- a fault of the next line is that of the list
  pub list_stops : (k : ℕ) (xs : Xs) (ts : List Piece) (miss : Miss Piece FaultKind) →
      line_at kind R N names k ts ≡ Err miss → rest_of k xs ts ≡ Err miss
  list_stops k xs ts miss e = failed_by k xs ts miss e (cases_lt k most_inequalities)

  -- ---- a single line

  -- what the judge let pass, and what follows it
  record Started {X : Type 0} (judge : Piece → Result X FaultKind) (ts : List Piece) (x : X)
      (vs : List Piece) : Type 0 where
    piece : Piece
    whole : ts ≡ piece ∷ vs
    passes : judge piece ≡ Ok x

  started : {X : Type 0} (judge : Piece → Result X FaultKind) (ts : List Piece) (x : X) (vs : List Piece) →
      token_at Syntax judge ts ≡ Ok (x, vs) → Started judge ts x vs
  unfolding token_at
  started judge [] x vs e = absurd cc
  started judge (p ∷ ps) x vs e = let j = judged_ok (judge p) p ps x vs e in
      record { piece = p; whole = ap (λ (z : List Piece). p ∷ z) j.1; passes = j.0 }

  starts : {X : Type 0} (judge : Piece → Result X FaultKind) (p : Piece) (x : X) (ts vs : List Piece) → ts ≡ p ∷ vs →
      judge p ≡ Ok x → token_at Syntax judge ts ≡ Ok (x, vs)
  unfolding token_at
  starts judge p x ts vs whole e = ap (token_at Syntax judge) whole ∙ ap (λ v. judged v p vs) e

  rest_none : (o : Option (Option (Start V))) (vs us : List Piece) → line_rest_at kind R N names o vs ≡ Ok (None, us) →
      (o ≡ None) × (vs ≡ us)
  unfolding line_rest_at gives read_then
  rest_none None vs us e = (refl, (same_read {A = Option (Inequality V)} None None vs us e).1)
  rest_none (Some c) vs us e = let b = go_on-ok (inequality_rest_at kind R N greatest_number names c vs)
      (λ x. gives (Some x)) (None, us) e in let apart =
      (same_read {A = Option (Inequality V)} (Some b.0.0) None b.0.1 us b.2).0 in absurd cc

  rest_some : (o : Option (Option (Start V))) (vs : List Piece) (x : Inequality V) (us : List Piece) →
      line_rest_at kind R N names o vs ≡ Ok (Some x, us) →
      (c : Option (Start V)) × (o ≡ Some c) × (inequality_rest_at kind R N greatest_number names c vs ≡ Ok (x, us))
  unfolding line_rest_at gives read_then
  rest_some None vs x us e = let apart = (same_read {A = Option (Inequality V)} None (Some x) vs us e).0 in absurd cc
  rest_some (Some c) vs x us e =
      let b = go_on-ok (inequality_rest_at kind R N greatest_number names c vs) (λ x. gives (Some x)) (Some x, us) e in
      let both = same_read {A = Option (Inequality V)} (Some b.0.0) (Some x) b.0.1 us b.2 in
      let whole = both.0 in
      let same : b.0.0 ≡ x = cc in
      (c, refl, b.1 ∙ ap (λ z. Ok (z, b.0.1)) same ∙ ap (λ z. Ok (x, z)) both.1)

  -- no line is left just at the end of the input
  pub ends_input : (k : ℕ) (ts us : List Piece) → line_at kind R N names k ts ≡ Ok (None, us) → ts ≡ InputEnd ∷ us
  unfolding line_at read_then
  ends_input k ts us e =
      let b = go_on-ok (token_at Syntax (next_start kind R N names k) ts) (line_rest_at kind R N names) (None, us) e in
      let r = rest_none b.0.0 b.0.1 us b.2 in
      let s = started (next_start kind R N names k) ts b.0.0 b.0.1 b.1 in
      let ended = judge_ended (nat_lt k most_inequalities) (is_input_end s.piece)
      (side_start kind R N greatest_number names s.piece) (past_inequalities kind s.piece) (s.passes ∙ ap Ok r.0) in
      s.whole ∙ ap (λ z. z ∷ b.0.1) (is_end s.piece ended) ∙ ap (λ (z : List Piece). InputEnd ∷ z) r.1

  pub end_none : (k : ℕ) (ts us : List Piece) → ts ≡ InputEnd ∷ us → line_at kind R N names k ts ≡ Ok (None, us)
  unfolding line_at read_then token_at line_rest_at gives
  end_none k ts us whole = ap (line_at kind R N names k) whole ∙ at_end (nat_lt k most_inequalities)
    where
      at_end : (b : Bool) → go_on (judged (if b then next_or_end true
          (side_start kind R N greatest_number names InputEnd) else passed (λ u. None)
          (only_end true (past_inequalities kind InputEnd))) InputEnd us) (line_rest_at kind R N names) ≡ Ok (None, us)
      at_end true = refl
      at_end false = refl

  -- the next line is that of an inequality
  pub line_is : (k : ℕ) (ts : List Piece) (x : Inequality V) (us : List Piece) →
      line_at kind R N names k ts ≡ Ok (Some x, us) → inequality_at kind R N greatest_number names ts ≡ Ok (x, us)
  unfolding line_at inequality_at read_then
  line_is k ts x us e =
      let b = go_on-ok (token_at Syntax (next_start kind R N names k) ts) (line_rest_at kind R N names)
      (Some x, us) e in
      let r = rest_some b.0.0 b.0.1 x us b.2 in
      let s = started (next_start kind R N names k) ts b.0.0 b.0.1 b.1 in
      let below = line_below k ts x us e in
      let word = begun (is_input_end s.piece) (side_start kind R N greatest_number names s.piece) r.0
      (below_start k [] s.piece below ∙ s.passes ∙ ap Ok r.1) in
      ap (λ v. go_on v (inequality_rest_at kind R N greatest_number names))
      (starts (side_start kind R N greatest_number names) s.piece r.0 ts b.0.1 s.whole word) ∙ r.2

  pub line_from : (k : ℕ) (ts : List Piece) (x : Inequality V) (us : List Piece) → k < most_inequalities →
      inequality_at kind R N greatest_number names ts ≡ Ok (x, us) → line_at kind R N names k ts ≡ Ok (Some x, us)
  unfolding line_at inequality_at read_then line_rest_at gives
  line_from k ts x us below e =
      let b = go_on-ok (token_at Syntax (side_start kind R N greatest_number names) ts)
      (inequality_rest_at kind R N greatest_number names) (x, us) e in
      let s = started (side_start kind R N greatest_number names) ts b.0.0 b.0.1 b.1 in
      let other = not_end kind R N names s.piece b.0.0 s.passes in
      let word : next_start kind R N names k s.piece ≡ Ok (Some b.0.0) =
      sym (below_start k [] s.piece below) ∙ ap
      (λ z. next_or_end z (side_start kind R N greatest_number names s.piece)) other
      ∙ ap (next_or_end false) s.passes in
      ap (λ v. go_on v (line_rest_at kind R N names))
      (starts (next_start kind R N names k) s.piece (Some b.0.0) ts b.0.1 s.whole word)
      ∙ ap (λ v. go_on v (λ x. gives (Some x))) b.2

  -- ---- the first lines

  record Snoc (k : ℕ) (ts : List Piece) (xs : Xs) (us : List Piece) : Type 0 where
    before : Xs
    at : List Piece
    x : Inequality V
    first : first_at kind R N names k ts ≡ Ok (before, at)
    line : inequality_at kind R N greatest_number names at ≡ Ok (x, us)
    is : xs ≡ before ++ x ∷ []

  snoc : (k : ℕ) (ts : List Piece) (xs : Xs) (us : List Piece) → first_at kind R N names (suc k) ts ≡ Ok (xs, us) →
      Snoc k ts xs us
  unfolding first_at read_then gives
  snoc k ts xs us e =
      let b = go_on-ok (first_at kind R N names k ts)
      (λ ys. read_then (inequality_at kind R N greatest_number names) (λ x. gives (ys ++ x ∷ []))) (xs, us) e in
      let d = go_on-ok (inequality_at kind R N greatest_number names b.0.1) (λ x. gives (b.0.0 ++ x ∷ []))
      (xs, us) b.2 in
      let same = same_read (b.0.0 ++ d.0.0 ∷ []) xs d.0.1 us d.2 in
      record {
        before = b.0.0;
        at = b.0.1;
        x = d.0.0;
        first = b.1;
        line = d.1 ∙ ap (λ z. Ok (d.0.0, z)) same.1;
        is =
            sym same.0;
      }

  -- one line more
  pub first_more : (k : ℕ) (ts : List Piece) (xs : Xs) (us : List Piece) (x : Inequality V) (vs : List Piece) →
      first_at kind R N names k ts ≡ Ok (xs, us) → inequality_at kind R N greatest_number names us ≡ Ok (x, vs) →
      first_at kind R N names (k + 1) ts ≡ Ok (xs ++ x ∷ [], vs)
  unfolding first_at read_then gives
  first_more k ts xs us x vs e line =
      ap (λ m. first_at kind R N names m ts) (add-one k)
      ∙ ap (λ r. go_on r (λ ys. read_then (inequality_at kind R N greatest_number names)
      (λ x. gives (ys ++ x ∷ [])))) e
      ∙ ap (λ r. go_on r (λ x. gives (xs ++ x ∷ []))) line

  pub first_length : (k : ℕ) (ts : List Piece) (xs : Xs) (us : List Piece) →
      first_at kind R N names k ts ≡ Ok (xs, us) → length xs ≡ k
  unfolding first_at gives
  first_length zero ts xs us e = let same = same_read [] xs ts us e in ap length (sym same.0)
  first_length (suc k) ts xs us e =
      let s = snoc k ts xs us e in
      let before = first_length k ts s.before s.at s.first in
      ap length s.is ∙ (let n : length (s.before ++ s.x ∷ []) ≡ suc k =
      omega (arith, length-append s.before (s.x ∷ []), before) in n)

  -- reading on behind the first lines is reading from the start
  pub reads_on : (k : ℕ) (ts : List Piece) (xs : Xs) (us : List Piece) → k ≤ most_inequalities →
      first_at kind R N names k ts ≡ Ok (xs, us) → inequalities_at kind R N names is_input_end ts ≡ rest_of k xs us
  unfolding first_at gives inequalities_at
  reads_on zero ts xs us h e =
      let same = same_read [] xs ts us e in
      sym (list-start Syntax start item last most_inequalities [] ts) ∙ ap (λ z. rest_of 0 z ts) same.0
      ∙ ap (rest_of 0 xs) same.1
  reads_on (suc k) ts xs us h e =
      let s = snoc k ts xs us e in
      let below : k < most_inequalities = omega arith in
      reads_on k ts s.before s.at (omega arith) s.first
      ∙ list_more k s.before s.at s.x us below (line_from k s.at s.x us below s.line)
      ∙ ap (λ m. rest_of m (s.before ++ s.x ∷ []) us) (add-one k)
      ∙ ap (λ z. rest_of (suc k) z us) (sym s.is)
