-- Trace files are read right, and each stop is at the first fault.
-- Index: IsUsed, row_reads, trace_reads, trace_only, trace_found, trace_fault.
use Rattle.std.proofs.Common.{◌≡◌, ◌<◌, ◌&&◌, ℕ, ℤ, Bool, true, false, cond, Some, None, pos, neg_ℤ, List, [], ◌∷◌, ◌++◌, codes, Ok, Err, refl, inl, inr}
use Rattle.trop_text.specs.Digits.{number_of}
use Rattle.trop_text.specs.declared.token.TokenKind.TheVariants.{Digits, Sign}
use Rattle.trop_text.specs.Pieces.{Token}
use Rattle.shape_grammar.specs.Shape as shapes
use Rattle.shape_grammar.proofs.Pasts.{past-append}
use Rattle.trop_text.specs.declared.fault.FaultKind.{FaultKind}
use Rattle.trop_text.specs.declared.fault.FaultKind.TheVariants.{Syntax, NumberRange}
use Rattle.trop_grammar.specs.Reading.{Miss, read_then}
use Rattle.trop_grammar.specs.Lists.{Passes}
use Rattle.shape_grammar.specs.Past.{past}
use Rattle.shape_grammar.specs.Steps.{token_past}
use Rattle.shape_grammar.specs.Texts.{One}
use Rattle.shape_grammar.specs.Shape.{Shape, Has, Begins, Nothing, Never, Next, Often, Both}
use Rattle.shape_grammar.specs.Reads.{Reads, Heads}
use Rattle.shape_grammar.specs.Faults.{IsFirstFault}
use Rattle.shape_grammar.proofs.Laws.{Grows, has-both, Reads-gives, Reads-bind, Reads-then}
use Rattle.shape_grammar.proofs.TokenLaws.{Behind, has-next}
use Rattle.shape_grammar.proofs.Choices.{Fits, Lets, Refuses, choose, Reads-token, Reads-choice, Reads-behind, Reads-map, Begins_it, Leaves_it, choose_maybe, Reads-often}
use Rattle.shape_grammar.proofs.Whole.{found, only, first_fault}
use Rattle.prog_theory.specs.Limits.{Limits}
use Rattle.prog_texts.specs.AssertRule.{AssertRule}
use Rattle.prog_texts.specs.Words.{Counted, text, skipped, says, is_digits}
use Rattle.prog_texts.specs.RowRule.{RowRule, one_each, any_number}
use Rattle.prog_texts.specs.Shapes.{Noun, language, token, sign, entry, row_rest, row, trace_file}
use Rattle.prog_texts.specs.Rows.{entry_first, Bare, Starts, row_first, comma, row_end, IsEntryRest, IsEntry, AreMore, IsRowRest, IsRow, entry_rest, next_entry_at, more_at, row_rest_at, row_at}
use Rattle.prog_texts.specs.Traces.{TraceFile, trace_of, IsTraceFile, trace_file_at, IsTraceCause}
use Rattle.prog_texts.proofs.Signs.{Anything, sample, nothing, some_next, some_both, some_often, said_reads, end_reads, number_reads, sized_fits, Fits-more, text_is, only_where, led_sign, led_first}
use Rattle.prog_texts.proofs.ProgramLaws.{IsOver, over_led, program_reads, some_program}

-- a number of a row is out of range
abbrev IsFar : ℕ → FaultKind → List Counted → Counted → Type 0
IsFar bound what before t = (what ≡ NumberRange) × (is_digits t ≡ true) × (bound < number_of (text t))

far_grows : (bound : ℕ) → Grows (IsFar bound)
far_grows bound = record { behind = λ us w before t c. c }

both_first : (a b : Bool) → (a && b) ≡ true → a ≡ true
both_first true b e = refl
both_first false b e = absurd cc

module _ (bound n : ℕ) where
  entry_fits : (t : Counted) → Fits language Syntax n Anything (entry_rest bound) (IsEntryRest bound) (IsFar bound) t
      (entry_first bound t) (entry t)
  unfolding entry_rest
  entry_fits t =
      choose language Syntax (is_digits t)
      (λ e. sized_fits n bound (IsFar bound) Some t (λ front q. (refl, e, q)) nothing
      (λ k. Reads-gives language Syntax n (pos k) tt))
      (λ a. choose language Syntax (says (codes "-") t)
      (λ e. Lets None refl (Reads-behind language Syntax t (far_grows bound)
      (Reads-map language Syntax (λ k. neg_ℤ (pos k)) 0
      (number_reads n bound (IsFar bound) (λ u front q r. (refl, q, r)) tt))))
      (λ b. Refuses refl refl))

  some_entry : Begins language (Next entry) []
  some_entry = some_next {f = entry} (sample Digits (codes "0")) refl nothing

  entry_reads : Reads language Syntax n Anything (read_then (token_past skipped Syntax (entry_first bound))
      (entry_rest bound)) (IsEntry bound) (Next entry) (IsFar bound)
  entry_reads = Reads-choice language Syntax (sample Digits (codes "0")) refl nothing tt entry_fits

-- what some token lets a row go on with
pub record IsUsed (R : RowRule) : Type 0 where
  pub last : Counted
  pub real : skipped last ≡ false
  pub ends : (says (codes "]") last && R.ends last) ≡ true
  pub bare : Counted
  pub there : skipped bare ≡ false
  pub closes : (says (codes "]") bare && R.bare bare) ≡ true

module _ (R : RowRule) (bound : ℕ) (used : IsUsed R) where
  abbrev NoComma : List Counted → Type 0
  NoComma vs = Heads (λ t. comma R t ≡ None) (past skipped vs)

  no_comma_none : NoComma []
  unfolding past
  no_comma_none = tt

  abbrev next_shape : Counted → Shape Counted Noun
  next_shape u = cond (says (codes ",") u && R.goes_on u) (Next entry) Never

  abbrev last_shape : Shape Counted Noun
  last_shape = token (λ u. says (codes "]") u && R.ends u)

  comma_off : (t : Counted) → text t ≡ codes "]" → comma R t ≡ None
  comma_off t e = let k : says (codes ",") t ≡ false = rw e refl in rw k refl

  no_comma_end : (ws vs : List Counted) → Has language last_shape ws → NoComma (ws ++ vs)
  no_comma_end ws vs h =
      let i = has-next language h in
      let e = only_where (says (codes "]") i.token && R.ends i.token) Nothing i.behind i.is in
      rw (past-append skipped ws i.token i.behind vs i.whole)
      (comma_off i.token (text_is (codes "]") i.token (both_first (says (codes "]") i.token) (R.ends i.token) e)))

  some_last : Begins language last_shape []
  some_last = some_next {f = λ u. cond (says (codes "]") u && R.ends u) Nothing Never} used.last used.real
      (record { more = []; is = rw (used.ends) (shapes.Empty refl) })

  last_reads : (n : ℕ) → Reads language Syntax n Anything (token_past skipped Syntax (row_end R))
      (One skipped (Passes (row_end R))) last_shape (IsFar bound)
  last_reads n = Reads-token language Syntax {f = λ u. cond (says (codes "]") u && R.ends u) Nothing Never} used.last
      used.real (record { more = []; is = rw (used.ends) (shapes.Empty refl) }) tt
      (λ t. choose language Syntax (says (codes "]") t && R.ends t)
      (λ e. Lets tt refl (Reads-gives language Syntax n tt tt)) (λ e. Refuses refl refl))

  more_reads : (n : ℕ) (x : ℤ) → Reads language Syntax n Anything (more_at R bound x) (AreMore R bound x)
      (Both (Often next_shape) last_shape) (IsFar bound)
  unfolding more_at next_entry_at
  more_reads n x =
      Reads-bind language Syntax n NoComma Anything (IsFar bound) []
      (Reads-often language Syntax Anything NoComma (far_grows bound) no_comma_none (λ xs vs ends. ends)
      (λ ws vs k ends. tt)
      (λ k xs t. choose_maybe language Syntax (says (codes ",") t && R.goes_on t)
      (λ e. Begins_it tt refl (Reads-behind language Syntax t (far_grows bound)
      (Reads-map language Syntax (λ y. xs ++ y ∷ []) (pos 0) (entry_reads bound k)))) (λ e. Leaves_it refl refl))
      (x ∷ []))
      (λ xs. Reads-map language Syntax (λ u. xs) tt (last_reads n))
      (λ ws vs h ends. no_comma_end ws vs h) (λ w before t begins c. c) (λ y us w before t k c. c)

  row_fits : (n : ℕ) (t : Counted) → Fits language Syntax n Anything (row_rest_at R bound) (IsRowRest R bound)
      (IsFar bound) t (row_first R bound t) (row_rest R t)
  unfolding row_rest_at
  row_fits n t =
      choose language Syntax (says (codes "]") t && R.bare t)
      (λ e. Lets Bare refl (Reads-gives language Syntax n [] tt))
      (λ a. choose language Syntax (R.starts t)
      (λ e. Fits-more n Starts (λ k. some_both k (some_both some_often some_last))
      (λ us h. let i = has-both language h in (i.front, i.first))
      (λ x h. Reads-bind language Syntax n Anything Anything {B₂ = λ l. IsFar bound} (Behind (IsFar bound) t) (pos 0) h
      (more_reads n) (λ ws vs k ends. tt) (λ w before u begins c. c) (λ y us w before u k c front. c))
      (entry_fits bound n t))
      (λ b. Refuses refl refl))

  pub row_reads : (n : ℕ) → Reads language Syntax n Anything (row_at R bound) (IsRow R bound) (row R) (IsFar bound)
  unfolding row_at
  row_reads n =
      Reads-then language Syntax n (far_grows bound) tt (said_reads n (codes "[") refl tt)
      (λ u. Reads-choice language Syntax {f = row_rest R} used.bare used.there
      (record { more = []; is = rw (used.closes) (shapes.Empty refl) }) tt (row_fits n))

abbrev close_with : ℕ → ℕ → Counted
close_with names commas = record {
  piece = Token (record { kind = Sign; text = codes "]"; line = 1; column = 1 });
  before = record {
    last = [];
    sums = false;
    declares = false;
    names = names;
    commas = commas;
    statements = 0;
    atoms =
        0;
  };
}

any_used : IsUsed any_number
any_used = record {
  last = sample Sign (codes "]");
  real = refl;
  ends = refl;
  bare = sample Sign (codes "]");
  there =
      refl;
  closes = refl;
}

one_used : IsUsed one_each
one_used = record {
  last = close_with 1 0;
  real = refl;
  ends = refl;
  bare = close_with 0 0;
  there = refl;
  closes =
      refl;
}

module _ (L : Limits) (rule : AssertRule) where
  abbrev Rests : FaultKind → List Counted → Counted → Type 0
  Rests = IsFar L.entry

  pub trace_reads : (n : ℕ) → Reads language Syntax n Anything (trace_file_at L rule) (IsTraceFile L rule) trace_file
      (IsTraceCause L rule)
  unfolding trace_file_at
  trace_reads n =
      Reads-bind language Syntax n IsOver Anything {B₂ = λ p. IsFar L.entry} (IsTraceCause L rule) (some_program L rule)
      (program_reads L rule n)
      (λ p. Reads-then language Syntax n (far_grows L.entry) tt (said_reads n (codes "start") refl tt)
      (λ u. Reads-then language Syntax n (far_grows L.entry) [] (row_reads one_each L.entry one_used n)
      (λ s. Reads-then language Syntax n (far_grows L.entry) tt (said_reads n (codes "choices") refl tt)
      (λ v. Reads-then language Syntax n (far_grows L.entry) [] (row_reads any_number L.entry any_used n)
      (λ c. Reads-map language Syntax (λ w. trace_of p s c) tt (end_reads n))))))
      (λ ws vs h ends. over_led (codes "start") refl refl (ws ++ vs)
      (led_first (codes "start") (sign (codes "start")) _ (led_sign (codes "start")) ws vs h))
      (λ w before t begins c. inl (begins, c)) (λ x us w before t h c. inr c)

  -- what is spelled is read
  pub trace_only : (ts : List Counted) (x : TraceFile) → IsTraceFile L rule ts x → trace_file_at L rule ts ≡ Ok (x, [])
  trace_only ts x h = only language Syntax trace_reads ts x h

  -- what is read is spelled
  pub trace_found : (ts : List Counted) (x : TraceFile) → trace_file_at L rule ts ≡ Ok (x, []) → IsTraceFile L rule ts x
  trace_found ts x e = found language Syntax trace_reads ts x [] e refl

  -- a stop is the first fault
  pub trace_fault : (ts : List Counted) (miss : Miss Counted FaultKind) → trace_file_at L rule ts ≡ Err miss →
      IsFirstFault language Syntax (IsTraceFile L rule) trace_file (IsTraceCause L rule) ts miss.what miss.rest
  trace_fault ts miss e = first_fault language Syntax trace_reads ts miss e
