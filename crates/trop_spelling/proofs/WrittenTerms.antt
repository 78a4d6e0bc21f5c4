-- Printed terms and sides are read back.
-- Index: Within, minus_written, plus_written, comma_written, open_written, close_written, max_element, min_element,
-- truth_element, max_shifted, min_shifted, truth_variable.
use Rattle.std.proofs.Common.{◌≡◌, ◌<◌, ◌≤◌, ◌+◌, ◌^◌, ℕ, zero, suc, true, List, [], ◌++◌, length, codes, Option, Some, None, refl, sym, subst, arith, pos}
use Rattle.std.specs.Prelude.{ℤ, negsuc, decimal, unsigned_abs, slice_index_or}
use Rattle.std.proofs.lemmas.List.{append-nil}
use Rattle.trop_theory.specs.Semiring.{Semiring}
use Rattle.trop_theory.specs.Numbers.{Numbering}
use Rattle.trop_grammar.specs.Grammar.{Optional}
use Rattle.trop_text.specs.Name.{is_name}
use Rattle.trop_text.specs.Names.{AreNames}
use Rattle.trop_text.specs.declared.token.TokenKind.TheVariants.{Word, Sign}
use Rattle.trop_text.proofs.Signs.{and_first}
use Rattle.trop_text.proofs.Written.{IsOne, IsWritten, written_join, written_as}
use Rattle.trop_text.proofs.WrittenTokens.{StopsWord, Always, word_written, digits_written, short_written, blank_written}
use Rattle.trop_spelling.specs.declared.ring_kind.RingKind.{RingKind}
use Rattle.trop_spelling.specs.declared.ring_kind.RingKind.TheVariants.{Max as MaxKind, Min as MinKind, Bool as BoolKind}
use Rattle.trop_spelling.specs.Spelling.{element_text}
use Rattle.trop_spelling.specs.Printed.{shift_text}
use Rattle.trop_spelling.specs.declared.terms.Start.TheVariants.{Variable}
use Rattle.trop_spelling.specs.Inequalities.{term, shift_sign, IsShifted, IsTermRest}
use Rattle.trop_reading.proofs.NameWords.{place_at}
use Rattle.trop_reading.proofs.WrittenTexts.{minus_alone, comma_alone}
use Rattle.trop_spelling.proofs.PrintedTerms.{IsPlainTerm, max_number, min_number, max_negative, min_negative, max_zero, min_zero, truth_zero, truth_one, variable_term, lone_variable, added, taken}

-- a number that is at most so large, if there is one
abbrev pub Within : ℕ → Option ℤ → Type 0
Within bound None = Unit {0}
Within bound (Some n) = unsigned_abs n ≤ bound

-- The signs of terms and sums, of which none begins a longer one.
pub minus_written : IsWritten Always (codes "-") (IsOne Sign (codes "-"))
minus_written = short_written 45 minus_alone

pub plus_written : IsWritten Always (codes "+") (IsOne Sign (codes "+"))
plus_written = short_written 43 (record {
  stands = (refl, refl, refl);
  no_letter = refl;
  no_digit = refl;
  short =
      refl;
  alone = λ c. refl;
})

pub comma_written : IsWritten Always (codes ",") (IsOne Sign (codes ","))
comma_written = short_written 44 comma_alone

pub open_written : IsWritten Always (codes "(") (IsOne Sign (codes "("))
open_written = short_written 40 (record {
  stands = (refl, refl, refl);
  no_letter = refl;
  no_digit = refl;
  short =
      refl;
  alone = λ c. refl;
})

pub close_written : IsWritten Always (codes ")") (IsOne Sign (codes ")"))
close_written = short_written 41 (record {
  stands = (refl, refl, refl);
  no_letter = refl;
  no_digit = refl;
  short =
      refl;
  alone = λ c. refl;
})

-- ---- constants

module _ {V : Type 0} (R : Semiring V) (N : Numbering V) (bound : ℕ) (names : List (List ℕ))
    (small : bound < 2 ^ 64) where
  abbrev ReadsTerm : RingKind → ℕ → V → List ℕ → Type 0
  ReadsTerm kind i x text = IsWritten StopsWord text (λ us. IsPlainTerm kind R N bound names us (term i x))

  pub max_element : (o : Option ℤ) (x : V) → Within bound o → (o ≡ None → x ≡ R.zero) →
      ((n : ℤ) → o ≡ Some n → N.of n ≡ x) → ReadsTerm MaxKind 0 x (element_text MaxKind o)
  max_element None x within zero_is of_is =
      subst (λ y. ReadsTerm MaxKind 0 y (codes "-oo")) (sym (zero_is refl))
      (written_join (λ us vs. max_zero R N bound names us vs) (λ rest s. tt) minus_written
      (word_written (codes "oo") refl))
  max_element (Some (pos n)) x within zero_is of_is =
      subst (λ y. ReadsTerm MaxKind 0 y (decimal n)) (of_is (pos n) refl)
      (written_as (λ us. max_number R N bound names n us (omega arith) within) (λ rest s. s)
      (digits_written n (omega arith)))
  max_element (Some (negsuc n)) x within zero_is of_is =
      subst (λ y. ReadsTerm MaxKind 0 y (codes "-" ++ decimal (suc n))) (of_is (negsuc n) refl)
      (written_join (λ us vs. max_negative R N bound names (suc n) us vs (omega arith) within)
      (λ rest s. tt) minus_written (digits_written (suc n) (omega arith)))

  pub min_element : (o : Option ℤ) (x : V) → Within bound o → (o ≡ None → x ≡ R.zero) →
      ((n : ℤ) → o ≡ Some n → N.of n ≡ x) → ReadsTerm MinKind 0 x (element_text MinKind o)
  min_element None x within zero_is of_is = subst (λ y. ReadsTerm MinKind 0 y (codes "oo")) (sym (zero_is refl))
      (written_as (λ us. min_zero R N bound names us) (λ rest s. s) (word_written (codes "oo") refl))
  min_element (Some (pos n)) x within zero_is of_is =
      subst (λ y. ReadsTerm MinKind 0 y (decimal n)) (of_is (pos n) refl)
      (written_as (λ us. min_number R N bound names n us (omega arith) within) (λ rest s. s)
      (digits_written n (omega arith)))
  min_element (Some (negsuc n)) x within zero_is of_is =
      subst (λ y. ReadsTerm MinKind 0 y (codes "-" ++ decimal (suc n))) (of_is (negsuc n) refl)
      (written_join (λ us vs. min_negative R N bound names (suc n) us vs (omega arith) within)
      (λ rest s. tt) minus_written (digits_written (suc n) (omega arith)))

  pub truth_element : (o : Option ℤ) (x : V) → (o ≡ None → x ≡ R.zero) → ((n : ℤ) → o ≡ Some n → x ≡ R.one) →
      ReadsTerm BoolKind 0 x (element_text BoolKind o)
  truth_element None x zero_is one_is = subst (λ y. ReadsTerm BoolKind 0 y (codes "false")) (sym (zero_is refl))
      (written_as (λ us. truth_zero R N bound names us) (λ rest s. s) (word_written (codes "false") refl))
  truth_element (Some n) x zero_is one_is = subst (λ y. ReadsTerm BoolKind 0 y (codes "true")) (sym (one_is n refl))
      (written_as (λ us. truth_one R N bound names us) (λ rest s. s) (word_written (codes "true") refl))

-- ---- what is added to a variable

module _ {V : Type 0} (R : Semiring V) (N : Numbering V) (bound i : ℕ) (small : bound < 2 ^ 64) where
  abbrev ReadsShift : V → List ℕ → Type 0
  ReadsShift x text = IsWritten StopsWord text (λ us. Optional shift_sign (term i R.one) (IsShifted N bound i) us
      (term i x))

  up_written : (n : ℕ) → suc n ≤ bound → ReadsShift (N.of (pos (suc n))) (codes " + " ++ decimal (suc n))
  up_written n within = blank_written (written_join (λ us vs. added R N bound i (suc n) us vs (omega arith) within)
      (λ rest s. tt) plus_written (blank_written (digits_written (suc n) (omega arith))))

  down_written : (n : ℕ) → suc n ≤ bound → ReadsShift (N.of (negsuc n)) (codes " - " ++ decimal (suc n))
  down_written n within = blank_written (written_join (λ us vs. taken R N bound i (suc n) us vs (omega arith) within)
      (λ rest s. tt) minus_written (blank_written (digits_written (suc n) (omega arith))))

-- ---- variables

module _ {V : Type 0} (R : Semiring V) (N : Numbering V) (bound : ℕ) (names : List (List ℕ)) (small : bound < 2 ^ 64)
    (are : AreNames names) (k : ℕ) (here : k < length names) where
  name_is : is_name (slice_index_or names k []) ≡ true
  name_is = are.each k [] here

  name_written : IsWritten StopsWord (slice_index_or names k []) (IsOne Word (slice_index_or names k []))
  name_written = word_written (slice_index_or names k []) (and_first _ _ (and_first _ _ name_is))

  -- the variable, and what stands behind it
  with_rest : (kind : RingKind) (x : V) (text : List ℕ) →
      ((rest : List ℕ) → StopsWord rest → StopsWord (text ++ rest)) →
      IsWritten StopsWord text (λ us. IsTermRest kind R N bound (Variable (k + 1)) us (term (k + 1) x))
      → ReadsTerm R N bound names small kind (k + 1) x (slice_index_or names k [] ++ text)
  with_rest kind x text stops h = written_join (λ us vs. variable_term R N bound names
      (slice_index_or names k []) k name_is (place_at names k are here) kind us vs (term (k + 1) x)) stops name_written
      h

  variable_alone : (kind : RingKind) → ReadsTerm R N bound names small kind (k + 1) R.one
      (slice_index_or names k [] ++ [])
  variable_alone kind =
      rw append-nil (written_as (λ us o. subst (λ ps. IsPlainTerm kind R N bound names ps (term (k + 1) R.one))
      (append-nil us)
      (variable_term R N bound names (slice_index_or names k []) k name_is (place_at names k are here) kind us []
      (term (k + 1) R.one) o (lone_variable R N bound (k + 1) kind))) (λ rest s. s) name_written)

  pub max_shifted : (c : ℤ) (x : V) → unsigned_abs c ≤ bound → (c ≡ pos 0 → x ≡ R.one) → N.of c ≡ x →
      ReadsTerm R N bound names small MaxKind (k + 1) x (slice_index_or names k [] ++ shift_text c)
  max_shifted (pos zero) x within one_is of_is = subst
      (λ y. ReadsTerm R N bound names small MaxKind (k + 1) y (slice_index_or names k [] ++ [])) (sym (one_is refl))
      (variable_alone MaxKind)
  max_shifted (pos (suc n)) x within one_is of_is =
      subst (λ y. ReadsTerm R N bound names small MaxKind (k + 1) y
      (slice_index_or names k [] ++ (codes " + " ++ decimal (suc n)))) of_is
      (with_rest MaxKind _ _ (λ rest s. refl) (up_written R N bound (k + 1) small n within))
  max_shifted (negsuc n) x within one_is of_is =
      subst (λ y. ReadsTerm R N bound names small MaxKind (k + 1) y
      (slice_index_or names k [] ++ (codes " - " ++ decimal (suc n)))) of_is
      (with_rest MaxKind _ _ (λ rest s. refl) (down_written R N bound (k + 1) small n within))

  pub min_shifted : (c : ℤ) (x : V) → unsigned_abs c ≤ bound → (c ≡ pos 0 → x ≡ R.one) → N.of c ≡ x →
      ReadsTerm R N bound names small MinKind (k + 1) x (slice_index_or names k [] ++ shift_text c)
  min_shifted (pos zero) x within one_is of_is = subst
      (λ y. ReadsTerm R N bound names small MinKind (k + 1) y (slice_index_or names k [] ++ [])) (sym (one_is refl))
      (variable_alone MinKind)
  min_shifted (pos (suc n)) x within one_is of_is =
      subst (λ y. ReadsTerm R N bound names small MinKind (k + 1) y
      (slice_index_or names k [] ++ (codes " + " ++ decimal (suc n)))) of_is
      (with_rest MinKind _ _ (λ rest s. refl) (up_written R N bound (k + 1) small n within))
  min_shifted (negsuc n) x within one_is of_is =
      subst (λ y. ReadsTerm R N bound names small MinKind (k + 1) y
      (slice_index_or names k [] ++ (codes " - " ++ decimal (suc n)))) of_is
      (with_rest MinKind _ _ (λ rest s. refl) (down_written R N bound (k + 1) small n within))

  pub truth_variable : (c : ℤ) (x : V) → c ≡ pos 0 → x ≡ R.one →
      ReadsTerm R N bound names small BoolKind (k + 1) x (slice_index_or names k [] ++ shift_text c)
  truth_variable c x number one_is =
      subst (λ d. ReadsTerm R N bound names small BoolKind (k + 1) x (slice_index_or names k [] ++ shift_text d))
      (sym number)
      (subst (λ y. ReadsTerm R N bound names small BoolKind (k + 1) y (slice_index_or names k [] ++ [])) (sym one_is)
      (variable_alone BoolKind))
