-- Printed lines behind the program are read back.
-- Index: IsOpen, FitsLine, line_written, lines_written.
use Rattle.std.proofs.Common.{◌≡◌, ◌≢◌, ◌≤◌, ◌<◌, ◌+◌, ◌^◌, ℕ, zero, suc, Bool, true, false, List, [], ◌∷◌, ◌++◌, map, length, codes, Option, Some, None, Ok, refl, sym, ap, subst, ◌∙◌, append_assoc, append-nil, arith}
use Rattle.std.specs.Prelude.{ℤ, decimal}
use Rattle.std.proofs.lemmas.List.{length-map}
use Rattle.trop_theory.specs.Semiring.{Semiring, SemiringLaws}
use Rattle.trop_theory.specs.Numbers.{NumberLaws}
use Rattle.trop_theory.specs.Vectors.{entry, row_size}
use Rattle.trop_theory.specs.Normal.{IsNormal}
use Rattle.trop_theory.specs.Inequalities.{Inequality, IsIn, inequality_size}
use Rattle.trop_theory.proofs.MaxPlusLaws.{max_laws, max_number_laws, max_numeric_laws}
use Rattle.trop_theory.proofs.MinPlusLaws.{min_laws, min_number_laws, min_numeric_laws}
use Rattle.trop_text.specs.Name.{is_word}
use Rattle.trop_text.specs.Names.{AreNames}
use Rattle.trop_text.specs.Pieces.{Piece, Token, LineEnd}
use Rattle.trop_text.specs.declared.token.TokenKind.TheVariants.{Word, Digits}
use Rattle.trop_text.proofs.Numbers.{number_of-decimal}
use Rattle.std.proofs.lemmas.Fmt.{decimal_is_IsNumeral}
use Rattle.trop_text.proofs.Written.{tok, IsOne, IsWritten, written_join, written_as}
use Rattle.trop_grammar.specs.Grammar.{One, Then}
use Rattle.trop_grammar.specs.Lists.{Passes}
use Rattle.trop_text.proofs.WrittenTokens.{Always, StopsWord, word_written, blank_written}
use Rattle.trop_text.proofs.WrittenLines.{AreLines, lines_none, lines_one, lines_join}
use Rattle.trop_spelling.specs.Spelling.{KindLaws}
use Rattle.trop_spelling.specs.Elements.{IsRow}
use Rattle.trop_spelling.specs.Printed.{numbers, printed_row, printed_inequality}
use Rattle.trop_spelling.proofs.WrittenElements.{named, AreWithin, row_written}
use Rattle.trop_spelling.proofs.WrittenInequalities.{open_is_inequality, inequality_written}
use Rattle.trop_spelling.proofs.KindLaws.{named_row, within}
use Rattle.prog_theory.specs.Graph.{Point, Statement, Inner, Exit}
use Rattle.report_texts.specs.Limits.{greatest_entry, greatest_inv}
use Rattle.report_texts.specs.Modes.{Mode, InMax, InMin, Element, kind_of, ring_of, is_reversed, numbering}
use Rattle.report_texts.specs.Lines.{Line, At, Unreachable, Row, Inv, Asserted, Last, Each}
use Rattle.report_texts.specs.LineTexts.{line_word, AtWord, ShutWord, RowWord, InvWord, AssertWord, EndWord, OfStatement, Alone, label_word, verdict_word, normalised, IsLineRest, IsLine}
use Rattle.report_texts.specs.LineTexts as line_texts
use Rattle.report_texts.specs.Heads.{digits}
use Rattle.report_texts.specs.Bodies.{AreTexts}
use Rattle.report_texts.specs.Printed.{label_text, verdict_text, row_text, line_text, lines_text}
use Rattle.report_texts.proofs.NormalRows.{normalised_normal}
use Rattle.report_texts.proofs.Bits.{Bit, Says, Counts, AreBits, bits_text, bits_written, bits_then, line_ended, bits_some}

-- ---- the laws of each mode

pub laws_of : (mode : Mode) → SemiringLaws (ring_of mode)
laws_of InMax = max_laws
laws_of InMin = min_laws

pub number_laws_of : (mode : Mode) → NumberLaws (ring_of mode) numbering
number_laws_of InMax = max_number_laws
number_laws_of InMin = min_number_laws

pub kind_laws_of : (mode : Mode) → KindLaws (kind_of mode) (ring_of mode) numbering (is_reversed mode)
kind_laws_of InMax = (max_numeric_laws, refl)
kind_laws_of InMin = (min_numeric_laws, refl)

-- ---- numbers

pub digits_pass : (n line column : ℕ) → n < 2 ^ 64 → digits (Token (tok Digits (decimal n) line column)) ≡ Ok n
digits_pass n line column h =
    let is = decimal_is_IsNumeral n h in
    ap Ok (number_of-decimal (decimal n) is.0.1 ∙ is.1)

-- ---- lines without their ends

-- with an end of a line behind it, a text of the line
pub record IsOpen (mode : Mode) (names : List (List ℕ)) (x : Line Element) (us : List Piece) : Type 0 where
  pub some : us ≡ [] → ⊥
  pub ended : (line : ℕ) → IsLine (kind_of mode) (ring_of mode) numbering names (us ++ LineEnd line ∷ []) x

-- the numbers of points and statements are those of a machine
abbrev pub FitsPoint : Point → Type 0
FitsPoint (Statement k) = k < 2 ^ 64
FitsPoint Inner = Unit {0}
FitsPoint Exit = Unit {0}

-- what is printed so that it is read back
abbrev pub FitsLine : Mode → ℕ → Line Element → Type 0
FitsLine mode n (At k p) = (k < 2 ^ 64) × FitsPoint p
FitsLine mode n Unreachable = Unit {0}
FitsLine mode n (Row x) = IsNormal (ring_of mode) x × (length x ≡ n) × (row_size (ring_of mode) x ≤ greatest_entry)
FitsLine mode n (Inv i) = IsIn n i × (inequality_size (ring_of mode) i ≤ greatest_inv)
FitsLine mode n (Asserted k b) = k < 2 ^ 64
FitsLine mode n Last = Unit {0}

module _ (mode : Mode) (names : List (List ℕ)) (are : AreNames names) where
  abbrev R : Semiring Element
  R = ring_of mode

  abbrev Ended : Line Element → ℕ → List Piece → Type 0
  Ended x line us = IsLine (kind_of mode) R numbering names (us ++ LineEnd line ∷ []) x

  -- a word and a number, and then a text of the rest
  numbered : {S : ℕ → List Piece → Line Element → Type 0} (word : List ℕ) (n : ℕ) (bs : List Bit) (us : List Piece)
      (line : ℕ) (w : line_texts.Word Element) (x : Line Element) → ((vs : List Piece) →
      Then (One (Passes digits)) S vs x → IsLineRest (kind_of mode) R numbering names w vs x) → n < 2 ^ 64 →
      ((l c : ℕ) → line_word R (Token (tok Word word l c)) ≡ Ok w) → AreBits (Says word ∷ Counts n ∷ bs) us →
      ((ws : List Piece) → AreBits bs ws → S n (ws ++ LineEnd line ∷ []) x) → Ended x line us
  numbered word n bs us line w x rest hn is h more =
      let end : List Piece = LineEnd line ∷ [] in
      bits_then (Says word) (Counts n ∷ bs) us end w x h is (λ vs g. rest (vs ++ end)
      (bits_then (Counts n) bs vs end n x g (λ l c. digits_pass n l c hn) more))

  at_statement : (n k : ℕ) (us : List Piece) (line : ℕ) → n < 2 ^ 64 → k < 2 ^ 64 →
      AreBits (Says (codes "at") ∷ Counts n ∷ Says (codes "statement") ∷ Counts k ∷ []) us →
      Ended (At n (Statement k)) line us
  unfolding line_word
  at_statement n k us line hn hk h =
      let end : List Piece = LineEnd line ∷ [] in
      let x : Line Element = At n (Statement k) in
      bits_then (Says (codes "at")) (Counts n ∷ Says (codes "statement") ∷ Counts k ∷ []) us end AtWord x h
      (λ l c. refl) (λ vs g. bits_then (Counts n) (Says (codes "statement") ∷ Counts k ∷ []) vs end n x g
      (λ l c. digits_pass n l c hn) (λ ws m. bits_then (Says (codes "statement")) (Counts k ∷ []) ws end OfStatement x m
      (λ l c. refl) (λ zs q. record {
        front = Token (tok Digits (decimal k) q.0 q.1) ∷ [];
        back = q.2 ++ end;
        value = Statement k;
        whole = ap (λ (z : List Piece). z ++ end) q.3;
        first = record {
          front = Token (tok Digits (decimal k) q.0 q.1) ∷ [];
          back = [];
          value = k;
          whole = refl;
          first = record {
            token = Token (tok Digits (decimal k) q.0 q.1);
            whole = refl;
            is = digits_pass k q.0 q.1 hk;
          };
          second = record { none = refl; is = refl };
        };
        second = line_ended line x q.2 q.4;
      })))

  at_alone : (n : ℕ) (word : List ℕ) (p : Point) (us : List Piece) (line : ℕ) → n < 2 ^ 64 →
      ((l c : ℕ) → label_word (Token (tok Word word l c)) ≡ Ok (Alone p)) →
      AreBits (Says (codes "at") ∷ Counts n ∷ Says word ∷ []) us → Ended (At n p) line us
  unfolding line_word
  at_alone n word p us line hn passes h =
      numbered (codes "at") n (Says word ∷ []) us line AtWord (At n p) (λ vs g. g) hn (λ l c. refl) h
      (λ ws m. bits_then (Says word) [] ws (LineEnd line ∷ []) (Alone p) (At n p) m passes (λ zs q. record {
        front = [];
        back = zs ++ LineEnd line ∷ [];
        value = p;
        whole = refl;
        first = record { none = refl; is = refl };
        second = line_ended line (At n p) zs q;
      }))

  asserted : (n : ℕ) (word : List ℕ) (b : Bool) (us : List Piece) (line : ℕ) → n < 2 ^ 64 →
      ((l c : ℕ) → verdict_word (Token (tok Word word l c)) ≡ Ok b) →
      AreBits (Says (codes "assert") ∷ Counts n ∷ Says word ∷ []) us → Ended (Asserted n b) line us
  unfolding line_word
  asserted n word b us line hn passes h =
      numbered (codes "assert") n (Says word ∷ []) us line AssertWord (Asserted n b) (λ vs g. g) hn (λ l c. refl) h
      (λ ws m. bits_then (Says word) [] ws (LineEnd line ∷ []) b (Asserted n b) m passes
      (λ zs q. line_ended line (Asserted n b) zs q))

  shut_line : (us : List Piece) (line : ℕ) → AreBits (Says (codes "unreachable") ∷ []) us → Ended Unreachable line us
  unfolding line_word
  shut_line us line h = bits_then (Says (codes "unreachable")) [] us (LineEnd line ∷ []) ShutWord Unreachable h
      (λ l c. refl) (λ vs g. line_ended line Unreachable vs g)

  last_line : (us : List Piece) (line : ℕ) → AreBits (Says (codes "end") ∷ []) us → Ended Last line us
  unfolding line_word
  last_line us line h = bits_then (Says (codes "end")) [] us (LineEnd line ∷ []) EndWord Last h
      (λ l c. refl) (λ vs g. line_ended line Last vs g)

  -- a word, and then a text of the rest
  behind_word : (word : List ℕ) (x : Line Element) (us vs : List Piece) → IsOne Word word us →
      ((line : ℕ) (t : Piece) → us ≡ t ∷ [] → Ended x line (t ∷ vs)) → IsOpen mode names x (us ++ vs)
  behind_word word x us vs g to = record {
    some = λ e. let k = sym (ap (λ (z : List Piece). z ++ vs) g.whole) ∙ e in cc;
    ended = λ line. subst (λ (z : List Piece). Ended x line (z ++ vs)) (sym g.whole)
        (to line (Token (tok Word word g.line g.column)) g.whole);
  }

  row_line : (word : List ℕ) (c : Element) (os : List (Option ℤ)) (x : List Element) → is_word word ≡ true →
      ((l k : ℕ) → line_word R (Token (tok Word word l k)) ≡ Ok (RowWord c)) → length os ≡ length names →
      AreWithin greatest_entry os → x ≡ normalised R numbering (c ∷ map (named (kind_of mode) R numbering) os) →
      IsWritten StopsWord (word ++ (codes " " ++ printed_row (kind_of mode) os)) (IsOpen mode names (Row x))
  row_line word c os x is passes wide small same =
      let row = map (named (kind_of mode) R numbering) os in
      let text = printed_row (kind_of mode) os in
      let written = subst (λ n. IsWritten Always text
      (λ us. IsRow (kind_of mode) R numbering greatest_entry n us row)) wide
      (row_written R numbering greatest_entry (omega arith) (kind_of mode) os small) in
      written_join (λ us vs g h. behind_word word (Row x) us vs g (λ line t e. record {
        front = t ∷ [];
        back = vs ++ LineEnd line ∷ [];
        value = RowWord c;
        whole = refl;
        first = record {
          token = t;
          whole = refl;
          is = let k : Token (tok Word word g.line g.column) ≡ t = cc in
              ap (line_word R) (sym k) ∙ passes g.line g.column;
        };
        second = record {
          front = vs ++ LineEnd line ∷ [];
          back = [];
          value = row;
          whole = sym (append-nil (vs ++ LineEnd line ∷ []));
          first = record {
            front = vs;
            back = LineEnd line ∷ [];
            value = row;
            whole = refl;
            first = h;
            second = line_ended line row [] refl;
          };
          second = record { none = refl; is = ap Row same };
        };
      })) (λ rest s. refl) (word_written word is) (blank_written (written_as (λ us h. h) (λ rest s. tt) written))

  -- the numbers of a row in normal form, and what they are read as
  normal_first : (a : Element) (x : List Element) (o : Option ℤ) → numbering.to a ≡ o → IsNormal R (a ∷ x) → (n : ℤ) →
      o ≡ Some n → a ≡ R.one
  normal_first a x o e h n s = at h.first h.is_one h.before
    where
      at : (f : ℕ) → entry R (a ∷ x) f ≡ R.one → ((i : ℕ) → i < f → entry R (a ∷ x) i ≡ R.zero) → a ≡ R.one
      at zero one before = one
      at (suc f) one before =
          let k = sym (((number_laws_of mode).none a).1 (before 0 (omega arith))) ∙ e ∙ s in cc

  row_written_back : (x : List Element) → IsNormal R x → length x ≡ length names + 1 →
      row_size R x ≤ greatest_entry → IsWritten StopsWord (row_text (kind_of mode) (numbers numbering x))
      (IsOpen mode names (Row x))
  unfolding line_word
  row_written_back [] h wide s = absurd (omega (arith, wide))
  row_written_back (a ∷ x) h wide s = at (numbering.to a) refl
    where
      count : length (numbers numbering x) ≡ length names
      count = let k = length-map x numbering.to in omega (arith, k, wide)

      small : AreWithin greatest_entry (numbers numbering x)
      small = within (kind_of mode) (is_reversed mode) R numbering (number_laws_of mode) (kind_laws_of mode)
          greatest_entry x (omega (arith, s))

      again : (c : Element) → a ≡ c →
          a ∷ x ≡ normalised R numbering (c ∷ map (named (kind_of mode) R numbering) (numbers numbering x))
      again c e =
          let row : map (named (kind_of mode) R numbering) (numbers numbering x) ≡ x =
          named_row (kind_of mode) (is_reversed mode) R numbering (number_laws_of mode) (kind_laws_of mode) x in
          sym (ap (normalised R numbering) (λ i. sym e i ∷ row i)
          ∙ normalised_normal R numbering (laws_of mode) (number_laws_of mode) (a ∷ x) h)

      at : (o : Option ℤ) → numbering.to a ≡ o →
          IsWritten StopsWord (row_text (kind_of mode) (o ∷ numbers numbering x)) (IsOpen mode names (Row (a ∷ x)))
      at None e = row_line (codes "ray") R.zero (numbers numbering x) (a ∷ x) refl (λ l k. refl) count small
          (again R.zero (((number_laws_of mode).none a).0 e))
      at (Some n) e = row_line (codes "point") R.one (numbers numbering x) (a ∷ x) refl (λ l k. refl) count small
          (again R.one (normal_first a x (Some n) e h n refl))

  inv_written : (i : Inequality Element) → IsIn (length names + 1) i → inequality_size R i ≤ greatest_inv →
      IsWritten StopsWord (codes "inv" ++ (codes " " ++ printed_inequality (kind_of mode) numbering names i))
      (IsOpen mode names (Inv i))
  unfolding line_word
  inv_written i wide s =
      written_join (λ us vs g h. behind_word (codes "inv") (Inv i) us vs g (λ line t e. record {
        front = t ∷ [];
        back = vs ++ LineEnd line ∷ [];
        value = InvWord;
        whole = refl;
        first = record {
          token = t;
          whole = refl;
          is = let k : Token (tok Word (codes "inv") g.line g.column) ≡ t = cc in ap (line_word R) (sym k);
        };
        second = record {
          front = vs ++ LineEnd line ∷ [];
          back = [];
          value = i;
          whole = sym (append-nil (vs ++ LineEnd line ∷ []));
          first = open_is_inequality (kind_of mode) R numbering greatest_inv names i vs line h;
          second = record { none = refl; is = refl };
        };
      })) (λ rest t. refl) (word_written (codes "inv") refl)
      (blank_written (inequality_written (kind_of mode) (is_reversed mode) R numbering (kind_laws_of mode)
      (number_laws_of mode) (laws_of mode).zero_neutral greatest_inv names (omega arith) are i wide s))

  opened : (b : Bit) (bs : List Bit) (x : Line Element) →
      ((us : List Piece) (line : ℕ) → AreBits (b ∷ bs) us → Ended x line us) → IsWritten StopsWord (bits_text b bs)
      (AreBits (b ∷ bs)) →
      IsWritten StopsWord (bits_text b bs) (IsOpen mode names x)
  opened b bs x to g = written_as (λ us h. record { some = bits_some b bs us h; ended = λ line. to us line h })
      (λ rest s. s) g

  point_written : (n : ℕ) (p : Point) → n < 2 ^ 64 → FitsPoint p →
      IsWritten StopsWord (codes "at" ++ (codes " " ++ (decimal n ++ (codes " " ++ label_text p))))
      (IsOpen mode names (At n p))
  point_written n (Statement k) hn hk =
      opened (Says (codes "at")) (Counts n ∷ Says (codes "statement") ∷ Counts k ∷ []) (At n (Statement k))
      (λ us line h. at_statement n k us line hn hk h)
      (bits_written (Says (codes "at")) (Counts n ∷ Says (codes "statement") ∷ Counts k ∷ []) refl
      (hn, (refl, (hk, tt))))
  point_written n Inner hn hk =
      opened (Says (codes "at")) (Counts n ∷ Says (codes "inner") ∷ []) (At n Inner)
      (λ us line h. at_alone n (codes "inner") Inner us line hn (λ l c. refl) h)
      (bits_written (Says (codes "at")) (Counts n ∷ Says (codes "inner") ∷ []) refl (hn, (refl, tt)))
  point_written n Exit hn hk =
      opened (Says (codes "at")) (Counts n ∷ Says (codes "exit") ∷ []) (At n Exit)
      (λ us line h. at_alone n (codes "exit") Exit us line hn (λ l c. refl) h)
      (bits_written (Says (codes "at")) (Counts n ∷ Says (codes "exit") ∷ []) refl (hn, (refl, tt)))

  verdict_written : (n : ℕ) (b : Bool) → n < 2 ^ 64 →
      IsWritten StopsWord (codes "assert" ++ (codes " " ++ (decimal n ++ (codes " " ++ verdict_text b))))
      (IsOpen mode names (Asserted n b))
  verdict_written n true hn =
      opened (Says (codes "assert")) (Counts n ∷ Says (codes "proved") ∷ []) (Asserted n true)
      (λ us line h. asserted n (codes "proved") true us line hn (λ l c. refl) h)
      (bits_written (Says (codes "assert")) (Counts n ∷ Says (codes "proved") ∷ []) refl (hn, (refl, tt)))
  verdict_written n false hn =
      opened (Says (codes "assert")) (Counts n ∷ Says (codes "unknown") ∷ []) (Asserted n false)
      (λ us line h. asserted n (codes "unknown") false us line hn (λ l c. refl) h)
      (bits_written (Says (codes "assert")) (Counts n ∷ Says (codes "unknown") ∷ []) refl (hn, (refl, tt)))

  pub line_written : (x : Line Element) → FitsLine mode (length names + 1) x →
      IsWritten StopsWord (line_text mode names x) (IsOpen mode names x)
  line_written (At n p) h = point_written n p h.0 h.1
  line_written Unreachable h = opened (Says (codes "unreachable")) [] Unreachable shut_line
      (bits_written (Says (codes "unreachable")) [] refl tt)
  line_written (Row x) h = row_written_back x h.0 h.1 h.2
  line_written (Inv i) h = inv_written i h.0 h.1
  line_written (Asserted n b) h = verdict_written n b h
  line_written Last h = opened (Says (codes "end")) [] Last last_line (bits_written (Says (codes "end")) [] refl tt)

  -- ---- one line behind the other

  abbrev pub Texts : List (Line Element) → List Piece → Type 0
  Texts xs us = AreTexts (IsLine (kind_of mode) R numbering names) us xs

  pub lines_written : (xs : List (Line Element)) (line : ℕ) → line ≢ 0 → Each (FitsLine mode (length names + 1)) xs →
      (next : ℕ) × AreLines (lines_text (line_text mode names) xs) [] line next (Texts xs)
  lines_written [] line numbered fits = (line, lines_none [] line refl)
  lines_written (x ∷ xs) line numbered fits =
      let more = lines_written xs (line + 1) (λ e. absurd (omega (arith, e))) fits.1 in
      let others = lines_text (line_text mode names) xs in
      let text = line_text mode names x in
      let first = lines_one {H = λ us. IsLine (kind_of mode) R numbering names us x} (others ++ []) line numbered refl
      (λ h. h.some refl) (λ us h. h.ended line) (line_written x fits.0) in
      let joined : AreLines ((text ++ codes "\n") ++ others) [] line more.0 (Texts (x ∷ xs)) =
      lines_join (λ us vs h k. (us, vs, refl, h, k)) first more.1 in (
        more.0,
        subst (λ bytes. AreLines bytes [] line more.0 (Texts (x ∷ xs))) (append_assoc text (codes "\n") others) joined,
      )
