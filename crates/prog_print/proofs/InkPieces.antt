-- The pieces of tokens that are inks, with what stands before each, are the inks.
-- Index: at, IsStep, step, IsInked, inked.
use Rattle.trop_text.specs.declared.fault.FaultKind.TheVariants.{Syntax, NumberRange}
use Rattle.std.proofs.Common.{◌≡◌, ◌≤◌, ◌<◌, ◌^◌, ℕ, Bool, true, false, List, [], ◌∷◌, ◌++◌, Ok, Err, cond, refl, sym, ap, subst, ◌∙◌, append_assoc, arith, decimal, nat_le}
use Rattle.std.specs.Prelude.{◌==◌, ◌||◌, ◌&&◌}
use Rattle.std.specs.List.{list_all}
use Rattle.std.specs.Str.{bytes_eq}
use Rattle.std.proofs.lemmas.Bool.{le-leb}
use Rattle.std.proofs.lemmas.Bool.Decides.{nat_tests}
use Rattle.std.proofs.lemmas.Slice.Eq.{bytes_eq-Decides}
use Rattle.std.proofs.lemmas.Fmt.{decimal_is_IsNumeral}
use Rattle.trop_text.specs.Bytes.{is_digit}
use Rattle.trop_text.specs.Digits.{number_of}
use Rattle.trop_text.specs.Lexed.{are_digits}
use Rattle.trop_text.specs.Name.{is_name}
use Rattle.trop_text.specs.Names.{place_of}
use Rattle.trop_text.specs.Tokens.{Tok}
use Rattle.trop_text.specs.Pieces.{Piece, Token, LineEnd, pieces_from}
use Rattle.trop_text.proofs.Numbers.{number_of-decimal}
use Rattle.shape_grammar.specs.Past.{past}
use Rattle.prog_theory.specs.Limits.{Limits}
use Rattle.prog_texts.specs.Words.{Before, Counted, skipped, one_more, counted, begins_statement, begins_atom}
use Rattle.prog_texts.specs.Judges.{coordinate}
use Rattle.prog_texts.specs.Inks.{Ink, Says, Name, Number, Blank, Feed, name_text}
use Rattle.prog_texts.specs.Inked.{IsWithin, IsInk, AreInks}
use Rattle.prog_texts.proofs.Runs.{ended_keeps}
use Rattle.prog_print.proofs.Walks.{Edge, Apart, Wordy, edge_of_word, IsSound, Walks, after, after_ink, after_inks}
use Rattle.prog_print.proofs.PlainTexts.{itself, chained, one_more-least, name_word, word_digits, decimal_digits, decimal_are_digits}
use Rattle.prog_print.proofs.Lexing.{HaveTexts}

-- ---- counts

under : (z : Bool) (n m : ℕ) → one_more z n ≤ m → (z && nat_le m n) ≡ false
under false n m h = refl
under true n m h = grind (arith, nat_tests)

module _ (L : Limits) (small : L.number < 2 ^ 64) (names : List (List ℕ)) where
  abbrev A : Before → List Ink → Before
  A b is = after_inks L.number names b is

  grows : (is : List Ink) (b : Before) → (b.statements ≤ (A b is).statements) × (b.atoms ≤ (A b is).atoms)
  grows [] b = (itself b.statements, itself b.atoms)
  grows (i ∷ is) b =
      let k = grows is (after_ink L.number names b i) in
      let one = ink_grows i b in
      (chained _ _ _ one.0 k.0, chained _ _ _ one.1 k.1)
    where
      text_grows : (w : List ℕ) (b : Before) → (b.statements ≤ (after b w).statements) × (b.atoms ≤ (after b w).atoms)
      text_grows w b = (one_more-least _ b.statements, one_more-least _ b.atoms)

      ink_grows : (i : Ink) (b : Before) → (b.statements ≤ (after_ink L.number names b i).statements)
          × (b.atoms ≤ (after_ink L.number names b i).atoms)
      ink_grows (Says w) b = text_grows w b
      ink_grows (Name i) b = text_grows (name_text names i) b
      ink_grows (Number n) b = text_grows (decimal n) b
      ink_grows Blank b = (itself b.statements, itself b.atoms)
      ink_grows Feed b = (itself b.statements, itself b.atoms)

  -- the token t behind b
  abbrev pub at : Before → Tok → Counted
  at b t = record { piece = Token t; before = b }

  -- so few statements and atoms stand behind the inks
  abbrev Few : Before → Type 0
  Few d = (d.statements ≤ L.statements) × (d.atoms ≤ L.atoms)

  within : (t : Tok) (b : Before) (is : List Ink) → Few (A (after b t.text) is) → IsWithin L (at b t)
  within t b is few =
      let k = grows is (after b t.text) in
      record {
        one = under (begins_statement (at b t)) b.statements L.statements (chained _ _ _ k.0 few.0);
        atom = under (begins_atom (at b t)) b.atoms L.atoms (chained _ _ _ k.1 few.1);
      }

  -- ---- one token

  -- the pieces of a token and what is behind it, with the end of a line before it or none
  pub record IsStep (b : Before) (t : Tok) (ts : List Tok) (line : ℕ) : Type 0 where
    pub gap : List Counted
    pub whole : counted b (pieces_from (t ∷ ts) line) ≡ gap ++ at b t ∷ counted (after b t.text) (pieces_from ts t.line)
    pub clear : (us : List Counted) → past skipped (gap ++ at b t ∷ us) ≡ at b t ∷ us

  -- the end of a line behind b
  abbrev end_at : Before → ℕ → Counted
  end_at b line = record { piece = LineEnd line; before = b }

  token_counted : (b : Before) (t : Tok) (ps : List Piece) → counted b (Token t ∷ ps) ≡ at b t ∷ counted (after b
      t.text) ps
  unfolding counted
  token_counted b t ps = refl

  end_counted : (b : Before) (line : ℕ) (ps : List Piece) → counted b (LineEnd line ∷ ps) ≡
      end_at b line ∷ counted b ps
  unfolding counted
  end_counted b line ps =
      ap (λ (z : Before). end_at b line ∷ counted z ps) (ended_keeps line b)

  token_clear : (b : Before) (t : Tok) (us : List Counted) → past skipped (at b t ∷ us) ≡ at b t ∷ us
  unfolding past
  token_clear b t us = refl

  end_clear : (b : Before) (line : ℕ) (us : List Counted) →
      past skipped (end_at b line ∷ us) ≡ past skipped us
  unfolding past
  end_clear b line us = refl

  abbrev ordered : Bool → ℕ → Tok → List Piece → List Piece
  ordered z line t ps = cond z (Token t ∷ ps) (LineEnd line ∷ Token t ∷ ps)

  ordered_is : (t : Tok) (ts : List Tok) (line : ℕ) → pieces_from (t ∷ ts) line ≡
      ordered ((line == 0) || (t.line == line)) line t (pieces_from ts t.line)
  unfolding pieces_from
  ordered_is t ts line = refl

  pub step : (b : Before) (t : Tok) (ts : List Tok) (line : ℕ) → IsStep b t ts line
  step b t ts line = by ((line == 0) || (t.line == line)) refl
    where
      by : (z : Bool) → ((line == 0) || (t.line == line)) ≡ z → IsStep b t ts line
      by true e = record {
        gap = [];
        whole = ap (counted b) (ordered_is t ts line ∙ ap (λ z. ordered z line t (pieces_from ts t.line)) e)
            ∙ token_counted b t (pieces_from ts t.line);
        clear = λ us. token_clear b t us;
      }
      by false e = record {
        gap = end_at b line ∷ [];
        whole = ap (counted b) (ordered_is t ts line ∙ ap (λ z. ordered z line t (pieces_from ts t.line)) e)
            ∙ end_counted b line (Token t ∷ pieces_from ts t.line)
            ∙ ap (λ (us : List Counted). end_at b line ∷ us)
            (token_counted b t (pieces_from ts t.line));
        clear = λ us. end_clear b line (at b t ∷ us) ∙ token_clear b t us;
      }

  -- ---- what a token is

  same_bytes : (v w : List ℕ) → v ≡ w → bytes_eq v w ≡ true
  same_bytes v w e = (bytes_eq-Decides v w).1 e

  says_is : (w : List ℕ) (t : Tok) (b : Before) → t.text ≡ w → are_digits w ≡ false → IsInk L names (Says w) (at b t)
  says_is w t b e h = (ap are_digits e ∙ h, same_bytes t.text w e)

  name_is : (i : ℕ) (t : Tok) (b : Before) → t.text ≡ name_text names i → IsSound L.number names (Name i) →
      IsInk L names (Name i) (at b t)
  name_is i t b e h = (
    ap are_digits e ∙ word_digits (name_text names i) (name_word (name_text names i) h.0),
    ap is_name e ∙ h.0,
    ap (λ (z : List ℕ). coordinate (place_of z names)) e ∙ h.1,
  )

  number_is : (n : ℕ) (t : Tok) (b : Before) → t.text ≡ decimal n → n ≤ L.number → IsInk L names (Number n) (at b t)
  number_is n t b e h =
      let s : n < 2 ^ 64 = omega (arith, h, small) in
      let are : are_digits t.text ≡ true = ap are_digits e ∙ decimal_are_digits n s in
      let value : number_of t.text ≡ n = ap number_of e ∙ number_of-decimal (decimal n) (decimal_is_IsNumeral n s).0.1
      ∙ (decimal_is_IsNumeral n s).1 in
      (are, ap (list_all is_digit) e ∙ decimal_digits n s, sized t.text are value)
    where
      sized : (w : List ℕ) → are_digits w ≡ true → number_of w ≡ n → cond (are_digits w)
          (cond (nat_le (number_of w) L.number) (Ok (number_of w)) (Err NumberRange)) (Err Syntax) ≡ Ok n
      sized w a v = rw (a, v, le-leb n L.number h) refl

  -- ---- all of them

  pub record IsInked (is : List Ink) (b : Before) (ts more : List Tok) (line : ℕ) : Type 0 where
    pub front : List Counted
    pub next : ℕ
    pub whole : counted b (pieces_from (ts ++ more) line) ≡ front ++ counted (A b is) (pieces_from more next)
    pub are : AreInks L names is front

  -- a token in front
  joined : (is : List Ink) (b : Before) (t : Tok) (ts us more : List Tok) (line : ℕ) (s : IsStep b t (us ++ more) line)
      (k : IsInked is (after b t.text) us more t.line) → ts ≡ t ∷ us →
      counted b (pieces_from (ts ++ more) line) ≡
      (s.gap ++ at b t ∷ k.front) ++ counted (A (after b t.text) is) (pieces_from more k.next)
  joined is b t ts us more line s k e =
      ap (λ (z : List Tok). counted b (pieces_from (z ++ more) line)) e ∙ s.whole
      ∙ ap (λ (z : List Counted). s.gap ++ at b t ∷ z) k.whole
      ∙ sym (append_assoc s.gap (at b t ∷ k.front) (counted (A (after b t.text) is) (pieces_from more k.next)))

  -- the inks behind one that is a token, with it
  inked_behind : (i : Ink) (w : List ℕ) (is : List Ink) (b : Before) (t : Tok) (ts us more : List Tok) (line : ℕ) →
      ts ≡ t ∷ us → t.text ≡ w → A (after b w) is ≡ A b (i ∷ is) → Few (A (after b w) is) →
      ((front rest : List Counted) → past skipped front ≡ at b t ∷ rest → IsWithin L (at b t) →
      AreInks L names is rest → AreInks L names (i ∷ is) front) → IsInked is (after b w) us more t.line →
      IsInked (i ∷ is) b ts more line
  inked_behind i w is b t ts us more line e same end few joins k0 =
      let few0 = subst (λ (z : List ℕ). Few (A (after b z) is)) (sym same) few in
      let k = subst (λ (z : List ℕ). IsInked is (after b z) us more t.line) (sym same) k0 in
      let s = step b t (us ++ more) line in
      record {
        front = s.gap ++ at b t ∷ k.front;
        next = k.next;
        whole = joined is b t ts us more line s k e
            ∙ ap (λ (z : Before). (s.gap ++ at b t ∷ k.front) ++ counted z (pieces_from more k.next))
            (ap (λ (z : List ℕ). A (after b z) is) same ∙ end);
        are = joins (s.gap ++ at b t ∷ k.front) k.front (s.clear k.front) (within t b is few0) k.are;
      }

  pub inked : (P : Before → Edge → Type 0) (is : List Ink) (b : Before) (e : Edge) (ts more : List Tok) (line : ℕ) →
      HaveTexts L.number small names is ts → Walks L.number names b e is P → Few (A b is) → IsInked is b ts more line
  inked P [] b e ts more line h w few = record {
    front = [];
    next = line;
    whole = ap (λ (z : List Tok). counted b (pieces_from (z ++ more) line)) h;
    are = refl;
  }
  inked P (Blank ∷ is) b e ts more line h w few =
      let k = inked P is b Apart ts more line h w.2 few in
      record { front = k.front; next = k.next; whole = k.whole; are = k.are }
  inked P (Feed ∷ is) b e ts more line h w few =
      let k = inked P is b Apart ts more line h w.2 few in
      record { front = k.front; next = k.next; whole = k.whole; are = k.are }
  inked P (Says v ∷ is) b e ts more line h w few =
      inked_behind (Says v) v is b h.0 ts h.1 more line h.2 h.3 refl few
      (λ front rest p one k. (at b h.0, rest, p, one, says_is v h.0 b h.3 w.1.1, k))
      (inked P is (after b v) (edge_of_word v) h.1 more h.0.line h.4 w.2 few)
  inked P (Name i ∷ is) b e ts more line h w few =
      inked_behind (Name i) (name_text names i) is b h.0 ts h.1 more line h.2 h.3 refl few
      (λ front rest p one k. (at b h.0, rest, p, one, name_is i h.0 b h.3 w.1, k))
      (inked P is (after b (name_text names i)) Wordy h.1 more h.0.line h.4 w.2 few)
  inked P (Number n ∷ is) b e ts more line h w few =
      inked_behind (Number n) (decimal n) is b h.0 ts h.1 more line h.2 h.3 refl few
      (λ front rest p one k. (at b h.0, rest, p, one, number_is n h.0 b h.3 w.1, k))
      (inked P is (after b (decimal n)) Wordy h.1 more h.0.line h.4 w.2 few)
