-- A printed header is read back.
-- Index: header_of, header_lines.
use Rattle.std.proofs.Common.{◌≡◌, ◌<◌, ◌≤◌, ◌+◌, ℕ, suc, Bool, true, false, cond, not, List, [], ◌∷◌, ◌++◌, map, length, get_or, codes, Some, None, Result, Ok, refl, sym, ap, ◌∙◌, subst, arith, append_assoc, length-append}
use Rattle.std.specs.List.{position, position_or_len}
use Rattle.std.specs.Str.{bytes_eq}
use Rattle.std.proofs.Math.Seq.{get_or-append_seam}
use Rattle.std.proofs.Math.ListN.{get_or-append}
use Rattle.std.proofs.lemmas.Bool.{le-ltb}
use Rattle.std.proofs.lemmas.List.{append-nil}
use Rattle.std.proofs.lemmas.Slice.Eq.{bytes_eq-Decides}
use Rattle.trop_grammar.specs.Grammar.{One, Empty, Then}
use Rattle.trop_grammar.specs.Lists.{Passes, AreItems, Item}
use Rattle.trop_text.specs.Name.{is_name, is_word}
use Rattle.trop_text.specs.Names as names_spec
use Rattle.trop_text.specs.Names.{place_of}
use Rattle.trop_text.specs.Tokens.{Tok}
use Rattle.trop_text.specs.Pieces.{Piece, Token, LineEnd}
use Rattle.trop_text.specs.declared.token.TokenKind.TheVariants.{Word}
use Rattle.trop_text.specs.declared.fault.FaultKind.{FaultKind}
use Rattle.trop_text.proofs.Signs.{and_first}
use Rattle.trop_text.proofs.Written.{tok, AreOn, IsOne, IsWritten, written_join}
use Rattle.trop_text.proofs.WrittenTokens.{StopsWord, word_written, blank_written}
use Rattle.trop_text.proofs.WrittenLines.{AreLines, lines_one, lines_on, lines_join}
use Rattle.trop_spelling.specs.declared.ring_kind.RingKind.{RingKind}
use Rattle.trop_spelling.specs.declared.ring_kind.RingKind.TheVariants.{Max as MaxKind, Min as MinKind, Bool as BoolKind}
use Rattle.trop_spelling.specs.Spelling.{ring_word}
use Rattle.trop_files.specs.PrintedFiles.{after_spaces, printed_header}
use Rattle.trop_reading.specs.Words.{said, line_end}
use Rattle.trop_files.specs.Header.{Header, semiring_word, vars_word, new_name, next_name, most_names, IsName, AreNamesInLine, IsKindLine, IsSemiringLine, IsHeader}
use Rattle.trop_reading.proofs.NameWords.{false_if}
use Rattle.trop_reading.proofs.WrittenTexts.{none_written}

-- ---- words

-- two words
record AreTwo (first second : List ℕ) (us : List Piece) : Type 0 where
  line : ℕ
  column : ℕ
  other_line : ℕ
  other : ℕ
  whole : us ≡ Token (tok Word first line column) ∷ Token (tok Word second other_line other) ∷ []

two_words : (first second : List ℕ) → is_word first ≡ true → is_word second ≡ true →
    IsWritten StopsWord (first ++ (codes " " ++ second)) (AreTwo first second)
two_words first second h k = written_join both (λ rest s. refl) (word_written first h)
    (blank_written (word_written second k))
  where
    both : (us vs : List Piece) → IsOne Word first us → IsOne Word second vs → AreTwo first second (us ++ vs)
    both us vs o p = record {
      line = o.line;
      column = o.column;
      other_line = p.line;
      other = p.column;
      whole =
          ap (λ ps. ps ++ vs) o.whole ∙ ap (λ ps. Token (tok Word first o.line o.column) ∷ ps) p.whole;
    }

two_are_some : (first second : List ℕ) → AreTwo first second [] → ⊥
two_are_some first second h = let e = h.whole in cc

-- a word, what a judge makes of the next one, and the end of the line
judged_line : {A : Type 0} (first second : List ℕ) (judge : Piece → Result A FaultKind) (x : A) (line : ℕ)
    (us : List Piece) → ((line column : ℕ) → judge (Token (tok Word second line column)) ≡ Ok x) →
    AreTwo first second us
    → Then (One (Passes (said first))) (λ a. Then (One (Passes judge))
    (λ y. Then (One (Passes line_end)) (λ b. Empty y))) (us ++ LineEnd line ∷ []) x
judged_line first second judge x line us passes h =
    let p = Token (tok Word first h.line h.column) in
    let q = Token (tok Word second h.other_line h.other) in
    let same : bytes_eq first first ≡ true = (bytes_eq-Decides first first).1 refl in
    record {
      front = p ∷ [];
      back = q ∷ LineEnd line ∷ [];
      value = tt;
      whole = ap (λ ps. ps ++ LineEnd line ∷ []) h.whole;
      first = record { token = p; whole = refl; is = rw same refl };
      second = record {
        front = q ∷ [];
        back = LineEnd line ∷ [];
        value = x;
        whole = refl;
        first = record { token = q; whole = refl; is = passes h.other_line h.other };
        second = record {
          front = LineEnd line ∷ [];
          back = [];
          value = tt;
          whole = refl;
          first =
              record { token = LineEnd line; whole = refl; is = refl };
          second = record { none = refl; is = refl };
        };
      };
    }

kind_line : (file_kind : List ℕ) (us : List Piece) → AreTwo (codes "kind") file_kind us →
    IsKindLine file_kind (us ++ LineEnd 1 ∷ []) tt
kind_line file_kind us h =
    let p = Token (tok Word (codes "kind") h.line h.column) in
    let q = Token (tok Word file_kind h.other_line h.other) in
    let same : bytes_eq file_kind file_kind ≡ true = (bytes_eq-Decides file_kind file_kind).1 refl in
    record {
      front = p ∷ [];
      back = q ∷ LineEnd 1 ∷ [];
      value = tt;
      whole = ap (λ ps. ps ++ LineEnd 1 ∷ []) h.whole;
      first = record { token = p; whole = refl; is = refl };
      second = record {
        front = q ∷ [];
        back = LineEnd 1 ∷ [];
        value = tt;
        whole = refl;
        first = record { token = q; whole = refl; is = rw same refl };
        second = record { token = LineEnd 1; whole = refl; is = refl };
      };
    }

ring_is_word : (kind : RingKind) → is_word (ring_word kind) ≡ true
ring_is_word MaxKind = refl
ring_is_word MinKind = refl
ring_is_word BoolKind = refl

ring_passes : (kind : RingKind) (line column : ℕ) →
    semiring_word (Token (tok Word (ring_word kind) line column)) ≡ Ok kind
ring_passes MaxKind line column = refl
ring_passes MinKind line column = refl
ring_passes BoolKind line column = refl

-- ---- names

-- no place, where none passes
none_passes : {X : Type 0} (p : X → Bool) (d : X) (xs : List X) →
    ((j : ℕ) → j < length xs → p (get_or xs j d) ≡ false) → position_or_len p xs ≡ length xs
none_passes p d [] h = refl
none_passes p d (x ∷ xs) h =
    ap (λ b. cond (not b) (1 + position_or_len p xs) 0) (h 0 (omega arith))
    ∙ ap (λ n. 1 + n) (none_passes p d xs (λ j l. h (suc j) (omega arith))) ∙ omega arith

no_place : {X : Type 0} (p : X → Bool) (xs : List X) (n : ℕ) → n ≡ length xs → position_or_len p xs ≡ n →
    position p xs ≡ None
no_place p xs n e f = rw (f, ← e, le-ltb n n (omega arith)) refl

-- a name that stands behind others is none of them
module _ (before : List (List ℕ)) (name : List ℕ) (names : List (List ℕ))
    (are : names_spec.AreNames (before ++ name ∷ names)) where
  name_is : is_name name ≡ true
  name_is =
      let n : length before < length (before ++ name ∷ names) = omega (arith, length-append before (name ∷ names)) in
      sym (ap is_name (get_or-append_seam before name names [])) ∙ are.each (length before) [] n

  differs : (j : ℕ) → j < length before → bytes_eq name (get_or before j []) ≡ true → ⊥
  differs j h e =
      let n : length (before ++ name ∷ names) ≡ length before + length (name ∷ names) =
      length-append before (name ∷ names) in
      let same = are.distinct (length before) j (omega arith) (omega arith)
      (get_or-append_seam before name names [] ∙ (bytes_eq-Decides name (get_or before j [])).0 e
      ∙ sym (get_or-append before (name ∷ names) [] j h)) in
      absurd (omega arith)

  is_undeclared : place_of name before ≡ None
  is_undeclared = no_place (bytes_eq name) before (length before) refl
      (none_passes (bytes_eq name) [] before (λ j h. false_if _ (differs j h)))

  name_passes : (line column : ℕ) → next_name before (Token (tok Word name line column)) ≡ Ok (Some name)
  unfolding new_name
  name_passes line column = rw (name_is, is_undeclared) refl

  item : (us : List Piece) → IsOne Word name us → Item next_name IsName before us name
  item us o = record {
    front = us;
    back = [];
    value = name;
    whole = sym (append-nil us);
    first = record { token = Token (tok Word name o.line o.column); whole = o.whole; is = name_passes o.line o.column };
    second = record { none = refl; is = refl };
  }

-- the names from one on
abbrev Items : List (List ℕ) → List (List ℕ) → List Piece → Type 0
Items before names us = AreItems (Item next_name IsName) before us names

stops_before : (names : List (List ℕ)) (rest : List ℕ) → StopsWord rest → StopsWord (after_spaces names ++ rest)
stops_before [] rest s = s
stops_before (name ∷ names) rest s = refl

names_written : (names before : List (List ℕ)) → names_spec.AreNames (before ++ names) →
    IsWritten StopsWord (after_spaces names) (Items before names)
names_written [] before are = none_written refl
names_written (name ∷ names) before are =
    let regroup : (before ++ name ∷ []) ++ names ≡ before ++ name ∷ names = append_assoc before (name ∷ []) names in
    let more = names_written names (before ++ name ∷ []) (subst names_spec.AreNames (sym regroup) are) in
    let word = and_first _ _ (and_first _ _ (name_is before name names are)) in
    blank_written (written_join (λ us vs o h. (us, vs, refl, item before name names are us o, h))
    (λ rest s. stops_before names rest s) (word_written name word) more)

-- ---- the third line

-- the word `vars` and names
record IsNamed (names : List (List ℕ)) (us : List Piece) : Type 0 where
  line : ℕ
  column : ℕ
  items : List Piece
  whole : us ≡ Token (tok Word (codes "vars") line column) ∷ items
  are : Items [] names items

named_written : (names : List (List ℕ)) → names_spec.AreNames names →
    IsWritten StopsWord (codes "vars" ++ after_spaces names) (IsNamed names)
named_written names are =
    written_join (λ us vs o h. record {
      line = o.line;
      column = o.column;
      items = vs;
      whole =
          ap (λ ps. ps ++ vs) o.whole;
      are = h;
    }) (λ rest s. stops_before names rest s) (word_written (codes "vars") refl)
    (names_written names [] are)

named_some : (names : List (List ℕ)) → IsNamed names [] → ⊥
named_some names h = let e = h.whole in cc

-- the first token is of the line
line_is : (ts : List Tok) (line at column : ℕ) (text : List ℕ) (items : List Piece) → AreOn line ts →
    map Token ts ≡ Token (tok Word text at column) ∷ items → at ≡ line
line_is [] line at column text items on e = absurd cc
line_is (t ∷ ts) line at column text items on e = let same : t ≡ tok Word text at column = cc in
    sym (ap (λ u. u.line) same) ∙ on.0

-- a header of these
abbrev pub header_of : RingKind → List (List ℕ) → ℕ → Header
header_of kind names line = record { ring = kind; names = names; vars_line = line }

abbrev NamesLine : RingKind → List (List ℕ) → ℕ → List Piece → Type 0
NamesLine kind names line us = Then (One (Passes vars_word))
    (λ at. Then AreNamesInLine (λ all. Empty (header_of kind all at))) us (header_of kind names line)

names_line : (kind : RingKind) (names : List (List ℕ)) (line : ℕ) → length names ≤ most_names → (ts : List Tok) →
    AreOn line ts → IsNamed names (map Token ts) → NamesLine kind names line (map Token ts ++ LineEnd line ∷ [])
names_line kind names line few ts on h =
    let vars = Token (tok Word (codes "vars") h.line h.column) in
    let rest = h.items ++ LineEnd line ∷ [] in
    record {
      front = vars ∷ [];
      back = rest;
      value = line;
      whole = ap (λ ps. ps ++ LineEnd line ∷ []) h.whole;
      first = record { token = vars; whole = refl; is = ap Ok (line_is ts line h.line h.column _ h.items on h.whole) };
      second = record {
        front = rest;
        back = [];
        value = names;
        whole = sym (append-nil rest);
        first = record { items = h.items; end = LineEnd line; whole = refl; are = h.are; ends = refl; count = few };
        second = record { none = refl; is = refl };
      };
    }

-- ---- the header

regroup : (file_kind ring spaced : List ℕ) → codes "kind "
    ++ (file_kind ++ (codes "\nsemiring " ++ (ring ++ (codes "\nvars" ++ (spaced ++ codes "\n")))))
    ≡ ((codes "kind" ++ (codes " " ++ file_kind)) ++ codes "\n")
    ++ (((codes "semiring" ++ (codes " " ++ ring)) ++ codes "\n") ++ ((codes "vars" ++ spaced) ++ codes "\n"))
regroup file_kind ring spaced =
    let third = (codes "vars" ++ spaced) ++ codes "\n" in
    ap (λ z. codes "kind " ++ z) (ap (λ z. file_kind ++ (codes "\nsemiring " ++ z))
    (sym (append_assoc ring (codes "\n") third))
    ∙ sym (append_assoc file_kind (codes "\n")
    (((codes "semiring" ++ (codes " " ++ ring)) ++ codes "\n") ++ third)))

abbrev BehindKind : RingKind → List (List ℕ) → List Piece → Type 0
BehindKind kind names us = Then IsSemiringLine (λ ring. Then (One (Passes vars_word))
    (λ at. Then AreNamesInLine (λ all. Empty (header_of ring all at)))) us (header_of kind names 3)

pub header_lines : (file_kind : List ℕ) (kind : RingKind) (names : List (List ℕ)) → is_word file_kind ≡ true →
    names_spec.AreNames names → length names ≤ 63 → (rest : List ℕ)
    → AreLines (printed_header file_kind kind names) rest 1 4
    (λ us. IsHeader file_kind us (record { ring = kind; names = names; vars_line = 3 }))
header_lines file_kind kind names word are few rest =
    let third = lines_on rest 3 (λ e. absurd (omega arith)) refl (named_some names) (names_line kind names 3 few)
    (named_written names are) in
    let second_text = codes "semiring" ++ (codes " " ++ ring_word kind) in
    let third_text = (codes "vars" ++ after_spaces names) ++ codes "\n" in
    let second : AreLines (second_text ++ codes "\n") (third_text ++ rest) 2 3 (λ us. IsSemiringLine us kind) =
    lines_one (third_text ++ rest) 2 (λ e. absurd (omega arith)) refl (two_are_some (codes "semiring") (ring_word kind))
    (λ us. judged_line (codes "semiring") (ring_word kind) semiring_word kind 2 us (ring_passes kind))
    (two_words (codes "semiring") (ring_word kind) refl (ring_is_word kind)) in
    let behind = lines_join (λ us vs h k. semiring_then us vs h k) second third in
    let first = lines_one (((second_text ++ codes "\n") ++ third_text) ++ rest) 1 (λ e. absurd (omega arith)) refl
    (two_are_some (codes "kind") file_kind) (kind_line file_kind) (two_words (codes "kind") file_kind refl word) in
    rw (regroup file_kind (ring_word kind) (after_spaces names))
    (lines_join (λ us vs h k. kind_then us vs h k) first behind)
  where
    semiring_then : (us vs : List Piece) → IsSemiringLine us kind → NamesLine kind names 3 vs →
        BehindKind kind names (us ++ vs)
    semiring_then us vs h k = record { front = us; back = vs; value = kind; whole = refl; first = h; second = k }

    kind_then : (us vs : List Piece) → IsKindLine file_kind us tt → BehindKind kind names vs →
        IsHeader file_kind (us ++ vs) (record { ring = kind; names = names; vars_line = 3 })
    kind_then us vs h k = record { front = us; back = vs; value = tt; whole = refl; first = h; second = k }
