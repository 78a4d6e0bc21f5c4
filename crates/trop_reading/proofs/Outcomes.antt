-- From what a reader gives to what it promises, of a whole file or of a part of a source.
-- Index: input_end_alone, start_is, spelled, answered, refused, not_answered, line_start_is, line_rest_is,
-- read_in_line, answered_in_line, refused_in_line, not_answered_in_line.
use Rattle.std.proofs.Common.{◌≡◌, ℕ, zero, suc, Bool, true, false, cond, List, [], ◌∷◌, ◌++◌, Ok, Err, refl, sym, ap, subst, ◌∙◌, ◌||◌, ◌==◌}
use Rattle.trop_grammar.specs.Reading.{Reading, Miss}
use Rattle.trop_grammar.specs.Grammar.{StartsWith}
use Rattle.trop_grammar.specs.Reads.{Reads, Anything, IsFirstFault}
use Rattle.trop_grammar.proofs.Ends.{EndsWith}
use Rattle.trop_grammar.proofs.Whole.{IsLastAlone, found, only, first_fault, only_front, first_fault_front}
use Rattle.trop_text.specs.Tokens.{Tok, tokens_of}
use Rattle.trop_text.specs.Pieces.{Piece, Token, LineEnd, InputEnd, ends_from, pieces_from, pieces_of, pieces_left, tokens_left}
use Rattle.trop_text.specs.declared.pieces.Pieces.{Pieces}
use Rattle.trop_text.specs.declared.lexer.Lexer.{Lexer}
use Rattle.trop_text.specs.Lexer.{left}
use Rattle.trop_text.specs.Places.{fault_before}
use Rattle.trop_text.specs.declared.fault.FaultKind.{FaultKind}
use Rattle.trop_text.specs.declared.fault.TextErr.{TextErr}
use Rattle.trop_text.specs.declared.fault.TextErr.TheVariants as errors
use Rattle.trop_reading.specs.declared.read_err.ReadErr.{ReadErr}
use Rattle.trop_reading.specs.declared.read_err.ReadErr.TheVariants as reads
use Rattle.trop_reading.specs.Words.{is_input_end}
use Rattle.trop_reading.specs.Gives.{Fails, IsPlaced}
use Rattle.trop_reading.specs.Outcome.{AnswersWith, IsFaultIn, IsRefusalIn, IsRefusal}
use Rattle.trop_reading.specs.InLines.{IsReadInLine}
use Rattle.trop_reading.proofs.Samples.{IsInputEnd}

-- ---- the end of the input stands at the end alone

tail_alone : (p q : Piece) (ps front : List Piece) (t : Piece) (rest : List Piece) → is_input_end p ≡ false →
    IsInputEnd t → p ∷ ps ≡ front ++ t ∷ rest → ((fs : List Piece) → ps ≡ fs ++ t ∷ rest → rest ≡ []) → rest ≡ []
tail_alone p q ps [] t rest other is e k = let same : p ≡ t = cc in
    absurd (let b : false ≡ true = sym other ∙ ap is_input_end same ∙ is in cc)
tail_alone p q ps (f ∷ front) t rest other is e k = let tails : ps ≡ front ++ t ∷ rest = cc in k front tails

one_alone : (ps front : List Piece) (t : Piece) (rest : List Piece) → ps ≡ InputEnd ∷ [] → ps ≡ front ++ t ∷ rest →
    rest ≡ []
one_alone ps [] t rest one e = cc
one_alone ps (f ∷ []) t rest one e = absurd cc
one_alone ps (f ∷ g ∷ front) t rest one e = absurd cc

ends_alone : (line : ℕ) (front : List Piece) (t : Piece) (rest : List Piece) → IsInputEnd t →
    ends_from line ≡ front ++ t ∷ rest → rest ≡ []
ends_alone zero front t rest is e = one_alone (InputEnd ∷ []) front t rest refl e
ends_alone (suc line) front t rest is e = tail_alone (LineEnd (suc line)) InputEnd
    (InputEnd ∷ []) front t rest refl is e (λ fs k. one_alone (InputEnd ∷ []) fs t rest refl k)

begun : (b : Bool) (line : ℕ) (u : Tok) (us : List Piece) (front : List Piece) (t : Piece) (rest : List Piece) →
    IsInputEnd t → cond b (Token u ∷ us) (LineEnd line ∷ Token u ∷ us) ≡ front ++ t ∷ rest →
    ((fs : List Piece) → us ≡ fs ++ t ∷ rest → rest ≡ []) → rest ≡ []
begun true line u us front t rest is e k = tail_alone (Token u) InputEnd us front t rest refl is e k
begun false line u us front t rest is e k = tail_alone (LineEnd line) InputEnd (Token u ∷ us) front t rest refl is e
    (λ fs h. tail_alone (Token u) InputEnd us fs t rest refl is h k)

from_alone : (ts : List Tok) (line : ℕ) (front : List Piece) (t : Piece) (rest : List Piece) → IsInputEnd t →
    pieces_from ts line ≡ front ++ t ∷ rest → rest ≡ []
unfolding pieces_from
from_alone [] line front t rest is e = ends_alone line front t rest is e
from_alone (u ∷ ts) line front t rest is e = begun ((line == 0) || (u.line == line)) line u
    (pieces_from ts u.line) front t rest is e (λ fs h. from_alone ts u.line fs t rest is h)

pub input_end_alone : (bytes : List ℕ) → IsLastAlone IsInputEnd (pieces_of bytes)
input_end_alone bytes = record { at = λ front t rest e is. from_alone (tokens_of bytes) 0 front t rest is e }

-- ---- the promises of a reader

-- the pieces with which a reader of a whole text begins
pub start_is : (bytes : List ℕ) (lexer : Lexer) (at : Pieces) → left lexer ≡ tokens_of bytes →
    pieces_left at ≡ pieces_from (left lexer) 0 → pieces_left at ≡ pieces_of bytes
start_is bytes lexer at tokens pieces = pieces ∙ ap (λ ts. pieces_from ts 0) tokens

-- a reading that has this fault
abbrev IsMiss : {A : Type 0} → FaultKind → List Piece → Reading Piece FaultKind A → Type 0
IsMiss what at (Ok x) = ⊥
IsMiss what at (Err miss) = (what ≡ miss.what) × (at ≡ miss.rest)

miss_of : {A : Type 0} (what : FaultKind) (at : Pieces) (read : Reading Piece FaultKind A) →
    Fails (reads.Wrong what at) read → IsMiss what (pieces_left at) read
miss_of what at (Ok x) k = absurd k
miss_of what at (Err miss) k = k

abbrev read_ok : {A : Type 0} → A × List Piece → Reading Piece FaultKind A
read_ok p = Ok p

same_value : {A : Type 0} (x y : A) (us vs : List Piece) → read_ok (x, us) ≡ read_ok (y, vs) → x ≡ y
same_value {A} x y us vs e = let p : (x, us) ≡ (y, vs) = cc in ap (λ (z : A × List Piece). z.0) p

-- where a reading stops is the first fault of these pieces
abbrev IsFirst : {A : Type 0} → (List Piece → Reading Piece FaultKind A) → (List Piece → A → Type 0) → List Piece →
    Type 0
IsFirst read R ps = (miss : Miss Piece FaultKind) → read ps ≡ Err miss → IsFirstFault R ps miss.rest

module _ {A : Type 0} (read : List Piece → Reading Piece FaultKind A) (R : List Piece → A → Type 0) (bytes : List ℕ)
    (ps : List Piece) (first : IsFirst read R ps) where
  refused_at : (kind : FaultKind) (at : List Piece) (miss : Miss Piece FaultKind) → read ps ≡ Err miss →
      kind ≡ miss.what → at ≡ miss.rest → IsFaultIn R read bytes ps (fault_before bytes kind at)
  refused_at kind at miss e k p = record {
    kind = miss.what;
    rest = miss.rest;
    is = ap (λ z. fault_before bytes z at) k ∙ ap (fault_before bytes miss.what) p;
    first = first miss e;
    judged = e;
  }

  wrong_at : (what : FaultKind) (at : List Piece) (r : Reading Piece FaultKind A) → read ps ≡ r → IsMiss what at r →
      IsFaultIn R read bytes ps (fault_before bytes what at)
  wrong_at what at (Ok x) e k = absurd k
  wrong_at what at (Err miss) e k = refused_at what at miss e k.0 k.1

  refused_in : (ts : List Piece) → ts ≡ ps → (e : ReadErr) (refusal : TextErr) → Fails e (read ts) →
      IsPlaced bytes e refusal → IsRefusalIn R read bytes ps refusal
  refused_in ts start reads.NoMemory refusal k is = subst (IsRefusalIn R read bytes ps) (sym is) tt
  refused_in ts start (reads.Wrong what at) refusal k is =
      subst (IsRefusalIn R read bytes ps) (sym is)
      (wrong_at what (pieces_left at) (read ts) (ap read (sym start)) (miss_of what at (read ts) k))

  unspelled : {X : Type 0} (view : X → A) (refusal : TextErr) → IsRefusalIn R read bytes ps refusal → (value : A) →
      R ps value → AnswersWith view (Err refusal) value
  unspelled view errors.NoMemory k value s = tt
  unspelled view (errors.Fault f) k value s = k.first.spelled value s

-- ---- a whole text

module _ {A : Type 0} {read : List Piece → Reading Piece FaultKind A} {R : List Piece → A → Type 0}
    (h : Reads Anything read R) (ends : EndsWith IsInputEnd R) (bytes : List ℕ) (ts : List Piece)
    (start : ts ≡ pieces_of bytes) where
  pub spelled : (x : A) (rest : List Piece) → read ts ≡ Ok (x, rest) → R (pieces_of bytes) x
  spelled x rest e = found h ends (pieces_of bytes) (input_end_alone bytes) x rest (ap read (sym start) ∙ e)

  pub answered : {X : Type 0} (view : X → A) (x : X) (rest : List Piece) → read ts ≡ Ok (view x, rest) → (value : A) →
      R (pieces_of bytes) value → view x ≡ value
  answered view x rest e value s = same_value (view x) value rest []
      (sym e ∙ ap read start ∙ only h (pieces_of bytes) value s)

  pub refused : (e : ReadErr) (refusal : TextErr) → Fails e (read ts) → IsPlaced bytes e refusal →
      IsRefusal R read bytes refusal
  refused e refusal k is = refused_in read R bytes (pieces_of bytes)
      (first_fault h (pieces_of bytes)) ts start e refusal k is

  pub not_answered : {X : Type 0} (view : X → A) (e : ReadErr) (refusal : TextErr) → Fails e (read ts) →
      IsPlaced bytes e refusal → (value : A) → R (pieces_of bytes) value → AnswersWith view (Err refusal) value
  not_answered view e refusal k is value s = unspelled read R bytes (pieces_of bytes)
      (first_fault h (pieces_of bytes)) view refusal (refused e refusal k is) value s

-- ---- a part of a source, in a line

-- the pieces with which a reader of a part begins
pub line_start_is : (line : ℕ) (old lexer : Lexer) (at : Pieces) → left lexer ≡ left old →
    pieces_left at ≡ pieces_from (left lexer) line → pieces_left at ≡ pieces_from (left old) line
line_start_is line old lexer at tokens pieces = pieces ∙ ap (λ ts. pieces_from ts line) tokens

-- the pieces behind the line, in the tokens of the lexer that is left
pub line_rest_is : (rest : Pieces) (lexer : Lexer) → pieces_left rest ≡ pieces_from (tokens_left rest) 0 →
    left lexer ≡ tokens_left rest → pieces_left rest ≡ pieces_from (left lexer) 0
line_rest_is rest lexer pieces tokens = pieces ∙ ap (λ ts. pieces_from ts 0) (sym tokens)

module _ {A : Type 0} {read : List Piece → Reading Piece FaultKind A} {R : List Piece → A → Type 0}
    (h : Reads Anything read R) (line : ℕ) (old : List Tok) (ts : List Piece) (start : ts ≡ pieces_from old line) where
  pub read_in_line : (x : A) (rest : List Piece) (new : List Tok) → read ts ≡ Ok (x, rest) → rest ≡ pieces_from new 0 →
      IsReadInLine R line old x new
  read_in_line x rest new e behind =
      let t = h.takes ts x rest e in
      record { front = t.taken; whole = sym start ∙ t.whole ∙ ap (λ (z : List Piece). t.taken ++ z) behind; is = t.is }

  pub answered_in_line : {X : Type 0} (view : X → A) (x : X) (rest : List Piece) → read ts ≡ Ok (view x, rest) →
      (value : A) → StartsWith R (pieces_from old line) value → view x ≡ value
  answered_in_line view x rest e value s = same_value (view x) value rest s.back
      (sym e ∙ ap read start ∙ only_front h (pieces_from old line) value s)

  -- the lexer whose source the fault is refusal in is of the source of the old one
  pub refused_in_line : (bytes held : List ℕ) → held ≡ bytes → (e : ReadErr) (refusal : TextErr) → Fails e (read ts) →
      IsPlaced held e refusal → IsRefusalIn (StartsWith R) read bytes (pieces_from old line) refusal
  refused_in_line bytes held same e refusal k is =
      refused_in read (StartsWith R) bytes (pieces_from old line) (first_fault_front h (pieces_from old line)) ts start
      e refusal k (subst (λ (z : List ℕ). IsPlaced z e refusal) same is)

  pub not_answered_in_line : {X : Type 0} (view : X → A) (bytes : List ℕ) (e : ReadErr) (refusal : TextErr) →
      Fails e (read ts) → IsPlaced bytes e refusal → (value : A) → StartsWith R (pieces_from old line) value →
      AnswersWith view (Err refusal) value
  not_answered_in_line view bytes e refusal k is value s =
      unspelled read (StartsWith R) bytes (pieces_from old line) (first_fault_front h (pieces_from old line)) view
      refusal (refused_in_line bytes bytes refl e refusal k is) value s
