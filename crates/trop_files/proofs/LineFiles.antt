-- What reading line by line says of the whole text.
-- Index: first_none, behind_header, given_length, more_given, more_behind, next_whole, next_only, text_spelled,
-- text_at_end, text_refused, opened, unopened_fault, unopened.
use Rattle.std.proofs.Common.{◌≡◌, ◌<◌, ◌≤◌, ◌+◌, ℕ, Some, None, List, [], ◌∷◌, ◌++◌, codes, length, Ok, Err, refl, sym, ap, subst, ◌∙◌}
use Rattle.trop_theory.specs.Semiring.{Semiring}
use Rattle.trop_theory.specs.Numbers.{Numbering}
use Rattle.trop_theory.specs.Inequalities.{Inequality}
use Rattle.trop_grammar.specs.Reading.{Reading, Miss, go_on, read_then, gives}
use Rattle.trop_text.specs.Pieces.{Piece, InputEnd, pieces_of}
use Rattle.trop_text.specs.declared.fault.FaultKind.{FaultKind}
use Rattle.trop_text.specs.declared.fault.TextErr.{TextErr}
use Rattle.trop_reading.specs.declared.read_err.ReadErr.{ReadErr}
use Rattle.trop_reading.specs.declared.read_err.ReadErr.TheVariants as reads
use Rattle.trop_spelling.specs.declared.ring_kind.RingKind.{RingKind}
use Rattle.trop_reading.specs.Words.{is_input_end}
use Rattle.trop_files.specs.Header.{Header, IsHeader, header_at}
use Rattle.trop_files.specs.Generators.{greatest_number}
use Rattle.trop_spelling.specs.Inequalities.{IsInequality, inequality_at}
use Rattle.trop_files.specs.InequalityFiles.{most_inequalities, inequalities_at, Systems, InequalityFile, inequality_file, SpellsInequalities, inequalities_of_at, inequality_file_at}
use Rattle.trop_files.specs.Files.{file_at, file_rest_at}
use Rattle.trop_spelling.specs.Over.{Over, Embedding, IsOneOfThree, in_kind_at}
use Rattle.trop_spelling.proofs.EachKind.{in_kind-at}
use Rattle.trop_files.specs.InequalityLines.{LineReader, IsOpened, IsHeaded, line_at, first_at, first_lines_at, list_of, first_of, IsBehind}
use Rattle.trop_reading.specs.Outcome.{IsNoFault, IsRefusal}
use Rattle.trop_reading.specs.Gives.{Fails, IsPlaced}
use Rattle.trop_reading.proofs.Loops.{fails_with}
use Rattle.trop_reading.proofs.Outcomes.{spelled, refused, input_end_alone}
use Rattle.trop_grammar.proofs.Whole.{left_none}
use Rattle.trop_files.proofs.FileLaws.{header_reads}
use Rattle.trop_spelling.proofs.InequalityLaws.{inequality_reads}
use Rattle.trop_files.proofs.InequalityFileLaws.{inequality_file_reads, inequality_file_ends}
use Rattle.trop_files.proofs.LineSteps.{list_ends, list_stops, ends_input, line_is, line_from, first_more, first_length, reads_on, rest_of}

-- where a value is read, a refusal is no fault
not_faulty : {X : Type 0} (bytes : List ℕ) (e : ReadErr) (refusal : TextErr) (r : Reading Piece FaultKind X)
    (v : X × List Piece) → Fails e r → IsPlaced bytes e refusal → r ≡ Ok v → IsNoFault refusal
not_faulty bytes reads.NoMemory refusal r v h is e = subst IsNoFault (sym is) tt
not_faulty bytes (reads.Wrong what at) refusal r v h is e = absurd (subst (Fails (reads.Wrong what at)) e h)

module _ {V : Type 0} (kind : RingKind) (R : Semiring V) (N : Numbering V) (bytes : List ℕ) where
  -- ---- behind a header

  first_is : (h : Header) (body : List Piece) (k : ℕ) → header_at (codes "ineqs") (pieces_of bytes) ≡ Ok (h, body) →
      first_lines_at kind R N k (pieces_of bytes) ≡ first_at kind R N h.names k body
  unfolding first_lines_at read_then
  first_is h body k headed = ap (λ r. go_on r (λ h. first_at kind R N h.names k)) headed

  first_value : (h : Header) (body : List Piece) (k : ℕ) (xs : List (Inequality V)) (us : List Piece) →
      header_at (codes "ineqs") (pieces_of bytes) ≡ Ok (h, body) → first_at kind R N h.names k body ≡ Ok (xs, us) →
      first_of kind R N k bytes ≡ xs
  first_value h body k xs us headed e = ap list_of (first_is h body k headed ∙ e)

  -- none is given behind the header alone
  pub first_none : (h : Header) (body : List Piece) → header_at (codes "ineqs") (pieces_of bytes) ≡ Ok (h, body) →
      first_of kind R N 0 bytes ≡ []
  unfolding first_at gives
  first_none h body headed = first_value h body 0 [] body headed refl

  behind_from : (h : Header) (body : List Piece) (k : ℕ) (xs : List (Inequality V)) (us : List Piece) →
      header_at (codes "ineqs") (pieces_of bytes) ≡ Ok (h, body) → h.ring ≡ kind →
      first_at kind R N h.names k body ≡ Ok (xs, us) → IsBehind kind R N bytes h.names k us
  behind_from h body k xs us headed ring e = record {
    header = h;
    body = body;
    headed = headed;
    ring = ring;
    named = refl;
    lines = e ∙ ap (λ z. Ok (z, us)) (sym (first_value h body k xs us headed e));
  }

  pub behind_header : (h : Header) (body : List Piece) → header_at (codes "ineqs") (pieces_of bytes) ≡ Ok (h, body) →
      h.ring ≡ kind → IsBehind kind R N bytes h.names 0 body
  unfolding first_at gives
  behind_header h body headed ring = behind_from h body 0 [] body headed ring refl

  module _ (names : List (List ℕ)) (k : ℕ) (left : List Piece) (behind : IsBehind kind R N bytes names k left) where
    abbrev given : List (Inequality V)
    given = first_of kind R N k bytes

    lines_are : first_at kind R N names k behind.body ≡ Ok (given, left)
    lines_are = ap (λ n. first_at kind R N n k behind.body) behind.named ∙ behind.lines

    pub given_length : length given ≡ k
    given_length = first_length kind R N names k behind.body given left lines_are

    pub more_given : (x : Inequality V) (us : List Piece) → line_at kind R N names k left ≡ Ok (Some x, us) →
        first_of kind R N (k + 1) bytes ≡ given ++ x ∷ []
    more_given x us e =
        first_value behind.header behind.body (k + 1) (given ++ x ∷ []) us behind.headed
        (ap (λ n. first_at kind R N n (k + 1) behind.body) (sym behind.named)
        ∙ first_more kind R N names k behind.body given left x us lines_are (line_is kind R N names k left x us e))

    pub more_behind : (x : Inequality V) (us : List Piece) → line_at kind R N names k left ≡ Ok (Some x, us) →
        IsBehind kind R N bytes names (k + 1) us
    more_behind x us e = record {
      header = behind.header;
      body = behind.body;
      headed = behind.headed;
      ring = behind.ring;
      named = behind.named;
      lines =
          ap (λ n. first_at kind R N n (k + 1) behind.body) (sym behind.named)
          ∙ first_more kind R N names k behind.body given left x us lines_are (line_is kind R N names k left x us e)
          ∙ ap (λ z. Ok (z, us)) (sym (more_given x us e));
    }

    -- ---- the next line

    pub next_whole : (x : Inequality V) (us : List Piece) → line_at kind R N names k left ≡ Ok (Some x, us) →
        (line : List Piece) × (left ≡ line ++ us) × IsInequality kind R N greatest_number names line x
    next_whole x us e =
        let t = (inequality_reads R N greatest_number names kind).takes left x us
        (line_is kind R N names k left x us e) in
        (t.taken, t.whole, t.is)

    pub next_only : (line rest : List Piece) (x : Inequality V) → k < most_inequalities → left ≡ line ++ rest →
        IsInequality kind R N greatest_number names line x → line_at kind R N names k left ≡ Ok (Some x, rest)
    next_only line rest x below whole is =
        line_from kind R N names k left x rest below
        (ap (inequality_at kind R N greatest_number names) whole
        ∙ (inequality_reads R N greatest_number names kind).reads line rest x is tt)

    -- ---- the whole text

    go_any : (any : List (Inequality V) → Over Systems) (h : Header) (r : Reading Piece FaultKind (List (Inequality V)))
        → go_on (go_on r (λ xs. gives (any xs))) (λ a. gives (inequality_file h a)) ≡ go_on r
        (λ xs. gives (inequality_file h (any xs)))
    unfolding gives
    go_any any h (Ok x) = refl
    go_any any h (Err miss) = refl

    module _ {over : Embedding V} (one : IsOneOfThree V kind R N over) (few : k ≤ most_inequalities) where
      abbrev file : List (Inequality V) → InequalityFile
      file xs = record { names = names; inequalities = over Systems xs }

      -- reading on from here is reading the text
      text_is : inequality_file_at (pieces_of bytes) ≡ go_on (rest_of kind R N names k given left)
          (λ xs. gives (file xs))
      unfolding file_at file_rest_at read_then
      text_is =
          ap (λ r. go_on r (file_rest_at inequalities_of_at inequality_file)) behind.headed
          ∙ ap (λ c. go_on (in_kind_at (inequalities_of_at behind.header) c behind.body)
          (λ a. gives (inequality_file behind.header a))) behind.ring
          ∙ ap (λ r. go_on r (λ a. gives (inequality_file behind.header a)))
          (in_kind-at one (inequalities_of_at behind.header) behind.body)
          ∙ go_any (over Systems) behind.header (inequalities_at kind R N behind.header.names is_input_end behind.body)
          ∙ ap (λ n. go_on (inequalities_at kind R N n is_input_end behind.body)
          (λ xs. gives (let f : InequalityFile = record { names = n; inequalities = over Systems xs } in f)))
          (sym behind.named)
          ∙ ap (λ r. go_on r (λ xs. gives (file xs))) (reads_on kind R N names k behind.body given left few lines_are)

      text_ends : (us : List Piece) → line_at kind R N names k left ≡ Ok (None, us) →
          inequality_file_at (pieces_of bytes) ≡ Ok (file given, us)
      unfolding gives
      text_ends us e = text_is ∙ ap (λ r. go_on r (λ xs. gives (file xs))) (list_ends kind R N names k given left us e)

      pub text_spelled : (us : List Piece) → line_at kind R N names k left ≡ Ok (None, us) →
          SpellsInequalities (pieces_of bytes) (file given)
      text_spelled us e = spelled inequality_file_reads inequality_file_ends bytes (pieces_of bytes) refl
          (file given) us (text_ends us e)

      pub text_at_end : (us : List Piece) → line_at kind R N names k left ≡ Ok (None, us) → left ≡ InputEnd ∷ []
      text_at_end us e = ends_input kind R N names k left us e ∙ ap (λ (z : List Piece). InputEnd ∷ z)
          (left_none inequality_file_reads inequality_file_ends (pieces_of bytes) (input_end_alone bytes)
          (file given) us (text_ends us e))

      pub text_refused : (e : ReadErr) (refusal : TextErr) → Fails e (line_at kind R N names k left) →
          IsPlaced bytes e refusal → IsRefusal SpellsInequalities inequality_file_at bytes refusal
      text_refused e refusal h is =
          refused inequality_file_reads inequality_file_ends bytes (pieces_of bytes) refl e refusal
          (fails_with e (line_at kind R N names k left) (inequality_file_at (pieces_of bytes)) h
          (λ miss m. text_is ∙ ap (λ r. go_on r (λ xs. gives (file xs)))
          (list_stops kind R N names k given left miss m)))
          is

-- ---- the header

-- behind the header stands a reader that gave nothing yet
pub opened : {V : Type 0} (kind : RingKind) (R : Semiring V) (N : Numbering V) (bytes : List ℕ) (h : Header)
    (body : List Piece) → IsHeaded bytes h body → h.ring ≡ kind → (reader : LineReader V)
    → reader ≡ record { bytes = bytes; names = h.names; given = first_of kind R N 0 bytes; left = body; failed = None }
    → IsOpened kind bytes reader
opened kind R N bytes h body headed ring reader is =
    let t = (header_reads (codes "ineqs") refl).takes (pieces_of bytes) h body headed in
    record {
      header = h;
      lines = t.taken;
      whole = t.whole ∙ ap (λ (z : List Piece). t.taken ++ z) (sym (ap (λ r. r.left) is));
      is = t.is;
      ring = ring;
      names = ap (λ r. r.names) is;
      bytes = ap (λ r. r.bytes) is;
      given = ap (λ r. r.given) is ∙ first_none kind R N bytes h body headed;
      failed = ap (λ r. r.failed) is;
    }

module _ (bytes : List ℕ) (ts : List Piece) (start : ts ≡ pieces_of bytes) (e : ReadErr) (refusal : TextErr)
    (fails : Fails e (header_at (codes "ineqs") ts)) (is : IsPlaced bytes e refusal) where
  text_fails : (miss : Miss Piece FaultKind) → header_at (codes "ineqs") ts ≡ Err miss →
      inequality_file_at ts ≡ Err miss
  unfolding file_at read_then
  text_fails miss m = ap (λ r. go_on r (file_rest_at inequalities_of_at inequality_file)) m

  -- a fault of the header is that of the text
  pub unopened_fault : IsRefusal SpellsInequalities inequality_file_at bytes refusal
  unopened_fault = refused inequality_file_reads inequality_file_ends bytes ts start e refusal
      (fails_with e (header_at (codes "ineqs") ts) (inequality_file_at ts) fails text_fails) is

  -- a text that begins with a header is refused for want of memory alone
  pub unopened : (front rest : List Piece) (h : Header) → pieces_of bytes ≡ front ++ rest →
      IsHeader (codes "ineqs") front h → IsNoFault refusal
  unopened front rest h whole spells = not_faulty bytes e refusal (header_at (codes "ineqs") ts) (h, rest) fails is
      (ap (header_at (codes "ineqs")) (start ∙ whole)
      ∙ (header_reads (codes "ineqs") refl).reads front rest h spells tt)
