-- What is printed is read back.
-- Index: IsAsPrinted, as_printed, printed_spelled.
use Rattle.std.proofs.Common.{◌≡◌, ◌≤◌, ◌<◌, ◌+◌, ◌^◌, ℕ, zero, suc, Bool, true, false, cond, None, List, [], ◌∷◌, ◌++◌, length, length-append, get_or, Ok, refl, sym, ap, subst, ◌∙◌, append_assoc, append-nil, arith, nat_le}
use Rattle.std.specs.Prelude.{not}
use Rattle.std.specs.List.{position, position_or_len}
use Rattle.std.specs.Str.{bytes_eq}
use Rattle.std.proofs.Math.Seq.{get_or-append_seam}
use Rattle.std.proofs.Math.ListN.{get_or-append}
use Rattle.std.proofs.lemmas.Bool.{le-ltb}
use Rattle.std.proofs.lemmas.Bool.Decides.{nat_tests}
use Rattle.std.proofs.lemmas.Slice.Eq.{bytes_eq-Decides}
use Rattle.trop_text.specs.Name.{is_name}
use Rattle.trop_text.specs.Names.{AreNames, place_of}
use Rattle.trop_text.specs.Tokens.{Tok, tokens_past}
use Rattle.trop_text.specs.Pieces.{Piece, LineEnd, InputEnd, pieces_from, ends_from}
use Rattle.trop_reading.proofs.NameWords.{false_if}
use Rattle.shape_grammar.specs.Past.{past}
use Rattle.prog_theory.specs.Limits.{Limits, program_limits}
use Rattle.prog_theory.specs.Named.{Named}
use Rattle.prog_theory.specs.Within.{IsWithin}
use Rattle.prog_theory.specs.Numbering.{counts}
use Rattle.prog_theory.specs.Atoms.{block_atoms}
use Rattle.prog_texts.specs.AssertRule.{AssertRule}
use Rattle.prog_texts.specs.Words.{Before, Counted, skipped, nothing_before, behind, counted, program_pieces}
use Rattle.prog_texts.specs.Judges.{ended}
use Rattle.prog_texts.specs.Inked.{AreInks}
use Rattle.prog_texts.specs.Printed.{program_inks, printed}
use Rattle.prog_texts.specs.Suits.{SuitsBlock, MayFollow}
use Rattle.prog_texts.specs.Programs.{IsWholeProgram}
use Rattle.prog_texts.proofs.PrintedParts.{Then_all, the_empty, a_one}
use Rattle.prog_texts.proofs.PrintedPrograms.{IsPrintable, program_spelled}
use Rattle.prog_print.proofs.Walks.{Edge, Apart, Walks, after_inks, last_edge, walked}
use Rattle.prog_print.proofs.Lexing.{Stops, lexes}
use Rattle.prog_print.proofs.InkPieces.{inked}
use Rattle.prog_print.proofs.WalkedStatements.{Ended, program_walks}

-- ---- names

-- no place, where none passes
none_passes : {X : Type 0} (p : X → Bool) (d : X) (xs : List X) →
    ((j : ℕ) → j < length xs → p (get_or xs j d) ≡ false) → position_or_len p xs ≡ length xs
none_passes p d [] h = refl
none_passes p d (x ∷ xs) h =
    ap (λ b. cond (not b) (1 + position_or_len p xs) 0) (h 0 (omega arith))
    ∙ ap (λ n. 1 + n) (none_passes p d xs (λ j l. h (suc j) (omega arith))) ∙ omega arith

no_place : {X : Type 0} (p : X → Bool) (xs : List X) (n : ℕ) → n ≡ length xs → position_or_len p xs ≡ n →
    position p xs ≡ None
no_place p xs n e f = rw (f, ← e, le-ltb n n (omega arith)) refl

no_more : (m n k : ℕ) → m ≤ 0 + n → n ≤ k → m ≤ k
no_more m n k h l = omega arith

not_full : (a b : ℕ) → b < a → nat_le a b ≡ false
not_full a b h = grind (arith, nat_tests)

module _ (before : List (List ℕ)) (name : List ℕ) (names : List (List ℕ)) (are : AreNames (before ++ name ∷ names))
  where
    name_is : is_name name ≡ true
    name_is =
        let n : length before < length (before ++ name ∷ names) = omega (arith, length-append before (name ∷ names)) in
        sym (ap is_name (get_or-append_seam before name names [])) ∙ are.each (length before) [] n

    differs : (j : ℕ) → j < length before → bytes_eq name (get_or before j []) ≡ true → ⊥
    differs j h e =
        let n : length (before ++ name ∷ names) ≡ length before + length (name ∷ names) =
        length-append before (name ∷ names) in
        let same = are.distinct (length before) j (omega arith) (omega arith)
        (get_or-append_seam before name names [] ∙ (bytes_eq-Decides name (get_or before j [])).0 e
        ∙ sym (get_or-append before (name ∷ names) [] j h)) in
        absurd (omega arith)

    is_undeclared : place_of name before ≡ None
    is_undeclared = no_place (bytes_eq name) before (length before) refl
        (none_passes (bytes_eq name) [] before (λ j h. false_if _ (differs j h)))

names_follow : (L : Limits) (names before : List (List ℕ)) → AreNames (before ++ names) →
    length (before ++ names) ≤ L.vars → MayFollow L before names
names_follow L [] before are few = tt
names_follow L (name ∷ names) before are few =
    let regroup : before ++ name ∷ names ≡ (before ++ name ∷ []) ++ names = sym (append_assoc before (name ∷ [])
    names) in
    let n : length (before ++ name ∷ names) ≡ length before + length (name ∷ names) =
    length-append before (name ∷ names) in (
      name_is before name names are,
      is_undeclared before name names are,
      not_full L.vars (length before) (omega (arith, n, few)),
      names_follow L names (before ++ name ∷ []) (subst AreNames regroup are)
          (subst (λ (z : List (List ℕ)). length z ≤ L.vars) regroup few),
    )

-- ---- programs

module _ (p : Named) (are : AreNames p.names) (within : IsWithin program_limits p) where
  abbrev L : Limits
  L = program_limits

  small : L.number < 2 ^ 64
  small = omega arith

  -- Before these bytes, in this line: the first pieces are what was printed, and the pieces of the bytes follow, from
  -- some place on. There the last line that has a token is this one.
  pub record IsAsPrinted (line : ℕ) (rest : List ℕ) : Type 0 where
    pub front : List Counted
    pub end : Before
    pub last : ℕ
    pub next : ℕ
    pub place : ℕ
    pub ordered : line ≤ next
    pub whole : counted nothing_before (pieces_from (tokens_past 0 (printed p ++ rest) line 1) 0) ≡
        front ++ counted end (pieces_from (tokens_past 0 rest next place) last)
    pub are_inks : AreInks L p.names (program_inks p) front

  abbrev Q : Before → Edge → Type 0
  Q = Ended nothing_before (counts p.body) (block_atoms p.body)

  walks : Walks L.number p.names nothing_before Apart (program_inks p) Q
  walks = program_walks L.number small p.names are p refl within.coordinates within.numbers within.sides

  pub as_printed : (line : ℕ) (rest : List ℕ) → IsAsPrinted line rest
  as_printed line rest =
      let w = walked L.number p.names Q (program_inks p) nothing_before Apart walks in
      let stops : Stops (last_edge L.number p.names Apart (program_inks p)) rest =
      subst (λ (z : Edge). Stops z rest) (sym w.apart) tt in
      let l = lexes L.number small p.names Q (program_inks p) nothing_before Apart rest line 1 walks stops in
      let k = inked L small p.names Q (program_inks p) nothing_before Apart l.tokens
      (tokens_past 0 rest l.next l.place) 0 l.texts walks (
        no_more _ _ _ w.statements within.statements,
        no_more _ _ _
            w.atoms within.atoms,
      ) in
      record {
        front = k.front;
        end = after_inks L.number p.names nothing_before (program_inks p);
        last = k.next;
        next = l.next;
        place = l.place;
        ordered = l.ordered;
        whole = ap (λ (ts : List Tok). counted nothing_before (pieces_from ts 0)) l.lexed ∙ k.whole;
        are_inks = k.are;
      }

  -- it may be printed under each rule that its asserts suit
  pub printable : (rule : AssertRule) → SuitsBlock rule p.body → IsPrintable L rule p
  printable rule suits = record {
    names = names_follow L p.names [] are within.vars;
    sides = suits;
    depth = within.nesting;
  }

  -- ---- the end of the input

  end_pieces : (line : ℕ) → pieces_from [] line ≡ ends_from line
  unfolding pieces_from
  end_pieces line = refl

  no_tokens : (line column : ℕ) → tokens_past 0 [] line column ≡ []
  unfolding tokens_past
  no_tokens line column = refl

  -- the end of the input is the last token
  record IsEnd (us : List Counted) : Type 0 where
    token : Counted
    whole : past skipped us ≡ token ∷ []
    is : ended token ≡ Ok tt

  ends : (b : Before) (line : ℕ) → IsEnd (counted b (ends_from line))
  unfolding counted past
  ends b zero = record { token = record { piece = InputEnd; before = b }; whole = refl; is = refl }
  ends b (suc line) =
      let l : Counted = record { piece = LineEnd (suc line); before = b } in
      record { token = record { piece = InputEnd; before = behind l }; whole = refl; is = refl }

  -- the printed text spells the program
  pub printed_spelled : (rule : AssertRule) → SuitsBlock rule p.body →
      IsWholeProgram L rule (program_pieces (printed p)) p
  printed_spelled rule suits =
      let k = as_printed 1 [] in
      let back = counted k.end (ends_from k.last) in
      let e = ends k.end k.last in
      record {
        front = k.front;
        back = back;
        value = p;
        whole = ap program_pieces (sym (append-nil (printed p))) ∙ k.whole
            ∙ ap (λ (ts : List Tok). k.front ++ counted k.end (pieces_from ts k.last)) (no_tokens k.next k.place)
            ∙ ap (λ (ps : List Piece). k.front ++ counted k.end ps) (end_pieces k.last);
        first = program_spelled L rule p (printable rule suits) k.front k.are_inks;
        second = Then_all back tt p (a_one back e.token [] tt e.whole refl e.is) (the_empty p [] refl);
      }
