-- A whole program and a trace file end with the end of the input, behind which nothing is left.
use Rattle.std.proofs.Common.{◌≡◌, ℕ, Bool, true, false, cond, List, [], ◌∷◌, ◌++◌, length, Ok, Err, refl, sym, ap, ◌∙◌, append_assoc, arith}
use Rattle.trop_text.specs.Tokens.{tokens_of}
use Rattle.trop_text.specs.Pieces.{Piece, Token, LineEnd, InputEnd, AreByLine, pieces_of}
use Rattle.trop_text.proofs.LineEnds.{pieces_by_line}
use Rattle.trop_text.specs.declared.fault.FaultKind.TheVariants.{Syntax}
use Rattle.trop_grammar.specs.Grammar.{Empty, Then}
use Rattle.trop_grammar.specs.Lists.{Passes}
use Rattle.shape_grammar.specs.Texts.{One}
use Rattle.shape_grammar.proofs.Pasts.{gap}
use Rattle.shape_grammar.proofs.TokenLaws.{token_whole}
use Rattle.prog_theory.specs.Limits.{Limits}
use Rattle.prog_theory.specs.Named.{Named}
use Rattle.prog_texts.specs.AssertRule.{AssertRule}
use Rattle.prog_texts.specs.Words.{Before, Counted, skipped, counted, is_end, is_input_end, program_pieces, nothing_before}
use Rattle.prog_texts.specs.Judges.{ended}
use Rattle.prog_texts.specs.Shapes.{language}
use Rattle.prog_texts.specs.Programs.{IsWholeProgram, whole_program_at}
use Rattle.prog_texts.specs.Traces.{TraceFile, trace_of, IsTraceFile, trace_file_at}
use Rattle.prog_texts.proofs.ProgramLaws.{whole_program_reads, whole_program_found}
use Rattle.prog_texts.proofs.TraceLaws.{trace_reads, trace_found}

-- the last token is the end of the input
pub record IsEnded (us : List Counted) : Type 0 where
  pub front : List Counted
  pub last : Counted
  pub whole : us ≡ front ++ last ∷ []
  pub end : is_end last ≡ true

is_ended : (t : Counted) (u : Unit {0}) → ended t ≡ Ok u → is_end t ≡ true
is_ended t u e = at (is_end t) refl e
  where
    at : (b : Bool) → is_end t ≡ b → cond b (Ok tt) (Err Syntax) ≡ Ok u → is_end t ≡ true
    at true k q = k
    at false k q = absurd cc

-- a text behind another
then_ended : {A B : Type 0} {R : List Counted → A → Type 0} {S : A → List Counted → B → Type 0} (us : List Counted)
    (y : B) → ((x : A) (vs : List Counted) → S x vs y → IsEnded vs) → Then R S us y → IsEnded us
then_ended us y to h =
    let k = to h.value h.back h.second in
    record {
      front = h.front ++ k.front;
      last = k.last;
      whole =
          h.whole ∙ ap (λ (z : List Counted). h.front ++ z) k.whole ∙ sym (append_assoc h.front k.front (k.last ∷ []));
      end = k.end;
    }

-- the end of the input
last_ended : {A : Type 0} (x y : A) (us : List Counted) → Then (One skipped (Passes ended)) (λ u. Empty x) us y →
    IsEnded us
last_ended x y us h =
    let t = h.first.token in
    let g = gap skipped h.front in
    let front : h.front ≡ g.front ++ t ∷ [] = token_whole language h.front t [] h.first.whole g in
    record {
      front = g.front;
      last = t;
      whole = h.whole ∙ ap (λ (z : List Counted). z ++ h.back) front
          ∙ ap (λ (z : List Counted). (g.front ++ t ∷ []) ++ z) h.second.none ∙ append_assoc g.front (t ∷ []) [];
      end =
          is_ended t h.value h.first.is;
    }

module _ (L : Limits) (rule : AssertRule) where
  pub program_ended : (us : List Counted) (p : Named) → IsWholeProgram L rule us p → IsEnded us
  program_ended us p h = then_ended us p (λ q vs k. last_ended q p vs k) h

  pub trace_ended : (us : List Counted) (x : TraceFile) → IsTraceFile L rule us x → IsEnded us
  trace_ended us x h = then_ended us x (λ p vs k. then_ended vs x
      (λ u ws l. then_ended ws x (λ s zs m. then_ended zs x
      (λ v qs n. then_ended qs x (λ c bs o. last_ended (trace_of p s c) x bs o) n) m) l) k) h

-- ---- nothing stands behind the end of the input

parts : (t u : Counted) (ts us : List Counted) → t ∷ ts ≡ u ∷ us → (t ≡ u) × (ts ≡ us)
parts t u ts us e = (cc, cc)

not_both : (b : Bool) → b ≡ true → b ≡ false → ⊥
not_both b e k = let h = sym e ∙ k in cc

none_counted : (ps : List Piece) (b : Before) → ps ≡ [] → counted b ps ≡ []
unfolding counted
none_counted ps b e = rw e refl

no_more : (front : List Counted) (t : Counted) (rest : List Counted) → [] ≡ front ++ t ∷ rest → ⊥
no_more [] t rest e = cc
no_more (f ∷ front) t rest e = cc

last_end : (ps : List Piece) (line : ℕ) → AreByLine line ps →
    (b : Before) (front : List Counted) (t : Counted) (rest : List Counted) → counted b ps ≡ front ++ t ∷ rest →
    is_end t ≡ true → rest ≡ []
unfolding counted
last_end [] line h b front t rest e is = absurd h
last_end (Token p ∷ ps) line h b [] t rest e is = absurd
    (not_both (is_end t) is (ap (λ (z : Counted). is_input_end z.piece) (sym (parts _ _ _ _ e).0)))
last_end (LineEnd p ∷ ps) line h b [] t rest e is =
    absurd (not_both (is_end t) is (ap (λ (z : Counted). is_input_end z.piece) (sym (parts _ _ _ _ e).0)))
last_end (InputEnd ∷ ps) line h b [] t rest e is = sym (parts _ _ _ _ e).1 ∙ none_counted ps _ h.1
last_end (Token p ∷ ps) line h b (f ∷ front) t rest e is = last_end ps p.line h.1 _ front t rest (parts _ _ _ _ e).1 is
last_end (LineEnd p ∷ ps) line h b (f ∷ front) t rest e is = last_end ps 0 h.3 _ front t rest (parts _ _ _ _ e).1 is
last_end (InputEnd ∷ ps) line h b (f ∷ front) t rest e is =
    absurd (no_more front t rest (sym (none_counted ps _ h.1) ∙ (parts _ _ _ _ e).1))

behind_end : (bytes : List ℕ) (us rest : List Counted) → program_pieces bytes ≡ us ++ rest → IsEnded us → rest ≡ []
behind_end bytes us rest e h =
    last_end (pieces_of bytes) 0 (pieces_by_line (tokens_of bytes) 0) nothing_before h.front h.last rest
    (e ∙ ap (λ (z : List Counted). z ++ rest) h.whole ∙ append_assoc h.front (h.last ∷ []) rest) h.end

module _ (L : Limits) (rule : AssertRule) (bytes : List ℕ) where
  abbrev ts : List Counted
  ts = program_pieces bytes

  -- nothing is left behind a program, and it is spelled by the whole text
  pub nothing_left : (p : Named) (rest : List Counted) → whole_program_at L rule ts ≡ Ok (p, rest) → rest ≡ []
  nothing_left p rest e = let h = (whole_program_reads L rule (length ts)).texts.takes ts p rest (omega arith) e in
      behind_end bytes h.taken rest h.whole (program_ended L rule h.taken p h.is)

  -- nothing is left behind a trace file
  pub trace_nothing_left : (x : TraceFile) (rest : List Counted) → trace_file_at L rule ts ≡ Ok (x, rest) → rest ≡ []
  trace_nothing_left x rest e = let h = (trace_reads L rule (length ts)).texts.takes ts x rest (omega arith) e in
      behind_end bytes h.taken rest h.whole (trace_ended L rule h.taken x h.is)

  -- what is read is spelled by the whole text
  pub program_spelled : (p : Named) (rest : List Counted) → whole_program_at L rule ts ≡ Ok (p, rest) →
      IsWholeProgram L rule ts p
  program_spelled p rest e = whole_program_found L rule ts p
      (e ∙ ap (λ (z : List Counted). Ok (p, z)) (nothing_left p rest e))

  pub trace_spelled : (x : TraceFile) (rest : List Counted) → trace_file_at L rule ts ≡ Ok (x, rest) →
      IsTraceFile L rule ts x
  trace_spelled x rest e = trace_found L rule ts x
      (e ∙ ap (λ (z : List Counted). Ok (x, z)) (trace_nothing_left x rest e))
