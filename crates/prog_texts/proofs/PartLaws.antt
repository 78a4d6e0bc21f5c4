-- Programs that are a part of a text are read right, and each stop is at the first fault.
use Rattle.std.proofs.Common.{◌≡◌, Bool, true, false, cond, List, [], ◌∷◌, ◌++◌, length, codes, Ok, Err, refl, ap, ◌∙◌, ◌||◌, arith, ℕ}
use Rattle.trop_text.specs.declared.fault.FaultKind.{FaultKind}
use Rattle.trop_text.specs.declared.fault.FaultKind.TheVariants.{Syntax}
use Rattle.trop_grammar.specs.Reading.{Reading, Miss, go_on, read_then, gives, judged, token_at}
use Rattle.shape_grammar.specs.Past.{past}
use Rattle.shape_grammar.specs.Steps.{token_past}
use Rattle.shape_grammar.specs.Shape.{Nothing, Never}
use Rattle.shape_grammar.specs.Reads.{Reads, IsTaken}
use Rattle.shape_grammar.specs.Faults.{IsFirstFault}
use Rattle.shape_grammar.proofs.Pasts.{past-append}
use Rattle.shape_grammar.proofs.Laws.{Reads-gives, Reads-bind}
use Rattle.shape_grammar.proofs.TokenLaws.{has-next}
use Rattle.shape_grammar.proofs.Choices.{Lets, Refuses, choose, Reads-token, Reads-map}
use Rattle.shape_grammar.proofs.Whole.{first_fault}
use Rattle.prog_theory.specs.Limits.{Limits}
use Rattle.prog_texts.specs.AssertRule.{AssertRule}
use Rattle.prog_texts.specs.Words.{Counted, text, skipped, says, is_end, closes}
use Rattle.prog_texts.specs.Shapes.{language, closed_program}
use Rattle.prog_theory.specs.Named.{Named}
use Rattle.prog_texts.specs.Programs.{closed, program_at, IsProgramCause, IsProgram}
use Rattle.prog_texts.specs.Parts.{IsClosed, kept, before_closing, part_at}
use Rattle.prog_texts.proofs.Signs.{Anything, end_sample, nothing, only_where, IsLed, text_is, end_piece}
use Rattle.prog_texts.proofs.ProgramLaws.{IsOver, over_led, program_reads, some_program}

over_closing : (t : Counted) (us vs : List Counted) → past skipped vs ≡ t ∷ us → closes t ≡ true → IsOver vs
over_closing t us vs whole e = at (says (codes "end") t) (says (codes "start") t) (is_end t)
    (λ k. led (codes "end") (text_is (codes "end") t k)) (λ k. led (codes "start") (text_is (codes "start") t k))
    (λ k. led [] (ap (λ z. text (record { piece = z; before = t.before })) (end_piece t.piece k))) e
  where
    led : (word : List ℕ) → text t ≡ word → IsLed word vs
    led word k = record { token = t; behind = us; whole = whole; is = k }

    at : (a b c : Bool) → (a ≡ true → IsLed (codes "end") vs) → (b ≡ true → IsLed (codes "start") vs) →
        (c ≡ true → IsLed [] vs) → (a || b || c) ≡ true → IsOver vs
    at true b c f g h q = over_led (codes "end") refl refl vs (f refl)
    at false true c f g h q = over_led (codes "start") refl refl vs (g refl)
    at false false true f g h q = over_led [] refl refl vs (h refl)
    at false false false f g h q = absurd cc

module _ (L : Limits) (rule : AssertRule) where
  -- with the token that ends it
  unfoldable closed_at : List Counted → Reading Counted FaultKind Named
  closed_at = read_then (program_at L rule) (λ p. read_then (token_past skipped Syntax closed) (λ u. gives p))

  closed_reads : (n : ℕ) → Reads language Syntax n Anything closed_at (IsClosed L rule) closed_program
      (IsProgramCause L rule)
  unfolding closed_at
  closed_reads n =
      Reads-bind language Syntax n IsOver Anything {B₂ = λ x w before t. ⊥} (IsProgramCause L rule)
      (some_program L rule) (program_reads L rule n)
      (λ p. Reads-map language Syntax (λ u. p) tt (Reads-token language Syntax {f = λ t. cond (closes t) Nothing Never}
      end_sample refl nothing tt
      (λ t. choose language Syntax (closes t) (λ e. Lets tt refl (Reads-gives language Syntax n tt tt))
      (λ e. Refuses refl refl))))
      (λ ws vs h ends. let i = has-next language h in
      over_closing i.token (i.behind ++ vs) (ws ++ vs) (past-append skipped ws i.token i.behind vs i.whole)
      (only_where (closes i.token) Nothing i.behind i.is))
      (λ w before t begins c. c) (λ x us w before t h c. absurd c)

  -- the same refusals, whether or not the last token is left
  same_stop : (p : Named) (ts : List Counted) (miss : Miss Counted FaultKind) (v : Reading Counted FaultKind (Unit {0}))
      → kept v p ts ≡ Err miss → go_on v (λ u. gives p) ≡ Err miss
  same_stop p ts miss (Ok x) e = absurd cc
  same_stop p ts miss (Err m) e = let h : m ≡ miss = cc in ap Err h

  closed_stop : (miss : Miss Counted FaultKind) (v : Reading Counted FaultKind Named) →
      go_on v before_closing ≡ Err miss → go_on v (λ p. read_then (token_past skipped Syntax closed) (λ u. gives p)) ≡
      Err miss
  unfolding before_closing read_then
  closed_stop miss (Ok x) e = same_stop x.0 x.1 miss (token_past skipped Syntax closed x.1) e
  closed_stop miss (Err m) e = let h : m ≡ miss = cc in ap Err h

  -- a stop is the first fault
  pub part_fault : (ts : List Counted) (miss : Miss Counted FaultKind) → part_at L rule ts ≡ Err miss →
      IsFirstFault language Syntax (IsClosed L rule) closed_program (IsProgramCause L rule) ts miss.what miss.rest
  unfolding closed_at part_at read_then
  part_fault ts miss e = first_fault language Syntax closed_reads ts miss (closed_stop miss (program_at L rule ts) e)

  abbrev read_ok : Named × List Counted → Reading Counted FaultKind Named
  read_ok x = Ok x

  kept_ok : (p : Named) (rest : List Counted) (x : Named × List Counted) (v : Reading Counted FaultKind (Unit {0})) →
      kept v x.0 x.1 ≡ Ok (p, rest) → read_ok x ≡ Ok (p, rest)
  kept_ok p rest x (Ok u) e = e
  kept_ok p rest x (Err m) e = absurd cc

  part_read : (p : Named) (rest : List Counted) (v : Reading Counted FaultKind Named) →
      go_on v before_closing ≡ Ok (p, rest) → v ≡ Ok (p, rest)
  unfolding before_closing
  part_read p rest (Ok x) e = kept_ok p rest x (token_past skipped Syntax closed x.1) e
  part_read p rest (Err m) e = absurd cc

  -- what is read is spelled
  pub part_found : (ts : List Counted) (p : Named) (rest : List Counted) → part_at L rule ts ≡ Ok (p, rest) →
      IsTaken (IsProgram L rule) ts p rest
  unfolding part_at read_then
  part_found ts p rest e = (program_reads L rule (length ts)).texts.takes ts p rest (omega arith)
      (part_read p rest (program_at L rule ts) e)

  close_kept : (p : Named) (rest : List Counted) (t : Counted) (us : List Counted) → past skipped rest ≡ t ∷ us →
      closes t ≡ true → kept (token_past skipped Syntax closed rest) p rest ≡ Ok (p, rest)
  unfolding token_past token_at
  close_kept p rest t us e k = ap (λ z. kept (token_at Syntax closed z) p rest) e
      ∙ ap (λ b. kept (judged (cond b (Ok tt) (Err Syntax)) t us) p rest) k

  -- what is spelled is read, before a token that ends it
  pub part_only : (us rest : List Counted) (p : Named) (t : Counted) (vs : List Counted) → IsProgram L rule us p →
      past skipped rest ≡ t ∷ vs → closes t ≡ true → part_at L rule (us ++ rest) ≡ Ok (p, rest)
  unfolding part_at read_then before_closing
  part_only us rest p t vs h e k =
      ap (λ z. go_on z before_closing) ((program_reads L rule (length (us ++ rest))).texts.reads us rest p
      (omega arith) h (over_closing t vs rest e k)) ∙ close_kept p rest t vs e k
