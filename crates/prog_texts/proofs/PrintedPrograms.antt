-- Tokens that are a printed program are read back to it.
use Rattle.std.proofs.Common.{◌≡◌, ◌≤◌, ℕ, true, false, cond, Option, Some, None, List, [], ◌∷◌, ◌++◌, length, codes, Result, Ok, Err, refl, sym, ap, subst, ◌∙◌, append_assoc, arith, nat_le}
use Rattle.std.proofs.lemmas.List.{append-nil}
use Rattle.trop_text.specs.Name.{is_name}
use Rattle.trop_text.specs.Names.{place_of}
use Rattle.trop_text.specs.declared.fault.FaultKind.{FaultKind}
use Rattle.trop_text.specs.declared.fault.FaultKind.TheVariants.{TooManyVars}
use Rattle.shape_grammar.specs.Texts.{NoMore, OneMore}
use Rattle.prog_theory.specs.Limits.{Limits}
use Rattle.prog_texts.specs.AssertRule.{AssertRule}
use Rattle.prog_texts.specs.Words.{Counted, says}
use Rattle.prog_texts.specs.Inks.{Says, Feed}
use Rattle.prog_texts.specs.Inked.{AreInks}
use Rattle.prog_texts.specs.Printed.{block_inks, names_inks, program_inks}
use Rattle.prog_theory.specs.Nesting.{block_nesting}
use Rattle.prog_texts.specs.Suits.{SuitsBlock, MayFollow}
use Rattle.prog_theory.specs.Named.{Named}
use Rattle.prog_texts.specs.Programs.{undeclared, new_name, AreNew, IsDeclaration, IsProgram, program_at}
use Rattle.prog_texts.proofs.Signs.{text_is}
use Rattle.prog_texts.proofs.PrintedParts.{Then_all, the_empty, said_ink, said_then, split}
use Rattle.prog_texts.proofs.PrintedStatements.{block_spelled}
use Rattle.prog_texts.proofs.ProgramLaws.{IsOver, program_reads}

module _ (L : Limits) (rule : AssertRule) (names : List (List ℕ)) where
  is_new : (before : List (List ℕ)) (x : List ℕ) (t : Counted) → says x t ≡ true → is_name x ≡ true →
      place_of x before ≡ None → nat_le L.vars (length before) ≡ false → new_name L before t ≡ Some (Ok x)
  is_new before x t e name fresh few = ap at (text_is x t e)
      ∙ ap (λ b. cond b (Some (cond (nat_le L.vars (length before)) (Err TooManyVars)
      (undeclared (place_of x before) x))) None) name
      ∙ ap (λ b. Some (cond b (Err TooManyVars) (undeclared (place_of x before) x))) few
      ∙ ap (λ o. Some (undeclared o x)) fresh
    where
      at : List ℕ → Option (Result (List ℕ) FaultKind)
      at z = cond (is_name z) (Some (cond (nat_le L.vars (length before)) (Err TooManyVars)
          (undeclared (place_of z before) z))) None

  names_spelled : (before xs : List (List ℕ)) (us : List Counted) → MayFollow L before xs →
      AreInks L names (names_inks xs) us → AreNew L before us (before ++ xs)
  names_spelled before [] us m h = NoMore h (append-nil before)
  names_spelled before (x ∷ xs) us m h =
      OneMore h.0 x h.1 [] h.1 (before ++ x ∷ []) h.2 (is_new before x h.0 h.4.1 m.0 m.1 m.2) refl
      (the_empty (before ++ x ∷ []) [] refl)
      (subst (λ z. AreNew L (before ++ x ∷ []) h.1 z) (append_assoc before (x ∷ []) xs)
      (names_spelled (before ++ x ∷ []) xs h.1 m.3 h.5))

-- a program that may be printed under the rule: its names are distinct, its sides suit, and it is nested no deeper than
-- may be
pub record IsPrintable (L : Limits) (rule : AssertRule) (p : Named) : Type 0 where
  pub names : MayFollow L [] p.names
  pub sides : SuitsBlock rule p.body
  pub depth : block_nesting p.body ≤ L.depth

module _ (L : Limits) (rule : AssertRule) (p : Named) (may : IsPrintable L rule p) where
  pub program_spelled : (us : List Counted) → AreInks L p.names (program_inks p) us → IsProgram L rule us p
  program_spelled us h =
      let k = split L p.names (Says (codes "vars") ∷ (names_inks p.names ++ Says (codes ";") ∷ []))
      (Feed ∷ block_inks 0 p.body) us (subst (λ z. AreInks L p.names (Says (codes "vars") ∷ z) us)
      (sym (append_assoc (names_inks p.names) (Says (codes ";") ∷ []) (Feed ∷ block_inks 0 p.body))) h) in
      record {
        front = k.front;
        back = k.back;
        value = p.names;
        whole = k.whole;
        first = declared k.front k.first;
        second = Then_all k.back p.body p (block_spelled L rule p.names p.body 0 L.depth k.back may.sides may.depth
            k.second) (the_empty p [] refl);
      }
    where
      declared : (us : List Counted) → AreInks L p.names
          (Says (codes "vars") ∷ (names_inks p.names ++ Says (codes ";") ∷ [])) us → IsDeclaration L us p.names
      declared us h = said_then L p.names (codes "vars") (names_inks p.names ++ Says (codes ";") ∷ []) us p.names h
          (λ vs q. let k = split L p.names (names_inks p.names) (Says (codes ";") ∷ []) vs q in
          record {
            front = k.front;
            back = k.back;
            value = p.names;
            whole = k.whole;
            first = names_spelled L rule p.names [] p.names k.front may.names k.first;
            second = Then_all k.back tt p.names (said_ink L p.names (codes ";") k.back k.second)
                (the_empty p.names [] refl);
          })

  -- what is printed is read back, before anything that does not go on with it
  pub printed_back : (us rest : List Counted) → AreInks L p.names (program_inks p) us → IsOver rest →
      program_at L rule (us ++ rest) ≡ Ok (p, rest)
  printed_back us rest h over = (program_reads L rule (length (us ++ rest))).texts.reads us rest p (omega arith)
      (program_spelled us h) over
