-- Printed conditions are spelled as they were, inside as many signs as they are printed with.
-- Index: goes, chain_start, chain_more, room, condition_spelled.
use Rattle.std.proofs.Common.{◌≡◌, ◌≤◌, ℕ, zero, suc, max, Bool, true, false, cond, Some, List, [], ◌∷◌, ◌++◌, codes, Ok, Err, refl, sym, ap, subst, ◌∙◌, append_assoc, arith}
use Rattle.trop_text.specs.declared.fault.FaultKind.TheVariants.{Syntax, TooManyAtoms}
use Rattle.trop_grammar.specs.Grammar.{Then}
use Rattle.trop_grammar.specs.Lists.{Passes}
use Rattle.shape_grammar.specs.Past.{past}
use Rattle.shape_grammar.specs.Texts.{One, NoMore}
use Rattle.shape_grammar.proofs.Pasts.{past-append}
use Rattle.prog_theory.specs.States.{Term}
use Rattle.prog_theory.specs.Conditions.{Cmp, Le, Lt, Ge, Gt, Eq, Ne, Cond, Any, Atom, Not, And, Or}
use Rattle.prog_theory.specs.Limits.{Limits}
use Rattle.prog_texts.specs.Words.{Counted, text, skipped, says, begins_operand}
use Rattle.prog_texts.specs.Judges.{passed, wanted, comparison_of, goes_on, is_atom_too_many}
use Rattle.prog_texts.specs.Operands.{First, first}
use Rattle.prog_texts.specs.Conditions.{Bang, Bracket, Ask, Compare, opening, atom, start, IsChain, IsCompared, IsNegationRest, IsNegation, IsCondition, Nowhere}
use Rattle.prog_texts.specs.Inks.{Ink, Says, Blank}
use Rattle.prog_texts.specs.Inked.{AreInks}
use Rattle.prog_theory.specs.Nesting.{Loose, Tight, Single}
use Rattle.prog_texts.specs.Printed.{term_inks, cmp_text, bracketed, between, cond_inks}
use Rattle.prog_theory.specs.Nesting.{cond_nesting}
use Rattle.prog_texts.proofs.Signs.{text_is}
use Rattle.prog_texts.proofs.PrintedParts.{other_word, Then_begun, Then_all, the_empty, Many_more, said_ink, split, operand_begun, operand_spelled}

cmp_back : (c : Cmp) → comparison_of (cmp_text c) ≡ Some c
cmp_back Le = refl
cmp_back Lt = refl
cmp_back Ge = refl
cmp_back Gt = refl
cmp_back Eq = refl
cmp_back Ne = refl

wanted_cmp : (c : Cmp) (t : Counted) → says (cmp_text c) t ≡ true → wanted (comparison_of (text t)) ≡ Ok c
wanted_cmp c t e = ap (λ x. wanted (comparison_of x)) (text_is (cmp_text c) t e) ∙ ap wanted (cmp_back c)

pub goes : (word : List ℕ) (t : Counted) → says word t ≡ true → goes_on word t ≡ Some (Ok tt)
goes word t e = rw e refl

-- the third, and the fourth, of some alternatives
third : {A : Type 0} (a b c : Bool) (x y z w : A) → a ≡ false → b ≡ false → c ≡ true →
    cond a x (cond b y (cond c z w)) ≡ z
third false false true x y z w e k m = refl
third true b c x y z w e k m = absurd cc
third false true c x y z w e k m = absurd cc
third false false false x y z w e k m = absurd cc

fourth : {A : Type 0} (a b c d : Bool) (x y z v w : A) → a ≡ false → b ≡ false → c ≡ false → d ≡ true →
    cond a x (cond b y (cond c z (cond d v w))) ≡ v
fourth false b c d x y z v w e k m q = third b c d y z v w k m q
fourth true b c d x y z v w e k m q = absurd cc

-- ---- chains

module _ {R : List Counted → Cond → Type 0} (word : List ℕ) (join : Cond → Cond → Cond) where
  pub chain_start : (us : List Counted) (c : Cond) → R us c → IsChain word join R us c
  chain_start us c h = Then_all us c c h (NoMore refl refl)

  pub chain_more : (us : List Counted) (a : Cond) (ws : List Counted) (t : Counted) (vs : List Counted) (b : Cond) →
      IsChain word join R us a → past skipped ws ≡ t ∷ vs → says word t ≡ true → R vs b →
      IsChain word join R (us ++ ws) (join a b)
  chain_more us a ws t vs b h e k m = record {
    front = h.front;
    back = h.back ++ ws;
    value = h.value;
    whole = ap (λ (z : List Counted). z ++ ws) h.whole ∙ append_assoc h.front h.back ws;
    first = h.first;
    second = Many_more h.value h.back a ws t tt vs (join a b) h.second e (goes word t k)
        (Then_all vs b (join a b) m (the_empty (join a b) [] refl));
  }

module _ (L : Limits) (names : List (List ℕ)) where
  abbrev pub room : ℕ → Bool
  room zero = false
  room (suc d) = true

  abbrev Inner : ℕ → List Counted → Cond → Type 0
  Inner zero = Nowhere
  Inner (suc d) = IsNegation L names d

  negation_is : (d : ℕ) (us : List Counted) (c : Cond) →
      Then (One skipped (Passes (start L names (room d)))) (IsNegationRest L names (Inner d)) us c →
      IsNegation L names d us c
  unfolding IsNegation
  negation_is zero us c h = h
  negation_is (suc d) us c h = h

  start_bang : (t : Counted) → says (codes "!") t ≡ true → start L names true t ≡ Ok Bang
  start_bang t e = rw e refl

  start_bracket : (t : Counted) → says (codes "(") t ≡ true → start L names true t ≡ Ok Bracket
  start_bracket t e = let k = other_word (codes "(") (codes "!") t e refl in rw (k, e) refl

  start_ask : (b : Bool) (t : Counted) → says (codes "?") t ≡ true → is_atom_too_many L t ≡ false →
      start L names b t ≡ Ok Ask
  start_ask b t e few =
      let k = other_word (codes "?") (codes "!") t e refl in
      let m = other_word (codes "?") (codes "(") t e refl in
      third (says (codes "!") t) (says (codes "(") t) (says (codes "?") t) (opening b Bang) (opening b Bracket)
      (atom L t (Ok Ask)) (cond (begins_operand t) (atom L t (passed Compare (first L names t))) (Err Syntax)) k m e
      ∙ ap (λ z. cond z (Err TooManyAtoms) (Ok Ask)) few

  start_compare : (b : Bool) (t : Counted) (f : First) → says (codes "!") t ≡ false → says (codes "(") t ≡ false →
      says (codes "?") t ≡ false → begins_operand t ≡ true → is_atom_too_many L t ≡ false → first L names t ≡ Ok f →
      start L names b t ≡ Ok (Compare f)
  start_compare b t f k m q begins few e =
      fourth (says (codes "!") t) (says (codes "(") t) (says (codes "?") t) (begins_operand t) (opening b Bang)
      (opening b Bracket) (atom L t (Ok Ask)) (atom L t (passed Compare (first L names t)))
      (Err Syntax) k m q begins
      ∙ ap (λ z. cond z (Err TooManyAtoms) (passed Compare (first L names t))) few ∙ ap (passed Compare) e

  ask_spelled : (d : ℕ) (us : List Counted) → AreInks L names (Says (codes "?") ∷ []) us → IsNegation L names d us Any
  ask_spelled d us h = negation_is d us Any (Then_begun us h.0 h.1 Ask Any h.2 (start_ask (room d) h.0 h.4.1 h.3.atom)
      (the_empty Any h.1 h.5))

  compared_spelled : (a : Term) (c : Cmp) (b : Term) (us : List Counted) →
      AreInks L names (Blank ∷ Says (cmp_text c) ∷ Blank ∷ term_inks b) us → IsCompared L names a us (Atom a c b)
  compared_spelled a c b us h = Then_begun us h.0 h.1 c (Atom a c b) h.2 (wanted_cmp c h.0 h.4.1)
      (Then_all h.1 b (Atom a c b) (operand_spelled L names b h.1 h.5) (the_empty (Atom a c b) [] refl))

  atom_spelled : (a : Term) (c : Cmp) (b : Term) (d : ℕ) (us : List Counted) →
      AreInks L names (between (term_inks a) (cmp_text c) (term_inks b)) us → IsNegation L names d us (Atom a c b)
  atom_spelled a c b d us h =
      let k = split L names (term_inks a) (Blank ∷ Says (cmp_text c) ∷ Blank ∷ term_inks b) us h in
      let o = operand_begun L names a.coord a.add k.front k.first in
      negation_is d us (Atom a c b)
      (Then_begun us o.token (o.behind ++ k.back) (Compare o.start) (Atom a c b)
      (ap (λ (z : List Counted). past skipped z) k.whole ∙ past-append skipped k.front o.token o.behind k.back o.whole)
      (start_compare (room d) o.token o.start (o.other (codes "!") refl refl refl) (o.other (codes "(") refl refl refl)
      (o.other (codes "?") refl refl refl) o.begins o.within.atom o.judged)
      (record {
        front = o.behind;
        back = k.back;
        value = a;
        whole = refl;
        first = o.rest;
        second =
            compared_spelled a c b k.back k.second;
      }))

  abbrev IsConj : ℕ → List Counted → Cond → Type 0
  IsConj d = IsChain (codes "&&") And (IsNegation L names d)

  -- how it is spelled at each level
  record IsSpelled (c : Cond) : Type 0 where
    single : (d : ℕ) (us : List Counted) → cond_nesting Single c ≤ d → AreInks L names (cond_inks Single c) us →
        IsNegation L names d us c
    tight : (d : ℕ) (us : List Counted) → cond_nesting Tight c ≤ d → AreInks L names (cond_inks Tight c) us →
        IsConj d us c
    loose : (d : ℕ) (us : List Counted) → cond_nesting Loose c ≤ d → AreInks L names (cond_inks Loose c) us →
        IsCondition L names d us c

  -- in brackets
  bracket_spelled : (c : Cond) (is : List Ink) (n : ℕ) →
      ((d : ℕ) (us : List Counted) → n ≤ d → AreInks L names is us → IsCondition L names d us c) →
      (d : ℕ) (us : List Counted) → suc n ≤ d → AreInks L names (bracketed true is) us → IsNegation L names d us c
  bracket_spelled c is n loose zero us le h = absurd (omega arith)
  bracket_spelled c is n loose (suc d) us le h =
      let k = split L names is (Says (codes ")") ∷ []) h.1 h.5 in
      let le0 : n ≤ d = omega arith in
      negation_is (suc d) us c (Then_begun us h.0 h.1 Bracket c h.2 (start_bracket h.0 h.4.1)
      (record {
        front = k.front;
        back = k.back;
        value = c;
        whole = k.whole;
        first = loose d k.front le0 k.first;
        second = Then_all k.back tt c (said_ink L names (codes ")") k.back k.second) (the_empty c [] refl);
      }))

  not_spelled : (c : Cond) → IsSpelled c → (d : ℕ) (us : List Counted) → suc (cond_nesting Single c) ≤ d →
      AreInks L names (Says (codes "!") ∷ cond_inks Single c) us → IsNegation L names d us (Not c)
  not_spelled c s zero us le h = absurd (omega arith)
  not_spelled c s (suc d) us le h =
      let le0 : cond_nesting Single c ≤ d = omega arith in
      negation_is (suc d) us (Not c) (Then_begun us h.0 h.1 Bang (Not c) h.2 (start_bang h.0 h.4.1)
      (Then_all h.1 c (Not c) (s.single d h.1 le0 h.5) (the_empty (Not c) [] refl)))

  and_spelled : (a b : Cond) → IsSpelled a → IsSpelled b → (d : ℕ) (us : List Counted) →
      max (cond_nesting Tight a) (cond_nesting Single b) ≤ d →
      AreInks L names (between (cond_inks Tight a) (codes "&&") (cond_inks Single b)) us → IsConj d us (And a b)
  and_spelled a b s q d us le h =
      let k = split L names (cond_inks Tight a) (Blank ∷ Says (codes "&&") ∷ Blank ∷ cond_inks Single b) us h in
      let m = k.second in
      let le0 : cond_nesting Tight a ≤ d = omega arith in
      let le1 : cond_nesting Single b ≤ d = omega arith in
      subst (λ (z : List Counted). IsConj d z (And a b)) (sym k.whole)
      (chain_more (codes "&&") And k.front a k.back m.0 m.1 b (s.tight d k.front le0 k.first) m.2 m.4.1
      (q.single d m.1 le1 m.5))

  or_spelled : (a b : Cond) → IsSpelled a → IsSpelled b → (d : ℕ) (us : List Counted) →
      max (cond_nesting Loose a) (cond_nesting Tight b) ≤ d →
      AreInks L names (between (cond_inks Loose a) (codes "||") (cond_inks Tight b)) us →
      IsCondition L names d us (Or a b)
  or_spelled a b s q d us le h =
      let k = split L names (cond_inks Loose a) (Blank ∷ Says (codes "||") ∷ Blank ∷ cond_inks Tight b) us h in
      let m = k.second in
      let le0 : cond_nesting Loose a ≤ d = omega arith in
      let le1 : cond_nesting Tight b ≤ d = omega arith in
      subst (λ (z : List Counted). IsCondition L names d z (Or a b)) (sym k.whole)
      (chain_more (codes "||") Or k.front a k.back m.0 m.1 b (s.loose d k.front le0 k.first) m.2 m.4.1
      (q.tight d m.1 le1 m.5))

  tight_from : (d : ℕ) (us : List Counted) (c : Cond) → IsNegation L names d us c → IsConj d us c
  tight_from d us c h = chain_start (codes "&&") And us c h

  loose_from : (d : ℕ) (us : List Counted) (c : Cond) → IsConj d us c → IsCondition L names d us c
  loose_from d us c h = chain_start (codes "||") Or us c h

  spelled : (c : Cond) → IsSpelled c
  spelled Any = record {
    single = λ d us le h. ask_spelled d us h;
    tight = λ d us le h. tight_from d us Any (ask_spelled d us h);
    loose = λ d us le h. loose_from d us Any (tight_from d us Any (ask_spelled d us h));
  }
  spelled (Atom a c b) = record {
    single = λ d us le h. atom_spelled a c b d us h;
    tight = λ d us le h. tight_from d us (Atom a c b) (atom_spelled a c b d us h);
    loose = λ d us le h. loose_from d us (Atom a c b) (tight_from d us (Atom a c b) (atom_spelled a c b d us h));
  }
  spelled (Not c) = record {
    single = not_spelled c (spelled c);
    tight = λ d us le h. tight_from d us (Not c) (not_spelled c (spelled c) d us le h);
    loose = λ d us le h. loose_from d us (Not c) (tight_from d us (Not c) (not_spelled c (spelled c) d us le h));
  }
  spelled (And a b) = record {
    single = bracket_spelled (And a b) (between (cond_inks Tight a) (codes "&&") (cond_inks Single b))
        (max (cond_nesting Tight a) (cond_nesting Single b))
        (λ d us le h. loose_from d us (And a b) (and_spelled a b (spelled a) (spelled b) d us le h));
    tight = and_spelled a b (spelled a) (spelled b);
    loose = λ d us le h. loose_from d us (And a b) (and_spelled a b (spelled a) (spelled b) d us le h);
  }
  spelled (Or a b) = record {
    single = bracket_spelled (Or a b) (between (cond_inks Loose a) (codes "||") (cond_inks Tight b))
        (max (cond_nesting Loose a) (cond_nesting Tight b)) (or_spelled a b (spelled a) (spelled b));
    tight = λ d us le h. tight_from d us (Or a b) (bracket_spelled (Or a b)
        (between (cond_inks Loose a) (codes "||") (cond_inks Tight b))
        (max (cond_nesting Loose a) (cond_nesting Tight b)) (or_spelled a b (spelled a) (spelled b)) d us le h);
    loose = or_spelled a b (spelled a) (spelled b);
  }

  -- tokens that are a printed condition spell it
  pub condition_spelled : (c : Cond) (d : ℕ) (us : List Counted) → cond_nesting Loose c ≤ d →
      AreInks L names (cond_inks Loose c) us → IsCondition L names d us c
  condition_spelled c d us le h = (spelled c).loose d us le h
