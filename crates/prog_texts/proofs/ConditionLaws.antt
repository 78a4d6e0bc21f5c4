-- Conditions are read right, and each stop is at the first fault.
-- Index: some_condition, link_of, Quiet, NoAnd, NoLink, no_link_led, behind_links, chain_reads, conjunction_reads,
-- condition_reads_of, some_compared, some_negation, condition_shape, or_first, or_second, no_sum_word, negation_reads,
-- condition_reads.
use Rattle.std.proofs.Common.{◌≡◌, ℕ, zero, suc, Bool, true, false, cond, Option, Some, None, pos, List, [], ◌∷◌, ◌++◌, codes, Result, Ok, Err, refl, sym, ap, subst, ◌∙◌, append_assoc, inl, inr, ◌||◌}
use Rattle.std.specs.Str.{bytes_eq}
use Rattle.std.proofs.lemmas.List.{append-nil}
use Rattle.std.proofs.lemmas.Slice.Eq.{bytes_eq-Decides}
use Rattle.shape_grammar.specs.Past.{past}
use Rattle.shape_grammar.proofs.Pasts.{past-append}
use Rattle.trop_text.specs.declared.token.TokenKind.TheVariants.{Digits, Sign}
use Rattle.trop_text.specs.declared.fault.FaultKind.{FaultKind}
use Rattle.trop_text.specs.declared.fault.FaultKind.TheVariants.{Syntax, TooManyAtoms, TooDeep}
use Rattle.trop_grammar.specs.Reading.{Reading}
use Rattle.shape_grammar.specs.Shape.{Shape, Has, Begins, Nothing, Never, Next, Often, Both, Part}
use Rattle.shape_grammar.specs.Shape as shapes
use Rattle.shape_grammar.specs.Reads.{Reads, Heads}
use Rattle.shape_grammar.proofs.Laws.{Grows, has-both, Reads-gives, Reads-bind, Reads-then, Reads-part, Reads-cause}
use Rattle.shape_grammar.proofs.TokenLaws.{Behind, has-next}
use Rattle.shape_grammar.proofs.Choices.{Fits, Lets, Blames, Refuses, choose, Reads-choice, Reads-behind, Reads-map, Begins_it, Leaves_it, choose_maybe, Reads-often}
use Rattle.prog_theory.specs.States.{Term}
use Rattle.prog_theory.specs.Conditions.{Cond, Le, Atom, Not, And, Or}
use Rattle.prog_theory.specs.Conditions as tree
use Rattle.prog_theory.specs.Limits.{Limits}
use Rattle.prog_texts.specs.AssertRule.{AssertRule}
use Rattle.prog_texts.specs.Words.{Counted, text, skipped, says, begins_operand}
use Rattle.prog_texts.specs.Judges.{passed, comparison_of, is_atom_too_many}
use Rattle.prog_texts.specs.Shapes.{Noun, Negation, Conjunction, Condition, language, sign, a_word, where_some, chain, after_word, operand, compared, negation}
use Rattle.prog_texts.specs.Causes.{IsCause}
use Rattle.prog_texts.specs.Operands.{constant, Way, Plus, Minus, first, way_of}
use Rattle.prog_texts.specs.Conditions.{Start, Bang, Bracket, Ask, Compare, opening, atom, start, IsChain, IsConditionOf, IsCompared, IsNegationRest, IsNegation, IsCondition, Nowhere, link_at, chain_at, condition_of, compared_at, negation_rest, bracket_at, nowhere, negation_at, condition_at}
use Rattle.prog_texts.proofs.Signs.{Causes, sample, nothing, some_sign, some_next, some_both, said_reads, word_reads, Fits-more, IsLed, only_where, text_is, led_sign, quiet_led, quiet_none}
use Rattle.prog_texts.proofs.Blamed.{cause_grows, under}
use Rattle.prog_texts.proofs.OperandLaws.{NoSum, no_sum_none, no_sum_led, operand_shape, operand_fits, operand_reads}

pub some_condition : Cond
some_condition = tree.Any

-- ---- what may follow

-- what goes on with a chain, by its text
abbrev pub link_of : List ℕ → List ℕ → Option (Result (Unit {0}) FaultKind)
link_of word x = cond (bytes_eq x word) (Some (Ok tt)) None

-- the word does not go on
abbrev pub Quiet : List ℕ → List Counted → Type 0
Quiet word vs = Heads (λ t. link_of word (text t) ≡ None) (past skipped vs)

-- nothing goes on with a conjunction
pub record NoAnd (vs : List Counted) : Type 0 where
  pub sum : NoSum vs
  pub and : Quiet (codes "&&") vs

-- nothing goes on with a condition
pub record NoLink (vs : List Counted) : Type 0 where
  pub sum : NoSum vs
  pub and : Quiet (codes "&&") vs
  pub or : Quiet (codes "||") vs

pub no_link_led : (word : List ℕ) → way_of word ≡ None → link_of (codes "&&") word ≡ None →
    link_of (codes "||") word ≡ None → (vs : List Counted) → IsLed word vs → NoLink vs
no_link_led word e k m vs h = record {
  sum = no_sum_led word e vs h;
  and = quiet_led (link_of (codes "&&")) word k vs h;
  or = quiet_led (link_of (codes "||")) word m vs h;
}

no_and_led : (word : List ℕ) → way_of word ≡ None → link_of (codes "&&") word ≡ None → (vs : List Counted) →
    IsLed word vs → NoAnd vs
no_and_led word e k vs h = record { sum = no_sum_led word e vs h; and = quiet_led (link_of (codes "&&")) word k vs h }

no_and_none : NoAnd []
no_and_none = record { sum = no_sum_none; and = quiet_none (link_of (codes "&&")) }

no_link_none : NoLink []
no_link_none = record {
  sum = no_sum_none;
  and = quiet_none (link_of (codes "&&"));
  or =
      quiet_none (link_of (codes "||"));
}

-- behind a chain's part stands its word, or what follows
pub behind_links : (P : List Counted → Type 0) (word : List ℕ) (s : Shape Counted Noun) →
    ((us : List Counted) → IsLed word us → P us) → (ws vs : List Counted) →
    Has language (Often (after_word word s)) ws → P vs → P (ws ++ vs)
behind_links P word s led ws vs (shapes.NoMore e) k = subst (λ (z : List Counted). P (z ++ vs)) (sym e) k
behind_links P word s led ws vs (shapes.OneMore t ts us zs e whole h m) k =
    led (ws ++ vs) (record {
      token = t;
      behind = ts ++ vs;
      whole = past-append skipped ws t ts vs e;
      is =
          text_is word t (only_where (says word t) s us h);
    })

-- ---- chains

pub chain_reads : (n : ℕ) (D E : List Counted → Type 0) {C : Causes} (word : List ℕ)
    (join : Cond → Cond → Cond) {r : List Counted → Reading Counted FaultKind Cond} {R : List Counted → Cond → Type 0}
    {a : Shape Counted Noun}
    → Grows C → E [] → ((vs : List Counted) → E vs → Quiet word vs) →
    ((ws vs : List Counted) → Has language (Often (after_word word a)) ws → E vs → D (ws ++ vs))
    → ((k : ℕ) → Reads language Syntax k D r R a C) →
    Reads language Syntax n E (chain_at word join r) (IsChain word join R) (chain word a) C
unfolding chain_at link_at
chain_reads n D E {C} word join g end quiet fits h =
    Reads-bind language Syntax n D E C some_condition (h n)
    (λ x. Reads-often language Syntax D E g end (λ y. quiet) fits
    (λ k y t. choose_maybe language Syntax (says word t)
    (λ e. Begins_it tt refl (Reads-behind language Syntax t g (Reads-map language Syntax (join y) y (h k))))
    (λ e. Leaves_it refl refl)) x)
    fits (λ w before t begins c. c) (λ x us w before t q c. g.behind us w before t c)

pub conjunction_reads : (n : ℕ) {C : Causes} {r : List Counted → Reading Counted FaultKind Cond}
    {R : List Counted → Cond → Type 0} → Grows C → ((k : ℕ) → Reads language Syntax k NoSum r R (Part Negation) C) →
    Reads language Syntax n NoAnd (chain_at (codes "&&") And r) (IsChain (codes "&&") And R) (Part Conjunction) C
conjunction_reads n g h =
    Reads-part language Syntax n Conjunction (chain_reads n NoSum NoAnd (codes "&&") And g no_and_none
    (λ vs ends. ends.and)
    (λ ws vs q ends. behind_links NoSum (codes "&&") (Part Negation) (no_sum_led (codes "&&") refl) ws vs q ends.sum) h)

pub condition_reads_of : (n : ℕ) {C : Causes} {r : List Counted → Reading Counted FaultKind Cond}
    {R : List Counted → Cond → Type 0} → Grows C → ((k : ℕ) → Reads language Syntax k NoSum r R (Part Negation) C) →
    Reads language Syntax n NoLink (condition_of r) (IsConditionOf R) (Part Condition) C
condition_reads_of n g h =
    Reads-part language Syntax n Condition (chain_reads n NoAnd NoLink (codes "||") Or g no_link_none
    (λ vs ends. ends.or)
    (λ ws vs q ends. behind_links NoAnd (codes "||") (Part Conjunction) (no_and_led (codes "||") refl refl) ws vs q
    (record { sum = ends.sum; and = ends.and }))
    (λ k. conjunction_reads k g h))

-- ---- samples

pub some_compared : Begins language compared []
some_compared = some_both (some_next (sample Sign (codes "<=")) refl nothing)
    (some_next (sample Digits (codes "0")) refl nothing)

pub some_negation : Begins language (Part Negation) []
some_negation = let k = some_next {f = negation} (sample Sign (codes "?")) refl nothing in
    record { more = k.more; is = shapes.Named k.is }

pub condition_shape : Begins language (Part Condition) []
condition_shape =
    let neg = some_negation in
    record {
      more = neg.more;
      is = shapes.Named (shapes.InTurn neg.more [] (sym (append-nil neg.more))
          (shapes.Named (shapes.InTurn neg.more [] (sym (append-nil neg.more)) neg.is (shapes.NoMore refl)))
          (shapes.NoMore refl));
    }

bracket_shape : Begins language (Both (Part Condition) (sign (codes ")"))) []
bracket_shape = some_both condition_shape (some_sign (codes ")") refl)

pub or_first : (a b c : Bool) → a ≡ true → (a || b || c) ≡ true
or_first true b c e = refl
or_first false b c e = absurd cc

pub or_second : (a b c : Bool) → b ≡ true → (a || b || c) ≡ true
or_second true b c e = refl
or_second false true c e = refl
or_second false false c e = absurd cc

-- ---- negations

abbrev way_by : Bool → Bool → Option (Result Way FaultKind)
way_by a b = cond a (Some (Ok Plus)) (cond b (Some (Ok Minus)) None)

-- a comparison is no sum
known_word : {A : Type 0} (table : List ℕ → Option A) → table (codes "+") ≡ None → table (codes "-") ≡ None →
    (x : List ℕ) (us : List Counted) → Has language (where_some (table x)) us → way_of x ≡ None
known_word {A} table e k x us h = at (bytes_eq x (codes "+")) (bytes_eq x (codes "-"))
    (λ q. none (table x) (ap table ((bytes_eq-Decides x (codes "+")).0 q) ∙ e) h)
    (λ q. none (table x) (ap table ((bytes_eq-Decides x (codes "-")).0 q) ∙ k) h)
  where
    none : (o : Option A) → o ≡ None → Has language (where_some o) us → ⊥
    none None q m = elim m [ ]
    none (Some y) q m = cc

    at : (a b : Bool) → (a ≡ true → ⊥) → (b ≡ true → ⊥) → way_by a b ≡ None
    at false false m q = refl
    at true b m q = absurd (m refl)
    at false true m q = absurd (q refl)

pub no_sum_word : {A : Type 0} (table : List ℕ → Option A) (b : Shape Counted Noun) → table (codes "+") ≡ None →
    table (codes "-") ≡ None → (ws vs : List Counted) → Has language (Both (a_word table) b) ws → NoSum (ws ++ vs)
no_sum_word table b e k ws vs h =
    let i = has-both language h in
    let j = has-next language i.first in
    subst NoSum (sym (ap (λ (z : List Counted). z ++ vs) i.whole ∙ append_assoc i.front i.back vs))
    (rw (past-append skipped i.front j.token j.behind (i.back ++ vs) j.whole)
    (known_word table e k (text j.token) j.behind j.is))

module _ (L : Limits) (rule : AssertRule) (names : List (List ℕ)) where
  compared_reads : (n d : ℕ) (l : Term) → Reads language Syntax n NoSum (compared_at L names l)
      (IsCompared L names l) compared (IsCause L rule names d)
  unfolding compared_at
  compared_reads n d l =
      Reads-then language Syntax n (cause_grows L rule names d) Le
      (word_reads n comparison_of (sample Sign (codes "<=")) refl nothing tt)
      (λ c. Reads-map language Syntax (Atom l c) (constant (pos 0)) (operand_reads L rule names d n))

  abbrev Rest : ℕ → (List Counted → Reading Counted FaultKind Cond) → (List Counted → Cond → Type 0) → ℕ → Counted →
      Result Start FaultKind → Shape Counted Noun → Type 0
  Rest n inner Inner d t v a = Fits language Syntax n NoSum (negation_rest L names inner) (IsNegationRest L names Inner)
      (IsCause L rule names d) t v a

  -- an atom, of which there may be too many
  atom_fits : (n d : ℕ) (inner : List Counted → Reading Counted FaultKind Cond) (Inner : List Counted → Cond → Type 0)
      (t : Counted) (v : Result Start FaultKind) (a : Shape Counted Noun) → Begins language a [] →
      Rest n inner Inner d t v a → Rest n inner Inner d t (atom L t v) a
  atom_fits n d inner Inner t v a some h = at (is_atom_too_many L t) refl
    where
      at : (b : Bool) → is_atom_too_many L t ≡ b → Rest n inner Inner d t (cond b (Err TooManyAtoms) v) a
      at true e = Blames TooManyAtoms refl (record { some = some; cause = λ front. e })
      at false e = h

  compare_fits : (n d : ℕ) (inner : List Counted → Reading Counted FaultKind Cond)
      (Inner : List Counted → Cond → Type 0) (t : Counted) →
      Rest n inner Inner d t (passed Compare (first L names t)) (Both (operand t) compared)
  unfolding negation_rest
  compare_fits n d inner Inner t =
      Fits-more n Compare (λ k. some_both k some_compared) (λ us h. let i = has-both language h in (i.front, i.first))
      (λ x h. Reads-bind language Syntax n NoSum NoSum {B₂ = λ l. IsCause L rule names d}
      (Behind (IsCause L rule names d) t) (constant (pos 0)) h (compared_reads n d)
      (λ ws vs k ends. no_sum_word comparison_of (Next operand) refl refl ws vs k) (λ w before u begins c. c)
      (λ y us w before u k c front. subst (λ (z : List Counted). IsCause L rule names d w z u)
      (append_assoc front (t ∷ us) before) ((cause_grows L rule names d).behind (front ++ t ∷ us) w before u c)))
      (operand_fits L rule names d n t)

  start_fits : (n d : ℕ) (room : Bool) (inner : List Counted → Reading Counted FaultKind Cond)
      (Inner : List Counted → Cond → Type 0) (t : Counted)
      → (says (codes "!") t ≡ true → Rest n inner Inner d t (opening room Bang) (Part Negation)) →
      (says (codes "(") t ≡ true → Rest n inner Inner d t (opening room Bracket)
      (Both (Part Condition) (sign (codes ")"))))
      → Rest n inner Inner d t (start L names room t) (negation t)
  unfolding negation_rest
  start_fits n d room inner Inner t bang bracket =
      choose language Syntax (says (codes "!") t) bang
      (λ a. choose language Syntax (says (codes "(") t) bracket
      (λ b. choose language Syntax (says (codes "?") t)
      (λ e. atom_fits n d inner Inner t (Ok Ask) Nothing nothing
      (Lets Ask refl (Reads-gives language Syntax n tree.Any no_sum_none)))
      (λ c. choose language Syntax (begins_operand t)
      (λ e. atom_fits n d inner Inner t (passed Compare (first L names t)) (Both (operand t) compared)
      (some_both (operand_shape t e) some_compared) (compare_fits n d inner Inner t)) (λ e. Refuses refl refl))))

  bang_reads : (n d : ℕ) (t : Counted) → says (codes "!") t ≡ true →
      Reads language Syntax n NoSum (negation_at L names d) (IsNegation L names d) (Part Negation)
      (IsCause L rule names d) → Reads language Syntax n NoSum (negation_rest L names (negation_at L names d) Bang)
      (IsNegationRest L names (IsNegation L names d) Bang) (Part Negation) (Behind (IsCause L rule names (suc d)) t)
  unfolding negation_rest
  bang_reads n d t e h = Reads-map language Syntax Not some_condition
      (Reads-cause language Syntax n (λ w before u begins c front. under L rule names d front t before u
      (inl (e, begins)) w c) h)

  bracket_reads : (n d : ℕ) (t : Counted) → says (codes "(") t ≡ true →
      ((k : ℕ) → Reads language Syntax k NoSum (negation_at L names d) (IsNegation L names d) (Part Negation)
      (IsCause L rule names d)) → Reads language Syntax n NoSum (negation_rest L names (negation_at L names d) Bracket)
      (IsNegationRest L names (IsNegation L names d) Bracket) (Both (Part Condition) (sign (codes ")")))
      (Behind (IsCause L rule names (suc d)) t)
  unfolding negation_rest bracket_at
  bracket_reads n d t e h =
      Reads-bind language Syntax n NoLink NoSum {B₂ = λ x w before u. ⊥}
      (Behind (IsCause L rule names (suc d)) t) some_condition
      (condition_reads_of n (cause_grows L rule names d) h)
      (λ x. Reads-map language Syntax (λ u. x) tt (said_reads n (codes ")") refl no_sum_none))
      (λ ws vs k ends. no_link_led (codes ")") refl refl refl (ws ++ vs) (led_sign (codes ")") ws vs k))
      (λ w before u begins c front. under L rule names d front t before u (inr (inl (e, begins))) w c)
      (λ x us w before u k c. absurd c)

  pub negation_reads : (d n : ℕ) → Reads language Syntax n NoSum (negation_at L names d) (IsNegation L names d)
      (Part Negation) (IsCause L rule names d)
  unfolding negation_at IsNegation
  negation_reads zero n = Reads-part language Syntax n Negation
      (Reads-choice language Syntax (sample Sign (codes "?")) refl nothing no_sum_none
      (λ t. start_fits n 0 false nowhere Nowhere t
      (λ e. Blames TooDeep refl (record {
        some = some_negation;
        cause =
            λ front. (or_first (says (codes "!") t) (says (codes "(") t) (says (codes "{") t) e, tt);
      }))
      (λ e. Blames TooDeep refl (record {
        some = bracket_shape;
        cause =
            λ front. (or_second (says (codes "!") t) (says (codes "(") t) (says (codes "{") t) e, tt);
      }))))
  negation_reads (suc d) n = Reads-part language Syntax n Negation
      (Reads-choice language Syntax (sample Sign (codes "?")) refl nothing no_sum_none
      (λ t. start_fits n (suc d) true (negation_at L names d) (IsNegation L names d) t
      (λ e. Lets Bang refl (bang_reads n d t e (negation_reads d n)))
      (λ e. Lets Bracket refl (bracket_reads n d t e (negation_reads d)))))

  pub condition_reads : (d n : ℕ) → Reads language Syntax n NoLink (condition_at L names d) (IsCondition L names d)
      (Part Condition) (IsCause L rule names d)
  condition_reads d n = condition_reads_of n (cause_grows L rule names d) (negation_reads d)
