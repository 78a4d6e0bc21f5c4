-- Conditions: their grammar, and how they are read.
use Rattle.std.specs.Prelude.{ℕ, zero, suc, Bool, true, false, List, codes, Result, Ok, Err, if◌then◌else◌}
use Rattle.trop_text.specs.declared.fault.FaultKind.{FaultKind}
use Rattle.trop_text.specs.declared.fault.FaultKind.TheVariants.{Syntax, TooManyAtoms, TooDeep}
use Rattle.trop_grammar.specs.Reading.{Reading, ◌>>=◌, gives}
use Rattle.trop_grammar.specs.Grammar.{Empty, Then}
use Rattle.trop_grammar.specs.Lists.{Passes}
use Rattle.shape_grammar.specs.Steps.{token_past, many_past}
use Rattle.shape_grammar.specs.Texts.{One, Many}
use Rattle.prog_theory.specs.States.{Term}
use Rattle.prog_theory.specs.Conditions.{Cond, Any, Atom, Not, And, Or}
use Rattle.prog_theory.specs.Limits.{Limits}
use Rattle.prog_texts.specs.Words.{Counted, skipped, says, begins_operand}
use Rattle.prog_texts.specs.Judges.{passed, goes_on, comparison_of, is_atom_too_many}
use Rattle.prog_texts.specs.Operands.{First, first, IsSaid, IsWord, IsOperandRest, IsOperand, said_at, word_at, operand_rest, operand_at}

-- what the first token of a negation begins
pub data Start : Type 0 where
  Bang : Start
  Bracket : Start
  Ask : Start
  Compare : First → Start

-- a sign that opens something, where there is room for it
abbrev pub opening : {A : Type 0} → Bool → A → Result A FaultKind
opening true x = Ok x
opening false x = Err TooDeep

-- one more atom: the count is judged before the name or the number
abbrev pub atom : Limits → Counted → Result Start FaultKind → Result Start FaultKind
atom L t v = if is_atom_too_many L t then Err TooManyAtoms else v

abbrev pub start : Limits → List (List ℕ) → Bool → Counted → Result Start FaultKind
start L names room t =
    if says (codes "!") t then opening room Bang
    else (if says (codes "(") t then opening room Bracket
    else (if says (codes "?") t then atom L t (Ok Ask)
    else (if begins_operand t then atom L t (passed Compare (first L names t)) else Err Syntax)))

-- ---- grammar

-- parts with the word between them, grouped to the left
abbrev pub IsChain : List ℕ → (Cond → Cond → Cond) → (List Counted → Cond → Type 0) → List Counted → Cond → Type 0
IsChain word join R = Then R (Many skipped (λ x. goes_on word) (λ x u. Then R (λ y. Empty (join x y))))

-- a condition of negations
abbrev pub IsConditionOf : (List Counted → Cond → Type 0) → List Counted → Cond → Type 0
IsConditionOf R = IsChain (codes "||") Or (IsChain (codes "&&") And R)

-- behind the left operand: a comparison, and the right one
abbrev pub IsCompared : Limits → List (List ℕ) → Term → List Counted → Cond → Type 0
IsCompared L names l = Then (IsWord comparison_of) (λ c. Then (IsOperand L names) (λ r. Empty (Atom l c r)))

-- the rest of a negation, in which others may stand
abbrev pub IsNegationRest : Limits → List (List ℕ) → (List Counted → Cond → Type 0) → Start → List Counted → Cond →
    Type 0
IsNegationRest L names Inner Bang = Then Inner (λ x. Empty (Not x))
IsNegationRest L names Inner Bracket = Then (IsConditionOf Inner) (λ x. Then (IsSaid (codes ")")) (λ u. Empty x))
IsNegationRest L names Inner Ask = Empty Any
IsNegationRest L names Inner (Compare f) = Then (IsOperandRest L f) (IsCompared L names)

abbrev pub Nowhere : {A : Type 0} → List Counted → A → Type 0
Nowhere us x = ⊥

-- a negation in which signs may stand n deep
unfoldable pub IsNegation : Limits → List (List ℕ) → ℕ → List Counted → Cond → Type 0
IsNegation L names zero = Then (One skipped (Passes (start L names false))) (IsNegationRest L names Nowhere)
IsNegation L names (suc n) = Then (One skipped (Passes (start L names true)))
    (IsNegationRest L names (IsNegation L names n))

abbrev pub IsCondition : Limits → List (List ℕ) → ℕ → List Counted → Cond → Type 0
IsCondition L names n = IsConditionOf (IsNegation L names n)

-- ---- reading

unfoldable pub link_at : (Cond → Cond → Cond) → (List Counted → Reading Counted FaultKind Cond) → Cond → Unit {0} →
    List Counted → Reading Counted FaultKind Cond
link_at join r x u = r >>= λ y. gives (join x y)

unfoldable pub chain_at : List ℕ → (Cond → Cond → Cond) → (List Counted → Reading Counted FaultKind Cond) →
    List Counted → Reading Counted FaultKind Cond
chain_at word join r = r >>= many_past skipped (λ x. goes_on word) (link_at join r)

abbrev pub condition_of : (List Counted → Reading Counted FaultKind Cond) → List Counted →
    Reading Counted FaultKind Cond
condition_of r = chain_at (codes "||") Or (chain_at (codes "&&") And r)

unfoldable pub compared_at : Limits → List (List ℕ) → Term → List Counted → Reading Counted FaultKind Cond
compared_at L names l = word_at comparison_of >>= λ c. operand_at L names >>= λ r. gives (Atom l c r)

-- a condition in brackets, behind the first
unfoldable pub bracket_at : (List Counted → Reading Counted FaultKind Cond) → List Counted →
    Reading Counted FaultKind Cond
bracket_at inner = condition_of inner >>= λ x. said_at (codes ")") >>= λ u. gives x

unfoldable pub negation_rest : Limits → List (List ℕ) → (List Counted → Reading Counted FaultKind Cond) → Start →
    List Counted → Reading Counted FaultKind Cond
negation_rest L names inner Bang = inner >>= λ x. gives (Not x)
negation_rest L names inner Bracket = bracket_at inner
negation_rest L names inner Ask = gives Any
negation_rest L names inner (Compare f) = operand_rest L f >>= compared_at L names

-- no text is read
abbrev pub nowhere : {A : Type 0} → List Counted → Reading Counted FaultKind A
nowhere ts = Err (record { what = Syntax; rest = ts })

unfoldable pub negation_at : Limits → List (List ℕ) → ℕ → List Counted → Reading Counted FaultKind Cond
negation_at L names zero = token_past skipped Syntax (start L names false) >>= negation_rest L names nowhere
negation_at L names (suc n) = token_past skipped Syntax (start L names true) >>= negation_rest L names
    (negation_at L names n)

abbrev pub condition_at : Limits → List (List ℕ) → ℕ → List Counted → Reading Counted FaultKind Cond
condition_at L names n = condition_of (negation_at L names n)
