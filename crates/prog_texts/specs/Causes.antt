-- The causes of faults that are not of the shape.
use Rattle.std.specs.Prelude.{◌≡◌, ◌<◌, ◌⊎◌, ℕ, zero, suc, true, List, [], ◌∷◌, ◌++◌, codes, ◌||◌, Bool, None}
use Rattle.trop_text.specs.Digits.{number_of}
use Rattle.trop_text.specs.Names.{place_of}
use Rattle.trop_text.specs.declared.fault.FaultKind.{FaultKind}
use Rattle.trop_text.specs.declared.fault.FaultKind.TheVariants.{NumberRange, UnknownName, TooManyStatements, TooManyAtoms, TooDeep, AssertMode}
use Rattle.shape_grammar.specs.Shape.{Begins, Part}
use Rattle.prog_theory.specs.Limits.{Limits}
use Rattle.prog_texts.specs.AssertRule.{AssertRule, is_against}
use Rattle.prog_texts.specs.Words.{Counted, text, says, is_digits, is_variable}
use Rattle.prog_texts.specs.Judges.{is_one_too_many, is_atom_too_many}
use Rattle.prog_texts.specs.Shapes.{language, Negation, Condition, Statements}

-- what stands behind the sign s begins what the sign opens
abbrev pub IsOpen : Counted → List Counted → Type 0
IsOpen s us =
    ((says (codes "!") s ≡ true) × Begins language (Part Negation) us)
    ⊎ ((says (codes "(") s ≡ true) × Begins language (Part Condition) us)
    ⊎ ((says (codes "{") s ≡ true) × Begins language (Part Statements) us)

-- t stands inside n signs among the tokens before, one within the other
abbrev pub IsInside : ℕ → List Counted → Counted → Type 0
IsInside zero before t = Unit {0}
IsInside (suc n) before t = (front after : List Counted) × (s : Counted) × (before ≡ front ++ s ∷ after)
    × IsOpen s (after ++ t ∷ []) × IsInside n after t

abbrev pub opens : Counted → Bool
opens t = says (codes "!") t || says (codes "(") t || says (codes "{") t

-- the causes that a token alone shows
abbrev pub IsPlain : Limits → AssertRule → List (List ℕ) → FaultKind → Counted → Type 0
IsPlain L rule names NumberRange t = (is_digits t ≡ true) × (L.number < number_of (text t))
IsPlain L rule names UnknownName t = (is_variable t ≡ true) × (place_of (text t) names ≡ None)
IsPlain L rule names TooManyStatements t = is_one_too_many L t ≡ true
IsPlain L rule names TooManyAtoms t = is_atom_too_many L t ≡ true
IsPlain L rule names AssertMode t = is_against rule (text t) ≡ true
IsPlain L rule names _ t = ⊥

-- the causes in a part over these names, where a sign may stand inside fewer than n others
abbrev pub IsCause : Limits → AssertRule → List (List ℕ) → ℕ → FaultKind → List Counted → Counted → Type 0
IsCause L rule names n TooDeep before t = (opens t ≡ true) × IsInside n before t
IsCause L rule names n what before t = IsPlain L rule names what t
