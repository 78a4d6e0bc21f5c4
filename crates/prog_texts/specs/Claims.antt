-- What asserts claim: the grammar of sides and claims, and how they are read.
use Rattle.std.specs.Prelude.{ℕ, List, [], ◌∷◌, ◌++◌, codes, Result, Ok, Err, if◌then◌else◌}
use Rattle.trop_text.specs.declared.fault.FaultKind.{FaultKind}
use Rattle.trop_text.specs.declared.fault.FaultKind.TheVariants.{Syntax, AssertMode}
use Rattle.trop_grammar.specs.Reading.{Reading, ◌>>=◌, gives}
use Rattle.trop_grammar.specs.Grammar.{Empty, Then}
use Rattle.trop_grammar.specs.Lists.{Passes}
use Rattle.shape_grammar.specs.Steps.{token_past, many_past}
use Rattle.shape_grammar.specs.Texts.{One, Many}
use Rattle.prog_theory.specs.States.{Term}
use Rattle.prog_theory.specs.Statements.{Side, SideWord, Greatest, Least, Claim}
use Rattle.prog_theory.specs.Statements as tree
use Rattle.prog_theory.specs.Limits.{Limits}
use Rattle.prog_texts.specs.AssertRule.{AssertRule, is_against}
use Rattle.prog_texts.specs.Words.{Counted, text, skipped, says}
use Rattle.prog_texts.specs.Judges.{passed, goes_on, relation_of}
use Rattle.prog_texts.specs.Operands.{First, first, IsSaid, IsWord, IsOperandRest, IsOperand, said_at, word_at, operand_rest, operand_at}

-- what the first token of a side begins
pub data SideStart : Type 0 where
  Single : First → SideStart
  Listed : SideWord → SideStart

abbrev pub side_of : SideWord → List Term → Side
side_of word terms = record { word = word; terms = terms }

-- the rule is judged at the word
abbrev pub sum_word : AssertRule → Counted → SideWord → Result SideStart FaultKind
sum_word rule t word = if is_against rule (text t) then Err AssertMode else Ok (Listed word)

abbrev pub side_start : Limits → AssertRule → List (List ℕ) → Counted → Result SideStart FaultKind
side_start L rule names t =
    if says (codes "max") t then sum_word rule t Greatest
    else (if says (codes "min") t then sum_word rule t Least else passed Single (first L names t))

-- ---- grammar

-- operands with `,` between them
abbrev pub AreTerms : Limits → List (List ℕ) → List Counted → List Term → Type 0
AreTerms L names =
    Then (IsOperand L names) (λ x. Many skipped (λ xs. goes_on (codes ","))
    (λ xs u. Then (IsOperand L names) (λ y. Empty (xs ++ y ∷ []))) (x ∷ []))

abbrev pub IsSideRest : Limits → List (List ℕ) → SideStart → List Counted → Side → Type 0
IsSideRest L names (Single f) = Then (IsOperandRest L f) (λ x. Empty (side_of tree.One (x ∷ [])))
IsSideRest L names (Listed word) = Then (IsSaid (codes "("))
    (λ u. Then (AreTerms L names) (λ xs. Then (IsSaid (codes ")")) (λ v. Empty (side_of word xs))))

abbrev pub IsSide : Limits → AssertRule → List (List ℕ) → List Counted → Side → Type 0
IsSide L rule names = Then (One skipped (Passes (side_start L rule names))) (IsSideRest L names)

abbrev pub IsClaim : Limits → AssertRule → List (List ℕ) → List Counted → Claim → Type 0
IsClaim L rule names = Then (IsSide L rule names) (λ l.
    Then (IsWord relation_of) (λ c. Then (IsSide L rule names) (λ r. Empty (record { left = l; rel = c; right = r }))))

-- ---- reading

unfoldable pub next_term_at : Limits → List (List ℕ) → List Term → Unit {0} → List Counted →
    Reading Counted FaultKind (List Term)
next_term_at L names xs u = operand_at L names >>= λ y. gives (xs ++ y ∷ [])

unfoldable pub terms_from : Limits → List (List ℕ) → Term → List Counted → Reading Counted FaultKind (List Term)
terms_from L names x = many_past skipped (λ xs. goes_on (codes ",")) (next_term_at L names) (x ∷ [])

unfoldable pub listed_at : Limits → List (List ℕ) → SideWord → List Counted → Reading Counted FaultKind Side
listed_at L names word = said_at (codes "(") >>= λ u. operand_at L names >>= terms_from L names >>= λ xs.
    said_at (codes ")") >>= λ v. gives (side_of word xs)

unfoldable pub side_rest : Limits → List (List ℕ) → SideStart → List Counted → Reading Counted FaultKind Side
side_rest L names (Single f) = operand_rest L f >>= λ x. gives (side_of tree.One (x ∷ []))
side_rest L names (Listed word) = listed_at L names word

unfoldable pub side_at : Limits → AssertRule → List (List ℕ) → List Counted → Reading Counted FaultKind Side
side_at L rule names = token_past skipped Syntax (side_start L rule names) >>= side_rest L names

unfoldable pub claim_at : Limits → AssertRule → List (List ℕ) → List Counted → Reading Counted FaultKind Claim
claim_at L rule names = side_at L rule names >>= λ l. word_at relation_of >>= λ c. side_at L rule names >>= λ r.
    gives (record { left = l; rel = c; right = r })
