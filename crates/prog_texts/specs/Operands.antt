-- Operands: their grammar, and how they are read.
use Rattle.std.specs.Prelude.{ℕ, ℤ, pos, neg_ℤ, List, codes, Option, Some, None, Result, Ok, Err, if◌then◌else◌}
use Rattle.std.specs.Str.{bytes_eq}
use Rattle.trop_text.specs.declared.fault.FaultKind.{FaultKind}
use Rattle.trop_text.specs.declared.fault.FaultKind.TheVariants.{Syntax}
use Rattle.trop_grammar.specs.Reading.{Reading, ◌>>=◌, gives}
use Rattle.trop_grammar.specs.Grammar.{Empty, Then}
use Rattle.trop_grammar.specs.Lists.{Passes}
use Rattle.shape_grammar.specs.Steps.{token_past, maybe_past}
use Rattle.shape_grammar.specs.Texts.{One, Maybe}
use Rattle.prog_theory.specs.States.{Term}
use Rattle.prog_theory.specs.Limits.{Limits}
use Rattle.prog_texts.specs.Words.{Counted, text, skipped, says, is_digits, is_variable}
use Rattle.prog_texts.specs.Judges.{passed, said, sized, number, known, wanted}

-- a number alone stands at coordinate 0
abbrev pub constant : ℤ → Term
constant n = record { coord = 0; add = n }

abbrev pub moved : ℕ → ℤ → Term
moved i n = record { coord = i; add = n }

-- whether a number is added or taken away
pub data Way : Type 0 where
  Plus : Way
  Minus : Way

abbrev pub by : Way → ℕ → ℤ
by Plus n = pos n
by Minus n = neg_ℤ (pos n)

-- the first token of an operand: a number, the `-` of a negative one, or a variable
pub data First : Type 0 where
  Value : ℕ → First
  Negative : First
  Variable : ℕ → First

abbrev pub first : Limits → List (List ℕ) → Counted → Result First FaultKind
first L names t =
    if is_digits t then passed Value (sized L.number t)
    else (if says (codes "-") t then Ok Negative
    else (if is_variable t then passed Variable (known names t) else Err Syntax))

abbrev pub way_of : List ℕ → Option (Result Way FaultKind)
way_of word = if bytes_eq word (codes "+") then Some (Ok Plus) else
    (if bytes_eq word (codes "-") then Some (Ok Minus) else None)

abbrev pub way : Counted → Option (Result Way FaultKind)
way t = way_of (text t)

-- ---- grammar

abbrev pub IsSaid : List ℕ → List Counted → Unit {0} → Type 0
IsSaid word = One skipped (Passes (said word))

abbrev pub IsNumber : ℕ → List Counted → ℕ → Type 0
IsNumber bound = One skipped (Passes (number bound))

-- one of the words of a table
abbrev pub IsWord : {A : Type 0} → (List ℕ → Option A) → List Counted → A → Type 0
IsWord table = One skipped (Passes (λ t. wanted (table (text t))))

abbrev pub IsOperandRest : Limits → First → List Counted → Term → Type 0
IsOperandRest L (Value n) = Empty (constant (pos n))
IsOperandRest L Negative = Then (IsNumber L.number) (λ n. Empty (constant (neg_ℤ (pos n))))
IsOperandRest L (Variable i) = Maybe skipped way (moved i (pos 0))
    (λ w. Then (IsNumber L.number) (λ n. Empty (moved i (by w n))))

abbrev pub IsOperand : Limits → List (List ℕ) → List Counted → Term → Type 0
IsOperand L names = Then (One skipped (Passes (first L names))) (IsOperandRest L)

-- ---- reading

abbrev pub said_at : List ℕ → List Counted → Reading Counted FaultKind (Unit {0})
said_at word = token_past skipped Syntax (said word)

abbrev pub number_at : ℕ → List Counted → Reading Counted FaultKind ℕ
number_at bound = token_past skipped Syntax (number bound)

abbrev pub word_at : {A : Type 0} → (List ℕ → Option A) → List Counted → Reading Counted FaultKind A
word_at table = token_past skipped Syntax (λ t. wanted (table (text t)))

unfoldable pub moved_at : Limits → ℕ → Way → List Counted → Reading Counted FaultKind Term
moved_at L i w = number_at L.number >>= λ n. gives (moved i (by w n))

unfoldable pub operand_rest : Limits → First → List Counted → Reading Counted FaultKind Term
operand_rest L (Value n) = gives (constant (pos n))
operand_rest L Negative = number_at L.number >>= λ n. gives (constant (neg_ℤ (pos n)))
operand_rest L (Variable i) = maybe_past skipped way (moved i (pos 0)) (moved_at L i)

abbrev pub operand_at : Limits → List (List ℕ) → List Counted → Reading Counted FaultKind Term
operand_at L names = token_past skipped Syntax (first L names) >>= operand_rest L
