-- Terms, sides and inequalities as files spell them, and how they are read.
use Rattle.std.specs.Prelude.{ℕ, ◌+◌, pos, neg_ℤ, Bool, true, false, List, [], ◌∷◌, length, codes, slice_set, Option, Some, None, Result, Ok, Err, if◌then◌else◌}
use Rattle.trop_theory.specs.Semiring.{Semiring}
use Rattle.trop_theory.specs.Numbers.{Numbering}
use Rattle.trop_theory.specs.Vectors.{entry, bottom}
use Rattle.trop_theory.specs.Inequalities.{Inequality}
use Rattle.trop_grammar.specs.Reading.{Reading, ◌>>=◌, gives, token_at, option_at}
use Rattle.trop_grammar.specs.Grammar.{One, Empty, Then, Optional}
use Rattle.trop_grammar.specs.Lists.{Passes, Separated, separated_at}
use Rattle.trop_text.specs.Name.{is_name}
use Rattle.trop_text.specs.Names.{place_of}
use Rattle.trop_text.specs.Pieces.{Piece}
use Rattle.trop_text.specs.declared.fault.FaultKind.{FaultKind}
use Rattle.trop_text.specs.declared.fault.FaultKind.TheVariants.{Syntax, UnknownName}
use Rattle.trop_spelling.specs.declared.ring_kind.RingKind.{RingKind}
use Rattle.trop_spelling.specs.declared.ring_kind.RingKind.TheVariants.{Max as MaxKind, Min as MinKind, Bool as BoolKind}
use Rattle.trop_spelling.specs.Spelling.{sum_word}
use Rattle.trop_spelling.specs.declared.terms.Term.{Term}
use Rattle.trop_spelling.specs.declared.terms.Start.{Start}
use Rattle.trop_spelling.specs.declared.terms.Start.TheVariants.{Constant, Minus, Variable}
use Rattle.trop_reading.specs.Words.{text_of, says, said, line_end, is_digits, number, passed}
use Rattle.trop_spelling.specs.Elements.{max_behind, min_behind, behind_minus}

-- ---- terms

abbrev pub known : {V : Type 0} → Option ℕ → Result (Start V) FaultKind
known (Some place) = Ok (Variable (place + 1))
known None = Err UnknownName

-- a name of a variable
unfoldable pub variable : {V : Type 0} → List (List ℕ) → Piece → Result (Start V) FaultKind
variable names p = if is_name (text_of p) then known (place_of (text_of p) names) else Err Syntax

-- a number, a `-` or a variable
unfoldable pub max_term : {V : Type 0} → Numbering V → ℕ → List (List ℕ) → Piece → Result (Start V) FaultKind
max_term N bound names p =
    if says (codes "-") p then Ok Minus
    else (if is_digits p then passed (λ n. Constant (N.of (pos n))) (number bound p) else variable names p)

-- the first token of a term: in min also `oo`, in bool `true`, `false` or a variable
unfoldable pub term_start : {V : Type 0} → RingKind → Semiring V → Numbering V → ℕ → List (List ℕ) → Piece →
    Result (Start V) FaultKind
term_start MaxKind R N bound names p = max_term N bound names p
term_start MinKind R N bound names p = if says (codes "oo") p then Ok (Constant R.zero) else max_term N bound names p
term_start BoolKind R N bound names p =
    if says (codes "true") p then Ok (Constant R.one) else
    (if says (codes "false") p then Ok (Constant R.zero) else variable names p)

-- the `+` or `-` between a variable and a number
abbrev pub shift_sign : Piece → Option Bool
shift_sign p = if says (codes "+") p then Some true else (if says (codes "-") p then Some false else None)

-- the number behind it
abbrev pub shift : {V : Type 0} → Numbering V → ℕ → Bool → Piece → Result V FaultKind
shift N bound true p = passed (λ n. N.of (pos n)) (number bound p)
shift N bound false p = passed (λ n. N.of (neg_ℤ (pos n))) (number bound p)

-- the coefficient x at coordinate i
abbrev pub term : {V : Type 0} → ℕ → V → Term V
term i x = record { coordinate = i; coefficient = x }

-- a number behind the sign
abbrev pub IsShifted : {V : Type 0} → Numbering V → ℕ → ℕ → Bool → List Piece → Term V → Type 0
IsShifted N bound i up = Then (One (Passes (shift N bound up))) (λ x. Empty (term i x))

-- Behind the first token: nothing more behind a whole constant, the rest of a negative one, and behind a variable maybe
-- a sign and a number.
abbrev pub IsNumericRest : {V : Type 0} → Semiring V → Numbering V → ℕ → (Piece → Result V FaultKind) → Start V →
    List Piece → Term V → Type 0
IsNumericRest R N bound behind (Constant x) = Empty (term 0 x)
IsNumericRest R N bound behind Minus = Then (One (Passes behind)) (λ x. Empty (term 0 x))
IsNumericRest R N bound behind (Variable i) = Optional shift_sign (term i R.one) (IsShifted N bound i)

-- in bool nothing more stands behind the first token, which is no sign
abbrev pub truth_term : {V : Type 0} → Semiring V → Start V → Term V
truth_term R (Constant x) = term 0 x
truth_term R Minus = term 0 R.zero
truth_term R (Variable i) = term i R.one

abbrev pub IsTermRest : {V : Type 0} → RingKind → Semiring V → Numbering V → ℕ → Start V → List Piece → Term V → Type 0
IsTermRest MaxKind R N bound start = IsNumericRest R N bound (max_behind R N bound) start
IsTermRest MinKind R N bound start = IsNumericRest R N bound (min_behind N bound) start
IsTermRest BoolKind R N bound start = Empty (truth_term R start)

-- an element, a variable, or in max and min a variable and a number added or taken away
abbrev pub IsTerm : {V : Type 0} → RingKind → Semiring V → Numbering V → ℕ → List (List ℕ) → List Piece → Term V →
    Type 0
IsTerm kind R N bound names = Then (One (Passes (term_start kind R N bound names))) (IsTermRest kind R N bound)

-- ---- sides

-- the sum word, or what a term begins with
abbrev pub side_start : {V : Type 0} → RingKind → Semiring V → Numbering V → ℕ → List (List ℕ) → Piece →
    Result (Option (Start V)) FaultKind
side_start kind R N bound names p = if says (sum_word kind) p then Ok None else passed (λ start. Some start)
    (term_start kind R N bound names p)

-- a comma, before one more term, or the bracket that closes a sum
abbrev pub between_terms : Piece → Result Bool FaultKind
between_terms p = if says (codes ",") p then Ok true else (if says (codes ")") p then Ok false else Err Syntax)

-- a term, or the sum word with one or more terms in brackets, separated by `,`
abbrev pub IsSideRest : {V : Type 0} → RingKind → Semiring V → Numbering V → ℕ → List (List ℕ) → Option (Start V) →
    List Piece → List (Term V) → Type 0
IsSideRest kind R N bound names (Some start) = Then (IsTermRest kind R N bound start) (λ t. Empty (t ∷ []))
IsSideRest kind R N bound names None = Then (One (Passes (said (codes "("))))
    (λ u. Separated (IsTerm kind R N bound names) (Passes between_terms))

abbrev pub IsSide : {V : Type 0} → RingKind → Semiring V → Numbering V → ℕ → List (List ℕ) → List Piece →
    List (Term V) → Type 0
IsSide kind R N bound names = Then (One (Passes (side_start kind R N bound names))) (IsSideRest kind R N bound names)

-- the coefficients of n coordinates; terms of one coordinate are added
abbrev pub with_term : {V : Type 0} → Semiring V → List V → Term V → List V
with_term R row t = slice_set row t.coordinate (R.plus (entry R row t.coordinate) t.coefficient)

abbrev pub with_terms : {V : Type 0} → Semiring V → List V → List (Term V) → List V
with_terms R row [] = row
with_terms R row (t ∷ terms) = with_terms R (with_term R row t) terms

abbrev pub coefficients : {V : Type 0} → Semiring V → ℕ → List (Term V) → List V
coefficients R n terms = with_terms R (bottom R n) terms

-- ---- inequalities

-- The order word; true where the inequality is turned, since the greater side in the semiring's order comes first.
abbrev pub order_mark : RingKind → Piece → Result Bool FaultKind
order_mark MaxKind p = if says (codes "<=") p then Ok false else (if says (codes ">=") p then Ok true else Err Syntax)
order_mark MinKind p = if says (codes ">=") p then Ok false else (if says (codes "<=") p then Ok true else Err Syntax)
order_mark BoolKind p = if says (codes "=>") p then Ok false else Err Syntax

abbrev pub inequality : {V : Type 0} → Semiring V → ℕ → Bool → List (Term V) → List (Term V) → Inequality V
inequality R n false p q = record { left = coefficients R n p; right = coefficients R n q }
inequality R n true p q = record { left = coefficients R n q; right = coefficients R n p }

-- behind the first token: the rest of a side, the order word, a side, and the end of the line
abbrev pub IsInequalityRest : {V : Type 0} → RingKind → Semiring V → Numbering V → ℕ → List (List ℕ) →
    Option (Start V) → List Piece → Inequality V → Type 0
IsInequalityRest kind R N bound names start =
    Then (IsSideRest kind R N bound names start) (λ p. Then (One (Passes (order_mark kind)))
    (λ turned. Then (IsSide kind R N bound names)
    (λ q. Then (One (Passes line_end)) (λ u. Empty (inequality R (length names + 1) turned p q)))))

abbrev pub IsInequality : {V : Type 0} → RingKind → Semiring V → Numbering V → ℕ → List (List ℕ) → List Piece →
    Inequality V → Type 0
IsInequality kind R N bound names = Then (One (Passes (side_start kind R N bound names)))
    (IsInequalityRest kind R N bound names)

-- ---- reading

unfoldable pub shifted_at : {V : Type 0} → Numbering V → ℕ → ℕ → Bool → List Piece → Reading Piece FaultKind (Term V)
shifted_at N bound i up = token_at Syntax (shift N bound up) >>= λ x. gives (term i x)

-- a sign and a number behind the variable of coordinate i, or nothing
abbrev pub shifts_at : {V : Type 0} → Semiring V → Numbering V → ℕ → ℕ → List Piece → Reading Piece FaultKind (Term V)
shifts_at R N bound i = option_at shift_sign (term i R.one) (shifted_at N bound i)

unfoldable pub numeric_rest_at : {V : Type 0} → Semiring V → Numbering V → ℕ → (Piece → Result V FaultKind) → Start V →
    List Piece → Reading Piece FaultKind (Term V)
numeric_rest_at R N bound behind (Constant x) = gives (term 0 x)
numeric_rest_at R N bound behind Minus = token_at Syntax behind >>= λ x. gives (term 0 x)
numeric_rest_at R N bound behind (Variable i) = option_at shift_sign (term i R.one) (shifted_at N bound i)

unfoldable pub term_rest_at : {V : Type 0} → RingKind → Semiring V → Numbering V → ℕ → Start V → List Piece →
    Reading Piece FaultKind (Term V)
term_rest_at MaxKind R N bound start = numeric_rest_at R N bound (behind_minus MaxKind R N bound) start
term_rest_at MinKind R N bound start = numeric_rest_at R N bound (behind_minus MinKind R N bound) start
term_rest_at BoolKind R N bound start = gives (truth_term R start)

unfoldable pub term_at : {V : Type 0} → RingKind → Semiring V → Numbering V → ℕ → List (List ℕ) → List Piece →
    Reading Piece FaultKind (Term V)
term_at kind R N bound names = token_at Syntax (term_start kind R N bound names) >>= term_rest_at kind R N bound

unfoldable pub terms_at : {V : Type 0} → RingKind → Semiring V → Numbering V → ℕ → List (List ℕ) → List Piece →
    Reading Piece FaultKind (List (Term V))
terms_at kind R N bound names = separated_at Syntax (term_at kind R N bound names) between_terms (said (codes ")")) []

unfoldable pub side_rest_at : {V : Type 0} → RingKind → Semiring V → Numbering V → ℕ → List (List ℕ) →
    Option (Start V) → List Piece → Reading Piece FaultKind (List (Term V))
side_rest_at kind R N bound names (Some start) = term_rest_at kind R N bound start >>= λ t. gives (t ∷ [])
side_rest_at kind R N bound names None = token_at Syntax (said (codes "(")) >>= λ u. terms_at kind R N bound names

unfoldable pub side_at : {V : Type 0} → RingKind → Semiring V → Numbering V → ℕ → List (List ℕ) → List Piece →
    Reading Piece FaultKind (List (Term V))
side_at kind R N bound names = token_at Syntax (side_start kind R N bound names) >>= side_rest_at kind R N bound names

unfoldable pub inequality_rest_at : {V : Type 0} → RingKind → Semiring V → Numbering V → ℕ → List (List ℕ) →
    Option (Start V) → List Piece → Reading Piece FaultKind (Inequality V)
inequality_rest_at kind R N bound names start =
    side_rest_at kind R N bound names start >>= λ p. token_at Syntax (order_mark kind) >>= λ turned.
    side_at kind R N bound names >>= λ q. token_at Syntax line_end >>= λ u.
    gives (inequality R (length names + 1) turned p q)

unfoldable pub inequality_at : {V : Type 0} → RingKind → Semiring V → Numbering V → ℕ → List (List ℕ) → List Piece →
    Reading Piece FaultKind (Inequality V)
inequality_at kind R N bound names = token_at Syntax (side_start kind R N bound names)
    >>= inequality_rest_at kind R N bound names
