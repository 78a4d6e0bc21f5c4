-- Elements and rows as files spell them, and how they are read.
use Rattle.std.specs.Prelude.{ℕ, zero, suc, pos, neg_ℤ, List, [], ◌∷◌, ◌++◌, codes, Option, Some, None, Result, Ok, Err, if◌then◌else◌}
use Rattle.trop_theory.specs.Semiring.{Semiring}
use Rattle.trop_theory.specs.Numbers.{Numbering}
use Rattle.trop_grammar.specs.Reading.{Reading, ◌>>=◌, gives, token_at, repeat_at}
use Rattle.trop_grammar.specs.Grammar.{One, Empty, Then, Repeated}
use Rattle.trop_grammar.specs.Lists.{Passes}
use Rattle.trop_text.specs.Pieces.{Piece}
use Rattle.trop_text.specs.declared.fault.FaultKind.{FaultKind}
use Rattle.trop_text.specs.declared.fault.FaultKind.TheVariants.{Syntax}
use Rattle.trop_spelling.specs.declared.ring_kind.RingKind.{RingKind}
use Rattle.trop_spelling.specs.declared.ring_kind.RingKind.TheVariants.{Max as MaxKind, Min as MinKind, Bool as BoolKind}
use Rattle.trop_reading.specs.Words.{says, said, number, passed}

-- ---- the first token of an element, and the one behind a `-`

-- a number, or, as None, the `-` of a negative number or of `-oo`
abbrev pub max_start : {V : Type 0} → Numbering V → ℕ → Piece → Result (Option V) FaultKind
max_start N bound p = if says (codes "-") p then Ok None else passed (λ n. Some (N.of (pos n))) (number bound p)

-- `oo` or a number
abbrev pub max_behind : {V : Type 0} → Semiring V → Numbering V → ℕ → Piece → Result V FaultKind
max_behind R N bound p = if says (codes "oo") p then Ok R.zero else passed (λ n. N.of (neg_ℤ (pos n))) (number bound p)

-- a number, `oo`, or, as None, the `-` of a negative number
abbrev pub min_start : {V : Type 0} → Semiring V → Numbering V → ℕ → Piece → Result (Option V) FaultKind
min_start R N bound p = if says (codes "oo") p then Ok (Some R.zero) else max_start N bound p

abbrev pub min_behind : {V : Type 0} → Numbering V → ℕ → Piece → Result V FaultKind
min_behind N bound p = passed (λ n. N.of (neg_ℤ (pos n))) (number bound p)

-- what may stand behind a `-`; in bool no token is one
unfoldable pub behind_minus : {V : Type 0} → RingKind → Semiring V → Numbering V → ℕ → Piece → Result V FaultKind
behind_minus MaxKind R N bound p = max_behind R N bound p
behind_minus MinKind R N bound p = min_behind N bound p
behind_minus BoolKind R N bound p = Err Syntax

-- `true` or `false`
abbrev pub truth : {V : Type 0} → Semiring V → Piece → Result V FaultKind
truth R p = if says (codes "true") p then Ok R.one else (if says (codes "false") p then Ok R.zero else Err Syntax)

-- ---- elements

-- nothing more behind a whole element, and one token behind a `-`
abbrev pub Behind : {V : Type 0} → (Piece → Result V FaultKind) → Option V → List Piece → V → Type 0
Behind behind (Some x) = Empty x
Behind behind None = One (Passes behind)

-- In max a number or `-oo`, in min a number or `oo`, in bool `true` or `false`. Numbers have size at most `bound`.
unfoldable pub IsElement : {V : Type 0} → RingKind → Semiring V → Numbering V → ℕ → List Piece → V → Type 0
IsElement MaxKind R N bound = Then (One (Passes (max_start N bound))) (Behind (max_behind R N bound))
IsElement MinKind R N bound = Then (One (Passes (min_start R N bound))) (Behind (min_behind N bound))
IsElement BoolKind R N bound = One (Passes (truth R))

unfoldable pub behind_at : {V : Type 0} → (Piece → Result V FaultKind) → Option V → List Piece →
    Reading Piece FaultKind V
behind_at behind (Some x) = gives x
behind_at behind None = token_at Syntax behind

unfoldable pub element_at : {V : Type 0} → RingKind → Semiring V → Numbering V → ℕ → List Piece →
    Reading Piece FaultKind V
element_at MaxKind R N bound = token_at Syntax (max_start N bound) >>= behind_at (max_behind R N bound)
element_at MinKind R N bound = token_at Syntax (min_start R N bound) >>= behind_at (min_behind N bound)
element_at BoolKind R N bound = token_at Syntax (truth R)

-- ---- rows

-- a comma and an element, behind those before
abbrev pub IsNextEntry : {V : Type 0} → RingKind → Semiring V → Numbering V → ℕ → List V → List Piece → List V → Type 0
IsNextEntry kind R N bound xs = Then (One (Passes (said (codes ","))))
    (λ u. Then (IsElement kind R N bound) (λ x. Empty (xs ++ x ∷ [])))

-- `[`, so many elements separated by `,`, and `]`
unfoldable pub IsRow : {V : Type 0} → RingKind → Semiring V → Numbering V → ℕ → ℕ → List Piece → List V → Type 0
IsRow kind R N bound zero = Then (One (Passes (said (codes "["))))
    (λ u. Then (One (Passes (said (codes "]")))) (λ v. Empty []))
IsRow kind R N bound (suc n) =
    Then (One (Passes (said (codes "[")))) (λ u. Then (IsElement kind R N bound)
    (λ x. Then (Repeated (IsNextEntry kind R N bound) n (x ∷ []))
    (λ xs. Then (One (Passes (said (codes "]")))) (λ v. Empty xs))))

unfoldable pub next_entry_at : {V : Type 0} → RingKind → Semiring V → Numbering V → ℕ → List V → List Piece →
    Reading Piece FaultKind (List V)
next_entry_at kind R N bound xs = token_at Syntax (said (codes ",")) >>= λ u. element_at kind R N bound >>= λ x.
    gives (xs ++ x ∷ [])

unfoldable pub row_at : {V : Type 0} → RingKind → Semiring V → Numbering V → ℕ → ℕ → List Piece →
    Reading Piece FaultKind (List V)
row_at kind R N bound zero = token_at Syntax (said (codes "[")) >>= λ u. token_at Syntax (said (codes "]")) >>= λ v.
    gives []
row_at kind R N bound (suc n) =
    token_at Syntax (said (codes "[")) >>= λ u. element_at kind R N bound >>= λ x.
    repeat_at (next_entry_at kind R N bound) n (x ∷ []) >>= λ xs. token_at Syntax (said (codes "]")) >>= λ v.
    gives xs
