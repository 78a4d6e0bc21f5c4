-- The one text by which a row or an inequality is printed.
use Rattle.std.specs.Prelude.{ℕ, zero, suc, ◌+◌, ℤ, pos, negsuc, List, [], ◌∷◌, ◌++◌, map, codes, decimal, slice_index_or, Option, Some, None}
use Rattle.trop_theory.specs.Numbers.{Numbering}
use Rattle.trop_theory.specs.Inequalities.{Inequality}
use Rattle.trop_spelling.specs.declared.ring_kind.RingKind.{RingKind}
use Rattle.trop_spelling.specs.Spelling.{sum_word, order_word, element_text}

-- each text behind a comma and a space
abbrev pub after_commas : List (List ℕ) → List ℕ
after_commas [] = []
after_commas (t ∷ ts) = codes ", " ++ (t ++ after_commas ts)

-- the texts with a comma and a space between each two
abbrev pub comma_list : List (List ℕ) → List ℕ
comma_list [] = []
comma_list (t ∷ ts) = t ++ after_commas ts

-- the numbers that the entries stand for
abbrev pub numbers : {V : Type 0} → Numbering V → List V → List (Option ℤ)
numbers N x = map N.to x

-- a row: `[a, b]`
abbrev pub printed_row : RingKind → List (Option ℤ) → List ℕ
printed_row kind entries = codes "[" ++ (comma_list (map (element_text kind) entries) ++ codes "]")

-- what stands behind a variable that a number is added to
abbrev pub shift_text : ℤ → List ℕ
shift_text (pos zero) = []
shift_text (pos (suc n)) = codes " + " ++ decimal (suc n)
shift_text (negsuc n) = codes " - " ++ decimal (suc n)

-- the term of coordinate k with the finite coefficient c: coordinate 0 is the constant
abbrev pub term_text : RingKind → List (List ℕ) → ℕ → ℤ → List ℕ
term_text kind names zero c = element_text kind (Some c)
term_text kind names (suc k) c = slice_index_or names k [] ++ shift_text c

-- the terms with a finite coefficient, from coordinate k on
abbrev pub terms_from : RingKind → List (List ℕ) → ℕ → List (Option ℤ) → List (List ℕ)
terms_from kind names k [] = []
terms_from kind names k (None ∷ side) = terms_from kind names (k + 1) side
terms_from kind names k (Some c ∷ side) = term_text kind names k c ∷ terms_from kind names (k + 1) side

-- a side with these terms: the zero where there is none, one term alone, more in brackets behind the sum word
abbrev pub sum_text : RingKind → List (List ℕ) → List ℕ
sum_text kind [] = element_text kind None
sum_text kind (t ∷ []) = t
sum_text kind (t ∷ u ∷ ts) = sum_word kind ++ (codes "(" ++ (comma_list (t ∷ u ∷ ts) ++ codes ")"))

abbrev pub printed_side : RingKind → List (List ℕ) → List (Option ℤ) → List ℕ
printed_side kind names side = sum_text kind (terms_from kind names 0 side)

-- left, the order word and right
abbrev pub printed_inequality : {V : Type 0} → RingKind → Numbering V → List (List ℕ) → Inequality V → List ℕ
printed_inequality kind N names p =
    printed_side kind names (numbers N p.left) ++ (codes " "
    ++ (order_word kind ++ (codes " " ++ printed_side kind names (numbers N p.right))))
