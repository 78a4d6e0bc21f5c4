-- The one text by which a file is printed.
use Rattle.std.specs.Prelude.{ℕ, ℤ, List, [], ◌∷◌, ◌++◌, codes, Option, Some, None}
use Rattle.trop_theory.specs.Numbers.{Numbering}
use Rattle.trop_theory.specs.Inequalities.{Inequality}
use Rattle.trop_spelling.specs.declared.ring_kind.RingKind.{RingKind}
use Rattle.trop_spelling.specs.Spelling.{ring_word}
use Rattle.trop_spelling.specs.Printed.{numbers, printed_row, printed_inequality}

-- each name behind a space
abbrev pub after_spaces : List (List ℕ) → List ℕ
after_spaces [] = []
after_spaces (x ∷ names) = codes " " ++ (x ++ after_spaces names)

-- the three lines of the header
abbrev pub printed_header : List ℕ → RingKind → List (List ℕ) → List ℕ
printed_header file_kind kind names =
    codes "kind " ++ (file_kind ++ (codes "\nsemiring "
    ++ (ring_word kind ++ (codes "\nvars" ++ (after_spaces names ++ codes "\n")))))

-- a line each
abbrev pub lines_of : {A : Type 0} → (A → List ℕ) → List A → List ℕ
lines_of line [] = []
lines_of line (x ∷ xs) = line x ++ (codes "\n" ++ lines_of line xs)

-- a row in normal form: a point where its entry 0 is finite, else a ray, with its other entries
abbrev pub generator_line : RingKind → List (Option ℤ) → List ℕ
generator_line kind [] = []
generator_line kind (None ∷ entries) = codes "ray " ++ printed_row kind entries
generator_line kind (Some c ∷ entries) = codes "point " ++ printed_row kind entries

-- a file of generators
abbrev pub printed_gens : {V : Type 0} → RingKind → Numbering V → List (List ℕ) → List (List V) → List ℕ
printed_gens kind N names rows = printed_header (codes "gens") kind names
    ++ lines_of (λ x. generator_line kind (numbers N x)) rows

-- a file of inequalities
abbrev pub printed_ineqs : {V : Type 0} → RingKind → Numbering V → List (List ℕ) → List (Inequality V) → List ℕ
printed_ineqs kind N names system = printed_header (codes "ineqs") kind names
    ++ lines_of (printed_inequality kind N names) system
