-- The lines of a report behind its program, and which lines a report has.
use Rattle.std.specs.Prelude.{◌≡◌, ◌≤◌, ℕ, suc, Bool, true, List, [], ◌∷◌, ◌++◌, map, length, is_some}
use Rattle.std.specs.List.{list_any}
use Rattle.trop_theory.specs.Numbers.{Numbering}
use Rattle.trop_theory.specs.Inequalities.{Inequality}
use Rattle.prog_theory.specs.Graph.{Point}
use Rattle.cone_reports.specs.Reports.{Part}
use Rattle.report_texts.specs.Limits.{most_lines}

pub data Line (V : Type 0) : Type 0 where
  -- `at`, a number and what point it is
  At : ℕ → Point → Line V
  Unreachable : Line V
  Row : List V → Line V
  Inv : Inequality V → Line V
  -- `assert`, the number of a statement, and whether its claim is said to be proved
  Asserted : ℕ → Bool → Line V
  -- the last `end`
  Last : Line V

-- what is said of one point, with what point it is
pub record Block (V : Type 0) : Type 0 where
  pub point : Point
  pub part : Part V

-- the verdict on one assert, with the number of its statement
pub record Judged : Type 0 where
  pub number : ℕ
  pub proved : Bool

-- what stands behind the program
pub record Body (V : Type 0) : Type 0 where
  pub blocks : List (Block V)
  pub judged : List Judged

-- ---- its lines

-- a point without rows is unreachable
abbrev pub part_lines : {V : Type 0} → List (List V) → List (Inequality V) → List (Line V)
part_lines [] printed = Unreachable ∷ []
part_lines (x ∷ rows) printed = Row x ∷ (map Row rows ++ map Inv printed)

abbrev pub block_lines : {V : Type 0} → ℕ → Block V → List (Line V)
block_lines k b = At k b.point ∷ part_lines b.part.rows b.part.printed

-- the points are numbered
abbrev pub blocks_lines : {V : Type 0} → ℕ → List (Block V) → List (Line V)
blocks_lines k [] = []
blocks_lines k (b ∷ bs) = block_lines k b ++ blocks_lines (suc k) bs

abbrev pub judged_line : {V : Type 0} → Judged → Line V
judged_line j = Asserted j.number j.proved

abbrev pub lines_of : {V : Type 0} → Body V → List (Line V)
lines_of body = blocks_lines 0 body.blocks ++ (map judged_line body.judged ++ Last ∷ [])

-- ---- what is asked of it

-- P holds of each
abbrev pub Each : {A : Type 0} → (A → Type 0) → List A → Type 0
Each P [] = Unit {0}
Each P (x ∷ xs) = P x × Each P xs

-- some entry is not the zero
abbrev pub has_finite : {V : Type 0} → Numbering V → List V → Bool
has_finite N x = list_any (λ a. is_some (N.to a)) x

-- no row is all the zero, there are not too many lines, and a point without rows has no inequality
pub record IsPart {V : Type 0} (N : Numbering V) (rows : List (List V)) (printed : List (Inequality V)) : Type 0 where
  pub finite : Each (λ x. has_finite N x ≡ true) rows
  pub rows_few : length rows ≤ most_lines
  pub printed_few : length printed ≤ most_lines
  pub none : rows ≡ [] → printed ≡ []

-- a block for each point, in order, and a verdict for each assert, in order
pub record IsBodyOf {V : Type 0} (N : Numbering V) (points : List Point) (numbers : List ℕ)
    (body : Body V) : Type 0 where
  pub points_are : map (λ (b : Block V). b.point) body.blocks ≡ points
  pub numbers_are : map (λ (j : Judged). j.number) body.judged ≡ numbers
  pub parts : Each (λ (b : Block V). IsPart N b.part.rows b.part.printed) body.blocks

-- some body of such a program has these lines first
pub record BeginsBody {V : Type 0} (N : Numbering V) (points : List Point) (numbers : List ℕ)
    (xs : List (Line V)) : Type 0 where
  pub body : Body V
  pub more : List (Line V)
  pub is : IsBodyOf N points numbers body
  pub lines : lines_of body ≡ xs ++ more
