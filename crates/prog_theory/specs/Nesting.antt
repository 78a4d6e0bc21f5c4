-- How many of the signs `{`, `!` and `(` of a condition stand open at once in the printed text of a program, at most. A
-- `!` is open up to the end of its operand. Where a condition stands decides whether it is printed in parentheses.
use Rattle.std.specs.Prelude.{ℕ, suc, max, Bool, true, false}
use Rattle.prog_theory.specs.Conditions.{Cond, Any, Atom, Not, And, Or}
use Rattle.prog_theory.specs.Statements.{Stmt, Set, Havoc, Assume, Assert, If, While, Skip, Block, Empty, Then}

-- Alone or left of `||`, where nothing takes parentheses; right of `||` or left of `&&`, where `||` takes them; right
-- of `&&` or behind `!`, where `&&` takes them too.
pub data Level : Type 0 where
  Loose : Level
  Tight : Level
  Single : Level

abbrev pub is_single : Level → Bool
is_single Loose = false
is_single Tight = false
is_single Single = true

abbrev pub not_loose : Level → Bool
not_loose Loose = false
not_loose Tight = true
not_loose Single = true

abbrev pub one_if : Bool → ℕ → ℕ
one_if true n = suc n
one_if false n = n

abbrev pub cond_nesting : Level → Cond → ℕ
cond_nesting l Any = 0
cond_nesting l (Atom a c b) = 0
cond_nesting l (Not c) = suc (cond_nesting Single c)
cond_nesting l (And a b) = one_if (is_single l) (max (cond_nesting Tight a) (cond_nesting Single b))
cond_nesting l (Or a b) = one_if (not_loose l) (max (cond_nesting Loose a) (cond_nesting Tight b))

-- the condition is not inside the block, and the second block is not inside the first
abbrev mutual
  pub stmt_nesting : Stmt → ℕ
  stmt_nesting (Set i t) = 0
  stmt_nesting (Havoc i) = 0
  stmt_nesting (Assume c) = cond_nesting Loose c
  stmt_nesting (Assert c) = 0
  stmt_nesting (If c a b) = max (cond_nesting Loose c) (suc (max (block_nesting a) (block_nesting b)))
  stmt_nesting (While c a) = max (cond_nesting Loose c) (suc (block_nesting a))
  stmt_nesting Skip = 0

  pub block_nesting : Block → ℕ
  block_nesting Empty = 0
  block_nesting (Then x xs) = max (stmt_nesting x) (block_nesting xs)
