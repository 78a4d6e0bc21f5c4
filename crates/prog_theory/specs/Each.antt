-- What holds of each part of a program, and of an operation.
use Rattle.std.specs.Prelude.{ℕ, All}
use Rattle.prog_theory.specs.States.{Term}
use Rattle.prog_theory.specs.Conditions.{Cond, Any, Atom, Not, And, Or}
use Rattle.prog_theory.specs.Edges.{Op, Skips, Sets, Havocs, Guards}
use Rattle.prog_theory.specs.Statements.{Claim, Stmt, Set, Havoc, Assume, Assert, If, While, Skip, Block, Empty, Then}

-- of each term of a condition
abbrev pub EachTerm : (Term → Type 0) → Cond → Type 0
EachTerm T Any = Unit {0}
EachTerm T (Atom l c r) = T l × T r
EachTerm T (Not a) = EachTerm T a
EachTerm T (And a b) = EachTerm T a × EachTerm T b
EachTerm T (Or a b) = EachTerm T a × EachTerm T b

-- of each variable that is changed and of each term
abbrev mutual
  pub EachStmt : (ℕ → Type 0) → (Term → Type 0) → Stmt → Type 0
  EachStmt V T (Set x t) = V x × T t
  EachStmt V T (Havoc x) = V x
  EachStmt V T (Assume c) = EachTerm T c
  EachStmt V T (Assert a) = All T a.left.terms × All T a.right.terms
  EachStmt V T (If c a b) = EachTerm T c × EachBlock V T a × EachBlock V T b
  EachStmt V T (While c a) = EachTerm T c × EachBlock V T a
  EachStmt V T Skip = Unit {0}

  pub EachBlock : (ℕ → Type 0) → (Term → Type 0) → Block → Type 0
  EachBlock V T Empty = Unit {0}
  EachBlock V T (Then st b) = EachStmt V T st × EachBlock V T b

-- of each claim
abbrev mutual
  pub EachClaim : (Claim → Type 0) → Stmt → Type 0
  EachClaim C (Assert a) = C a
  EachClaim C (If c a b) = EachClaims C a × EachClaims C b
  EachClaim C (While c a) = EachClaims C a
  EachClaim C _ = Unit {0}

  pub EachClaims : (Claim → Type 0) → Block → Type 0
  EachClaims C Empty = Unit {0}
  EachClaims C (Then st b) = EachClaim C st × EachClaims C b

-- of the variable that an operation changes, and of its terms
abbrev pub EachOp : (ℕ → Type 0) → (Term → Type 0) → Op → Type 0
EachOp V T Skips = Unit {0}
EachOp V T (Sets x t) = V x × T t
EachOp V T (Havocs x) = V x
EachOp V T (Guards l r) = T l × T r
