-- The statements of a program in the order of their numbers, and the asserts among them by the points of the graph.
use Rattle.std.specs.Prelude.{ℕ, ◌+◌, List, [], ◌∷◌, ◌++◌, map, slice_get, Option, Some, None}
use Rattle.std.specs.Borrow.{Bor}
use Rattle.prog_theory.specs.Statements as tree
use Rattle.prog_theory.specs.Graph.{Point, Statement, Inner, Exit}
use Rattle.prog_tree.specs.declared.block.Stmt.{Stmt}
use Rattle.prog_tree.specs.Stmts.{stmt_of}
use Rattle.cone_reports.specs.Asserts.{Assertion, own_asserts}

-- the statements that a list of references stands for
abbrev pub shown : List (Bor Stmt) → List tree.Stmt
shown sts = map (λ s. stmt_of s.now) sts

-- a statement and those within it
abbrev mutual
  pub listed_st : tree.Stmt → List tree.Stmt
  listed_st (tree.If c a b) = tree.If c a b ∷ (listed_bl a ++ listed_bl b)
  listed_st (tree.While c a) = tree.While c a ∷ listed_bl a
  listed_st (tree.Set x t) = tree.Set x t ∷ []
  listed_st (tree.Havoc x) = tree.Havoc x ∷ []
  listed_st (tree.Assume c) = tree.Assume c ∷ []
  listed_st (tree.Assert c) = tree.Assert c ∷ []
  listed_st tree.Skip = tree.Skip ∷ []

  pub listed_bl : tree.Block → List tree.Stmt
  listed_bl tree.Empty = []
  listed_bl (tree.Then st b) = listed_st st ++ listed_bl b

abbrev pub asserts_at : ℕ → ℕ → Option tree.Stmt → List Assertion
asserts_at p k None = []
asserts_at p k (Some st) = own_asserts p k st

-- those at one point
abbrev pub asserts_here : ℕ → Point → List tree.Stmt → List Assertion
asserts_here p (Statement k) sts = asserts_at p k (slice_get sts k)
asserts_here p Inner sts = []
asserts_here p Exit sts = []

-- the asserts at these points, of which the first has the number p; statement k stands at place k
abbrev pub asserts_along : ℕ → List Point → List tree.Stmt → List Assertion
asserts_along p [] sts = []
asserts_along p (Statement k ∷ ps) sts = asserts_at p k (slice_get sts k) ++ asserts_along (p + 1) ps sts
asserts_along p (Inner ∷ ps) sts = asserts_along (p + 1) ps sts
asserts_along p (Exit ∷ ps) sts = asserts_along (p + 1) ps sts
