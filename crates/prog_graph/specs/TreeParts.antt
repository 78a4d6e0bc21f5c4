-- The points, edges and heads of statements and blocks by recursion on them: those of their places, in the same order.
use Rattle.std.specs.Prelude.{ℕ, ◌+◌, List, [], ◌++◌}
use Rattle.prog_theory.specs.Statements.{Stmt, Set, Havoc, Assume, Assert, If, While, Skip, Block, Empty, Then}
use Rattle.prog_theory.specs.Numbering.{count, counts}
use Rattle.prog_theory.specs.Tests.{test, inner}
use Rattle.prog_theory.specs.Edges.{Edge}
use Rattle.prog_theory.specs.Places.{width, widths, entry}
use Rattle.prog_theory.specs.Graph.{Point, own_points, own_edges}
use Rattle.prog_theory.specs.Heads.{own_heads}

-- edges: from the point p on, followed by `next`
abbrev mutual
  pub edges_st : ℕ → Stmt → ℕ → List Edge
  edges_st p (If c a b) next =
      own_edges p (If c a b) next
      ++ (edges_bl (p + 1 + inner (test c)) a next ++ edges_bl (p + 1 + inner (test c) + widths a) b next)
  edges_st p (While c a) next = own_edges p (While c a) next ++ edges_bl (p + 1 + inner (test c)) a p
  edges_st p (Set x t) next = own_edges p (Set x t) next
  edges_st p (Havoc x) next = own_edges p (Havoc x) next
  edges_st p (Assume c) next = own_edges p (Assume c) next
  edges_st p (Assert c) next = own_edges p (Assert c) next
  edges_st p Skip next = own_edges p Skip next

  pub edges_bl : ℕ → Block → ℕ → List Edge
  edges_bl p Empty next = []
  edges_bl p (Then st b) next =
      edges_st p st (entry (p + width st) b next) ++ edges_bl (p + width st) b next

-- points: the first statement has the number k
abbrev mutual
  pub points_st : ℕ → Stmt → List Point
  points_st k (If c a b) = own_points k (If c a b) ++ (points_bl (k + 1) a ++ points_bl (k + 1 + counts a) b)
  points_st k (While c a) = own_points k (While c a) ++ points_bl (k + 1) a
  points_st k (Set x t) = own_points k (Set x t)
  points_st k (Havoc x) = own_points k (Havoc x)
  points_st k (Assume c) = own_points k (Assume c)
  points_st k (Assert c) = own_points k (Assert c)
  points_st k Skip = own_points k Skip

  pub points_bl : ℕ → Block → List Point
  points_bl k Empty = []
  points_bl k (Then st b) = points_st k st ++ points_bl (k + count st) b

-- heads: from the point p on
abbrev mutual
  pub heads_st : ℕ → Stmt → List ℕ
  heads_st p (If c a b) =
      heads_bl (p + 1 + inner (test c)) a ++ heads_bl (p + 1 + inner (test c) + widths a) b
  heads_st p (While c a) = own_heads p (While c a) ++ heads_bl (p + 1 + inner (test c)) a
  heads_st p (Set x t) = []
  heads_st p (Havoc x) = []
  heads_st p (Assume c) = []
  heads_st p (Assert c) = []
  heads_st p Skip = []

  pub heads_bl : ℕ → Block → List ℕ
  heads_bl p Empty = []
  heads_bl p (Then st b) = heads_st p st ++ heads_bl (p + width st) b
