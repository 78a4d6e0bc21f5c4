-- The points, edges and heads by recursion on the tree are those of the places.
use Rattle.std.proofs.Common.{◌≡◌, ℕ, ◌+◌, List, [], ◌∷◌, ◌++◌, refl, sym, ap, ap₂, ◌∙◌, append_assoc, append-nil}
use Rattle.prog_theory.specs.Statements.{Stmt, Set, Havoc, Assume, Assert, If, While, Skip, Block, Empty, Then, Program}
use Rattle.prog_theory.specs.Numbering.{count, counts}
use Rattle.prog_theory.specs.Tests.{test, inner}
use Rattle.prog_theory.specs.Edges.{Edge}
use Rattle.prog_theory.specs.Places.{width, widths, entry, Place, places, places_of}
use Rattle.prog_theory.specs.Graph.{Point, Exit, own_points, own_edges, points_of, edges_of, points, edges}
use Rattle.prog_theory.specs.Heads.{own_heads, heads_of, heads}
use Rattle.prog_graph.specs.TreeParts.{edges_st, edges_bl, points_st, points_bl, heads_st, heads_bl}

-- ---- edges

edges_of-append : (xs ys : List Place) → edges_of (xs ++ ys) ≡ edges_of xs ++ edges_of ys
edges_of-append [] ys = refl
edges_of-append (l ∷ xs) ys =
    ap (λ (z : List Edge). own_edges l.point l.stmt l.next ++ z) (edges_of-append xs ys)
    ∙ sym (append_assoc (own_edges l.point l.stmt l.next) (edges_of xs) (edges_of ys))

mutual
  stmt_edges : (st : Stmt) (p k next : ℕ) → edges_of (places p k st next) ≡ edges_st p st next
  stmt_edges (If c a b) p k next =
      ap (λ (z : List Edge). own_edges p (If c a b) next ++ z)
      (edges_of-append (places_of (p + 1 + inner (test c)) (k + 1) a next)
      (places_of (p + 1 + inner (test c) + widths a) (k + 1 + counts a) b next)
      ∙ ap₂ (λ (y z : List Edge). y ++ z) (block_edges a (p + 1 + inner (test c)) (k + 1) next)
      (block_edges b (p + 1 + inner (test c) + widths a) (k + 1 + counts a) next))
  stmt_edges (While c a) p k next =
      ap (λ (z : List Edge). own_edges p (While c a) next ++ z) (block_edges a (p + 1 + inner (test c)) (k + 1) p)
  stmt_edges (Set x t) p k next = append-nil (own_edges p (Set x t) next)
  stmt_edges (Havoc x) p k next = append-nil (own_edges p (Havoc x) next)
  stmt_edges (Assume c) p k next = append-nil (own_edges p (Assume c) next)
  stmt_edges (Assert c) p k next = append-nil (own_edges p (Assert c) next)
  stmt_edges Skip p k next = append-nil (own_edges p Skip next)

  block_edges : (b : Block) (p k next : ℕ) → edges_of (places_of p k b next) ≡ edges_bl p b next
  block_edges Empty p k next = refl
  block_edges (Then st b) p k next =
      edges_of-append (places p k st (entry (p + width st) b next)) (places_of (p + width st) (k + count st) b next)
      ∙ ap₂ (λ (y z : List Edge). y ++ z) (stmt_edges st p k (entry (p + width st) b next))
      (block_edges b (p + width st) (k + count st) next)

pub program_edges : (P : Program) → edges P ≡ edges_bl 0 P.body (widths P.body)
program_edges P = block_edges P.body 0 0 (widths P.body)

-- ---- points, with what stands behind them

mutual
  stmt_points : (st : Stmt) (p k next : ℕ) (ls : List Place) → points_of (places p k st next ++ ls) ≡ points_st k st ++
      points_of ls
  stmt_points (If c a b) p k next ls =
      let first = places_of (p + 1 + inner (test c)) (k + 1) a next in
      let second = places_of (p + 1 + inner (test c) + widths a) (k + 1 + counts a) b next in
      ap (λ (z : List Point). own_points k (If c a b) ++ z)
      (ap points_of (append_assoc first second ls)
      ∙ block_points a (p + 1 + inner (test c)) (k + 1) next (second ++ ls)
      ∙ ap (λ (z : List Point). points_bl (k + 1) a ++ z)
      (block_points b (p + 1 + inner (test c) + widths a) (k + 1 + counts a) next ls)
      ∙ sym (append_assoc (points_bl (k + 1) a) (points_bl (k + 1 + counts a) b) (points_of ls)))
      ∙ sym (append_assoc (own_points k (If c a b)) (points_bl (k + 1) a ++ points_bl (k + 1 + counts a) b)
      (points_of ls))
  stmt_points (While c a) p k next ls =
      ap (λ (z : List Point). own_points k (While c a) ++ z) (block_points a (p + 1 + inner (test c)) (k + 1) p ls)
      ∙ sym (append_assoc (own_points k (While c a)) (points_bl (k + 1) a) (points_of ls))
  stmt_points (Set x t) p k next ls = refl
  stmt_points (Havoc x) p k next ls = refl
  stmt_points (Assume c) p k next ls = refl
  stmt_points (Assert c) p k next ls = refl
  stmt_points Skip p k next ls = refl

  block_points : (b : Block) (p k next : ℕ) (ls : List Place) → points_of (places_of p k b next ++ ls) ≡ points_bl k b
      ++ points_of ls
  block_points Empty p k next ls = refl
  block_points (Then st b) p k next ls =
      let first = places p k st (entry (p + width st) b next) in
      let second = places_of (p + width st) (k + count st) b next in
      ap points_of (append_assoc first second ls)
      ∙ stmt_points st p k (entry (p + width st) b next) (second ++ ls)
      ∙ ap (λ (z : List Point). points_st k st ++ z) (block_points b (p + width st) (k + count st) next ls)
      ∙ sym (append_assoc (points_st k st) (points_bl (k + count st) b) (points_of ls))

pub program_points : (P : Program) → points P ≡ points_bl 0 P.body ++ Exit ∷ []
program_points P =
    ap points_of (sym (append-nil (places_of 0 0 P.body (widths P.body)))) ∙ block_points P.body 0 0 (widths P.body) []

-- ---- heads

heads_of-append : (xs ys : List Place) → heads_of (xs ++ ys) ≡ heads_of xs ++ heads_of ys
heads_of-append [] ys = refl
heads_of-append (l ∷ xs) ys =
    ap (λ (z : List ℕ). own_heads l.point l.stmt ++ z) (heads_of-append xs ys)
    ∙ sym (append_assoc (own_heads l.point l.stmt) (heads_of xs) (heads_of ys))

mutual
  stmt_heads : (st : Stmt) (p k next : ℕ) → heads_of (places p k st next) ≡ heads_st p st
  stmt_heads (If c a b) p k next =
      heads_of-append (places_of (p + 1 + inner (test c)) (k + 1) a next)
      (places_of (p + 1 + inner (test c) + widths a) (k + 1 + counts a) b next)
      ∙ ap₂ (λ (y z : List ℕ). y ++ z) (block_heads a (p + 1 + inner (test c)) (k + 1) next)
      (block_heads b (p + 1 + inner (test c) + widths a) (k + 1 + counts a) next)
  stmt_heads (While c a) p k next =
      ap (λ (z : List ℕ). own_heads p (While c a) ++ z) (block_heads a (p + 1 + inner (test c)) (k + 1) p)
  stmt_heads (Set x t) p k next = refl
  stmt_heads (Havoc x) p k next = refl
  stmt_heads (Assume c) p k next = refl
  stmt_heads (Assert c) p k next = refl
  stmt_heads Skip p k next = refl

  block_heads : (b : Block) (p k next : ℕ) → heads_of (places_of p k b next) ≡ heads_bl p b
  block_heads Empty p k next = refl
  block_heads (Then st b) p k next =
      heads_of-append (places p k st (entry (p + width st) b next)) (places_of (p + width st) (k + count st) b next)
      ∙ ap₂ (λ (y z : List ℕ). y ++ z) (stmt_heads st p k (entry (p + width st) b next))
      (block_heads b (p + width st) (k + count st) next)

pub program_heads : (P : Program) → heads P ≡ heads_bl 0 P.body
program_heads P = block_heads P.body 0 0 (widths P.body)
