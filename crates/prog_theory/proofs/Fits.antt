-- A stack fits a point of the graph: the top statement stands at that point, and the stack below it fits the point that
-- follows.
use Rattle.std.proofs.Common.{◌≡◌, ℕ, ◌+◌, List, [], ◌∷◌, ◌++◌, Contains}
use Rattle.prog_theory.specs.Statements.{Stmt, Set, Havoc, Assume, Assert, If, While, Skip, Block, Empty, Then, Program}
use Rattle.prog_theory.specs.Numbering.{count, numbered}
use Rattle.prog_theory.specs.Steps.{Stack}
use Rattle.prog_theory.specs.Places.{width, widths, entry, Place, places, places_of}
use Rattle.prog_theory.specs.Graph.{program_places}
use Rattle.prog_theory.proofs.Elements.{Includes, Includes-head, Includes-left, Includes-right}

abbrev pub Fits : Program → Stack → ℕ → Type 0
Fits P [] p = p ≡ widths P.body
Fits P (top ∷ rest) p = (next : ℕ) × Includes (program_places P) (places p top.number top.stmt next) × Fits P rest next

pub own_place : (all : List Place) (p k : ℕ) (st : Stmt) (next : ℕ) → Includes all (places p k st next)
    → Contains all (record { point = p; number = k; stmt = st; next = next })
own_place all p k (Set x t) next i = Includes-head all _ _ i
own_place all p k (Havoc x) next i = Includes-head all _ _ i
own_place all p k (Assume c) next i = Includes-head all _ _ i
own_place all p k (Assert c) next i = Includes-head all _ _ i
own_place all p k (If c a b) next i = Includes-head all _ _ i
own_place all p k (While c a) next i = Includes-head all _ _ i
own_place all p k Skip next i = Includes-head all _ _ i

-- a block on a stack that fits the point after the block fits where the block begins
pub block_fits : (P : Program) (b : Block) (p k next : ℕ) (rest : Stack)
    → Includes (program_places P) (places_of p k b next) → Fits P rest next
    → Fits P (numbered k b ++ rest) (entry p b next)
block_fits P Empty p k next rest i h = h
block_fits P (Then st b) p k next rest i h = (
  entry (p + width st) b next,
  Includes-left (program_places P) (places p k st (entry (p + width st) b next))
      (places_of (p + width st) (k + count st) b next) i,
  block_fits P b (p + width st) (k + count st) next rest
      (Includes-right (program_places P) (places p k st (entry (p + width st) b next))
      (places_of (p + width st) (k + count st) b next) i) h,
)
