-- The numbers of the points and of the asserts of a program are those of its statements.
-- Index: points_fit, asserts_fit.
use Rattle.std.proofs.Common.{◌≤◌, ◌<◌, ◌+◌, ◌^◌, ℕ, zero, suc, List, [], ◌∷◌, map, replicate, arith}
use Rattle.prog_theory.specs.Statements.{Stmt, Set, Havoc, Assume, Assert, If, While, Skip, Block, Empty, Then, Program}
use Rattle.prog_theory.specs.Numbering.{count, counts}
use Rattle.prog_theory.specs.Tests.{test, inner}
use Rattle.prog_theory.specs.Places.{Place, places, places_of, own_inner, width, widths, entry}
use Rattle.prog_theory.specs.Graph.{Inner, own_points, points_of, program_places, points}
use Rattle.cone_reports.specs.Asserts.{Assertion, own_asserts, asserts_of, asserts}
use Rattle.report_texts.specs.Lines.{Each}
use Rattle.report_texts.proofs.Runs.{Each-append}
use Rattle.report_texts.proofs.WrittenLines.{FitsPoint}

-- the number of the statement is below
abbrev Below : ℕ → Place → Type 0
Below hi l = l.number < hi

mutual
  stmt_numbers : (st : Stmt) (p k next hi : ℕ) → k + count st ≤ hi → Each (Below hi) (places p k st next)
  stmt_numbers (If c a b) p k next hi h = (
    omega (arith, h),
    Each-append (Below hi) (places_of (p + 1 + inner (test c)) (k + 1) a next)
        (places_of (p + 1 + inner (test c) + widths a) (k + 1 + counts a) b next)
        (block_numbers a (p + 1 + inner (test c)) (k + 1) next hi (omega (arith, h)))
        (block_numbers b (p + 1 + inner (test c) + widths a) (k + 1 + counts a) next hi (omega (arith, h))),
  )
  stmt_numbers (While c a) p k next hi h = (
    omega (arith, h),
    block_numbers a (p + 1 + inner (test c)) (k + 1) p hi (omega (arith, h)),
  )
  stmt_numbers (Assume c) p k next hi h = (omega (arith, h), tt)
  stmt_numbers (Set x t) p k next hi h = (omega (arith, h), tt)
  stmt_numbers (Havoc x) p k next hi h = (omega (arith, h), tt)
  stmt_numbers (Assert c) p k next hi h = (omega (arith, h), tt)
  stmt_numbers Skip p k next hi h = (omega (arith, h), tt)

  block_numbers : (b : Block) (p k next hi : ℕ) → k + counts b ≤ hi → Each (Below hi) (places_of p k b next)
  block_numbers Empty p k next hi h = tt
  block_numbers (Then st b) p k next hi h =
      Each-append (Below hi) (places p k st (entry (p + width st) b next))
      (places_of (p + width st) (k + count st) b next)
      (stmt_numbers st p k (entry (p + width st) b next) hi (omega (arith, h)))
      (block_numbers b (p + width st) (k + count st) next hi (omega (arith, h)))

inner_fit : (n : ℕ) → Each FitsPoint (replicate n Inner)
inner_fit zero = tt
inner_fit (suc n) = (tt, inner_fit n)

places_fit : (ls : List Place) → Each (Below (2 ^ 64)) ls → Each FitsPoint (points_of ls)
places_fit [] h = (tt, tt)
places_fit (l ∷ ls) h = Each-append FitsPoint (own_points l.number l.stmt) (points_of ls)
    (h.0, inner_fit (own_inner l.stmt)) (places_fit ls h.1)

pub points_fit : (P : Program) → counts P.body ≤ 2 ^ 64 → Each FitsPoint (points P)
points_fit P h = places_fit (program_places P) (block_numbers P.body 0 0 (widths P.body) (2 ^ 64) (omega (arith, h)))

abbrev pub FitsNumber : ℕ → Type 0
FitsNumber n = n < 2 ^ 64

own_fit : (p k : ℕ) (st : Stmt) → k < 2 ^ 64 → Each (λ (a : Assertion). FitsNumber a.number) (own_asserts p k st)
own_fit p k (Assert c) h = (h, tt)
own_fit p k (Set x t) h = tt
own_fit p k (Havoc x) h = tt
own_fit p k (Assume c) h = tt
own_fit p k (If c a b) h = tt
own_fit p k (While c a) h = tt
own_fit p k Skip h = tt

asserted_fit : (ls : List Place) → Each (Below (2 ^ 64)) ls →
    Each (λ (a : Assertion). FitsNumber a.number) (asserts_of ls)
asserted_fit [] h = tt
asserted_fit (l ∷ ls) h = Each-append (λ (a : Assertion). FitsNumber a.number) (own_asserts l.point l.number l.stmt)
    (asserts_of ls) (own_fit l.point l.number l.stmt h.0) (asserted_fit ls h.1)

numbers_of : (xs : List Assertion) → Each (λ (a : Assertion). FitsNumber a.number) xs →
    Each FitsNumber (map (λ (a : Assertion). a.number) xs)
numbers_of [] h = tt
numbers_of (x ∷ xs) h = (h.0, numbers_of xs h.1)

pub asserts_fit : (P : Program) → counts P.body ≤ 2 ^ 64 →
    Each FitsNumber (map (λ (a : Assertion). a.number) (asserts P))
asserts_fit P h = numbers_of (asserts P) (asserted_fit (program_places P)
    (block_numbers P.body 0 0 (widths P.body) (2 ^ 64) (omega (arith, h))))
