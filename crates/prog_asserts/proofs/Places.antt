-- The asserts at the points of a program are those of its places.
use Rattle.std.proofs.Common.{◌≡◌, ℕ, zero, suc, ◌+◌, List, [], ◌∷◌, ◌++◌, Some, map, length, replicate, refl, sym, ap, ap₂, ◌∙◌, arith, append_assoc}
use Rattle.std.specs.Prelude.{slice_get}
use Rattle.prog_theory.specs.Statements.{Stmt, Set, Havoc, Assume, Assert, If, While, Skip, Block, Empty, Then, Program}
use Rattle.prog_theory.specs.Numbering.{count, counts}
use Rattle.prog_theory.specs.Tests.{test, inner}
use Rattle.prog_theory.specs.Places.{own_inner, width, widths, entry, Place, places, places_of}
use Rattle.prog_theory.specs.Graph.{Point, Inner, points_of, points, program_places}
use Rattle.prog_theory.proofs.Tiles.{Tiles, places_of_tile}
use Rattle.cone_reports.specs.Asserts.{Assertion, own_asserts, asserts_of, asserts}
use Rattle.prog_asserts.specs.Listed.{listed_st, listed_bl, asserts_at, asserts_along}

stmts_of : List Place → List Stmt
stmts_of ls = map (λ (l : Place). l.stmt) ls

stmts_of-append : (xs ys : List Place) → stmts_of (xs ++ ys) ≡ stmts_of xs ++ stmts_of ys
unfolding stmts_of
stmts_of-append [] ys = refl
stmts_of-append (l ∷ xs) ys = ap (λ (z : List Stmt). l.stmt ∷ z) (stmts_of-append xs ys)

mutual
  unfolding stmts_of

  stmt_listed : (st : Stmt) (p k next : ℕ) → listed_st st ≡ stmts_of (places p k st next)
  stmt_listed (If c a b) p k next =
      let first = places_of (p + 1 + inner (test c)) (k + 1) a next in
      let second = places_of (p + 1 + inner (test c) + widths a) (k + 1 + counts a) b next in
      ap (λ (z : List Stmt). If c a b ∷ z)
      (ap₂ (λ (y z : List Stmt). y ++ z) (block_listed a (p + 1 + inner (test c)) (k + 1) next)
      (block_listed b (p + 1 + inner (test c) + widths a) (k + 1 + counts a) next)
      ∙ sym (stmts_of-append first second))
  stmt_listed (While c a) p k next =
      ap (λ (z : List Stmt). While c a ∷ z) (block_listed a (p + 1 + inner (test c)) (k + 1) p)
  stmt_listed (Set x t) p k next = refl
  stmt_listed (Havoc x) p k next = refl
  stmt_listed (Assume c) p k next = refl
  stmt_listed (Assert c) p k next = refl
  stmt_listed Skip p k next = refl

  block_listed : (b : Block) (p k next : ℕ) → listed_bl b ≡ stmts_of (places_of p k b next)
  block_listed Empty p k next = refl
  block_listed (Then st b) p k next =
      ap₂ (λ (y z : List Stmt). y ++ z) (stmt_listed st p k (entry (p + width st) b next))
      (block_listed b (p + width st) (k + count st) next)
      ∙ sym (stmts_of-append (places p k st (entry (p + width st) b next))
      (places_of (p + width st) (k + count st) b next))

past_inner : (m p : ℕ) (ps : List Point) (sts : List Stmt)
    → asserts_along p (replicate m Inner ++ ps) sts ≡ asserts_along (p + m) ps sts
past_inner zero p ps sts = let same : p ≡ p + 0 = omega arith in ap (λ (q : ℕ). asserts_along q ps sts) same
past_inner (suc m) p ps sts = let same : p + 1 + m ≡ p + suc m = omega arith in
    past_inner m (p + 1) ps sts ∙ ap (λ (q : ℕ). asserts_along q ps sts) same

get_behind : (front : List Stmt) (st : Stmt) (rest : List Stmt) (k : ℕ) → length front ≡ k
    → slice_get (front ++ st ∷ rest) k ≡ Some st
get_behind [] st rest zero e = refl
get_behind [] st rest (suc k) e = absurd (omega (arith, e))
get_behind (x ∷ front) st rest zero e = absurd (omega (arith, e))
get_behind (x ∷ front) st rest (suc k) e = get_behind front st rest k (omega (arith, e))

length_one_more : (front : List Stmt) (st : Stmt) → length (front ++ st ∷ []) ≡ length front + 1
length_one_more [] st = refl
length_one_more (x ∷ front) st = let h = length_one_more front st in omega (arith, h)

along_places : (lo k : ℕ) (ls : List Place) (hi j : ℕ) → Tiles lo k ls hi j → (front : List Stmt) → length front ≡ k
    → asserts_along lo (points_of ls) (front ++ stmts_of ls) ≡ asserts_of ls
unfolding stmts_of
along_places lo k [] hi j h front e = refl
along_places lo k (l ∷ ls) hi j h front e =
    let sts = front ++ stmts_of (l ∷ ls) in
    let at : slice_get sts l.number ≡ Some l.stmt = get_behind front l.stmt (stmts_of ls) l.number (e ∙ sym h.1) in
    let own : asserts_at lo l.number (slice_get sts l.number) ≡ own_asserts l.point l.number l.stmt =
    ap (asserts_at lo l.number) at ∙ ap (λ (q : ℕ). own_asserts q l.number l.stmt) (sym h.0) in
    let whole : sts ≡ (front ++ l.stmt ∷ []) ++ stmts_of ls = sym (append_assoc front (l.stmt ∷ []) (stmts_of ls)) in
    let rest : asserts_along (lo + 1) (replicate (own_inner l.stmt) Inner ++ points_of ls) sts ≡ asserts_of ls =
    past_inner (own_inner l.stmt) (lo + 1) (points_of ls) sts
    ∙ ap (asserts_along (lo + 1 + own_inner l.stmt) (points_of ls)) whole
    ∙ along_places (lo + 1 + own_inner l.stmt) (k + 1) ls hi j h.2 (front ++ l.stmt ∷ [])
    (length_one_more front l.stmt ∙ ap (λ (q : ℕ). q + 1) e) in
    ap₂ (λ (y z : List Assertion). y ++ z) own rest

pub program_asserts : (P : Program) → asserts_along 0 (points P) (listed_bl P.body) ≡ asserts P
program_asserts P =
    ap (asserts_along 0 (points P)) (block_listed P.body 0 0 (widths P.body))
    ∙ along_places 0 0 (program_places P) (0 + widths P.body) (0 + counts P.body)
    (places_of_tile 0 0 P.body (widths P.body)) [] refl
