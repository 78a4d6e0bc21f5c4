-- The point of an assert is that of its statement, and its terms name variables of the program.
use Rattle.std.proofs.Common.{◌≡◌, ⊎_elim, ℕ, ◌+◌, Bool, List, [], ◌∷◌, Some, refl, sym, ap, ◌∙◌, subst, Contains, arith}
use Rattle.std.specs.Prelude.{All, slice_get}
use Rattle.std.proofs.lemmas.List.Elements.{Contains-append_cases}
use Rattle.prog_theory.specs.Statements.{Claim, Stmt, Set, Havoc, Assume, Assert, If, While, Skip, Block, Empty, Then, Program}
use Rattle.prog_theory.specs.Numbering.{count, counts}
use Rattle.prog_theory.specs.Tests.{test, inner}
use Rattle.prog_theory.specs.Places.{Place, places, places_of, width, widths, entry}
use Rattle.prog_theory.specs.Each.{EachClaim, EachClaims}
use Rattle.prog_theory.specs.Within.{IsClaim}
use Rattle.prog_theory.specs.Graph.{Statement, points, program_places}
use Rattle.prog_theory.specs.Fits.{FitsTerm, FitsStmt, FitsProgram}
use Rattle.prog_theory.proofs.Elements.{Contains-none, Contains-here, Contains-there, Contains-cases}
use Rattle.prog_theory.proofs.Tiles.{places_of_tile}
use Rattle.prog_theory.proofs.Extents.{If_cases, While_cases, Then_cases, only}
use Rattle.prog_theory.proofs.Graphs.{point_of_place}
use Rattle.prog_theory.proofs.Fitting.{statements_fit}
use Rattle.cone_reports.specs.Readings.{SuitsWords, SuitsClaim}
use Rattle.cone_reports.specs.Asserts.{Assertion, own_asserts, asserts_of, asserts}

-- the place of an assert
pub record IsPlaceOf (a : Assertion) (l : Place) : Type 0 where
  pub stmt : l.stmt ≡ Assert a.claim
  pub point : l.point ≡ a.point
  pub number : l.number ≡ a.number

own_is : (l : Place) (st : Stmt) (a : Assertion) → l.stmt ≡ st → Contains (own_asserts l.point l.number st) a
    → IsPlaceOf a l
own_is l (Assert c) a e d = ⊎_elim
    (λ s. record {
      stmt = e ∙ ap (λ (x : Assertion). Assert x.claim) (sym s);
      point = ap (λ (x : Assertion). x.point) (sym s);
      number = ap (λ (x : Assertion). x.number) (sym s);
    })
    (λ k. absurd (Contains-none a k))
    (Contains-cases (record { point = l.point; number = l.number; claim = c }) [] a d)
own_is l (Set x t) a e d = absurd (Contains-none a d)
own_is l (Havoc x) a e d = absurd (Contains-none a d)
own_is l (Assume c) a e d = absurd (Contains-none a d)
own_is l (If c b d) a e k = absurd (Contains-none a k)
own_is l (While c b) a e k = absurd (Contains-none a k)
own_is l Skip a e d = absurd (Contains-none a d)

assert_place : (ls : List Place) (a : Assertion) → Contains (asserts_of ls) a
    → (l : Place) × Contains ls l × IsPlaceOf a l
assert_place [] a d = absurd (Contains-none a d)
assert_place (l ∷ ls) a d = ⊎_elim
    (λ k. (l, Contains-here l ls, own_is l l.stmt a refl k))
    (λ k. let r = assert_place ls a k in (r.0, Contains-there l ls r.0 r.1, r.2))
    (Contains-append_cases (own_asserts l.point l.number l.stmt) (asserts_of ls) a d)

module _ (C : Claim → Type 0) where
  here_claims : (st : Stmt) (p k next : ℕ) (l : Place) → EachClaim C st
      → l ≡ record { point = p; number = k; stmt = st; next = next } → EachClaim C l.stmt
  here_claims st p k next l f e = subst (EachClaim C) (sym (ap (λ (x : Place). x.stmt) e)) f

  mutual
    place_claims : (st : Stmt) (p k next : ℕ) → EachClaim C st → (l : Place) → Contains (places p k st next) l
        → EachClaim C l.stmt
    place_claims (If c a b) p k next f l d = ⊎_elim
        (here_claims (If c a b) p k next l f)
        (λ g. ⊎_elim (block_claims a (p + 1 + inner (test c)) (k + 1) next f.0 l)
        (block_claims b (p + 1 + inner (test c) + widths a) (k + 1 + counts a) next f.1 l) g)
        (If_cases p k c a b next l d)
    place_claims (While c a) p k next f l d =
        ⊎_elim (here_claims (While c a) p k next l f) (block_claims a (p + 1 + inner (test c)) (k + 1) p f l)
        (While_cases p k c a next l d)
    place_claims (Set x t) p k next f l d = here_claims (Set x t) p k next l f (only _ l d)
    place_claims (Havoc x) p k next f l d = here_claims (Havoc x) p k next l f (only _ l d)
    place_claims (Assume c) p k next f l d = here_claims (Assume c) p k next l f (only _ l d)
    place_claims (Assert c) p k next f l d = here_claims (Assert c) p k next l f (only _ l d)
    place_claims Skip p k next f l d = here_claims Skip p k next l f (only _ l d)

    -- what holds of each claim of a block holds of that of each of its places
    block_claims : (b : Block) (p k next : ℕ) → EachClaims C b → (l : Place) → Contains (places_of p k b next) l
        → EachClaim C l.stmt
    block_claims Empty p k next f l d = absurd (Contains-none l d)
    block_claims (Then st b) p k next f l d = ⊎_elim
        (place_claims st p k (entry (p + width st) b next) f.0 l)
        (block_claims b (p + width st) (k + count st) next f.1 l)
        (Then_cases p k st b next l d)

module _ (P : Program) (a : Assertion) (listed : Contains (asserts P) a) where
  -- the point of an assert is that of the statement with its number
  pub assert_point : slice_get (points P) a.point ≡ Some (Statement a.number)
  assert_point =
      let l = assert_place (program_places P) a listed in
      let at = point_of_place 0 0 (program_places P) (0 + widths P.body) (0 + counts P.body)
      (places_of_tile 0 0 P.body (widths P.body)) l.0 l.1 a.point (omega (arith, l.2.point)) in
      at ∙ ap (λ k. Some (Statement k)) l.2.number

  pub assert_terms : FitsProgram P → All (FitsTerm P.vars) a.claim.left.terms
      × All (FitsTerm P.vars) a.claim.right.terms
  assert_terms fits = let l = assert_place (program_places P) a listed in
      subst (FitsStmt P.vars) l.2.stmt (statements_fit P fits l.0 l.1)

  -- a side has a term, and just one where no word stands before it
  pub assert_sides : EachClaims IsClaim P.body → IsClaim a.claim
  assert_sides each = let l = assert_place (program_places P) a listed in
      subst (EachClaim IsClaim) l.2.stmt (block_claims IsClaim P.body 0 0 (widths P.body) each l.0 l.1)

  -- so a claim suits where its words do
  pub assert_suits : (reversed : Bool) → FitsProgram P → EachClaims IsClaim P.body → SuitsWords reversed a.claim
      → SuitsClaim reversed P.vars a.claim
  assert_suits reversed fits each words = let t = assert_terms fits in
      record { words = words; sides = assert_sides each; left = t.0; right = t.1 }
