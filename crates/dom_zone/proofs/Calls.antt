-- The calls of the domain, for values of the code: their views are zones.
use Rattle.std.proofs.Common.{◌≡◌, ◌≢◌, ⊎_elim, ◌≤◌, ℕ, ℤ, ◌-ℤ◌, Bool, List, Option, Some, None, refl, sym, ap, subst, subst₂, ◌∙◌}
use Rattle.std.specs.Prelude.{Result, Ok, ◌↔◌, IsTrue}
use Rattle.prog_theory.specs.States.{Term}
use Rattle.prog_theory.specs.Edges.{Op}
use Rattle.prog_theory.specs.Fits.{FitsOp}
use Rattle.prog_theory.specs.Statements.{Claim}
use Rattle.dom_theory.specs.Relations.{Apply, Join, Widen}
use Rattle.dom_core.specs.declared.error.DomErr.{DomErr}
use Rattle.dom_core.specs.Answers.{IsAnswer}
use Rattle.zone_theory.specs.Bounds.{Bound, IsAtMost}
use Rattle.zone_theory.specs.Matrices.{Matrix, InZone, entry}
use Rattle.zone_theory.specs.Closed.{IsGreatest, IsClosed}
use Rattle.zone_theory.specs.Widening.{basis}
use Rattle.zone_theory.specs.Claims.{Compared}
use Rattle.zone_theory.specs.Domain.{HasState, Within}
use Rattle.zone_theory.proofs.Images.{empty-image}
use Rattle.zone_theory.proofs.Including.{pair-holds, holds-pair}
use Rattle.zone_lists.specs.Zones.{ZoneList, matrix_in, matrix_if, zone_of, empty, zone_lists}
use Rattle.dom_zone.specs.Values.{IsSmallTable, IsSmallIf, AreKept, AreKeptIf, IsSound, IsMoved, IsMet}
use Rattle.dom_zone.specs.Answers.{IsFitted}
use Rattle.dom_zone.specs.Widened.{IsLeft, IsSolved}
use Rattle.dom_zone.specs.Claims.{AtEach, is_proven}
use Rattle.dom_zone.proofs.Results.{moved-answer, met-answer, widened-answer}
use Rattle.dom_zone.proofs.Views.{list, empty-is_bottom}

-- what is known of the matrix of a value
pub small-some : (vars : ℕ) (b kept : Option (List Bound)) (bounds : List Bound) → IsSound vars b kept → b ≡ Some bounds
    → IsSmallTable vars bounds
small-some vars b kept bounds s e = subst (IsSmallIf vars) e s.small

pub kept-some : (vars : ℕ) (b kept : Option (List Bound)) (bounds : List Bound) → IsSound vars b kept → b ≡ Some bounds
    → AreKeptIf vars (Some bounds) kept
kept-some vars b kept bounds s e = subst (λ x. AreKeptIf vars x kept) e s.keeps

pub kept-both : (vars : ℕ) (bounds : List Bound) (k : Option (List Bound)) (kept : List Bound)
    → AreKeptIf vars (Some bounds) k → k ≡ Some kept → AreKept vars bounds kept
kept-both vars bounds k kept h e = subst (AreKeptIf vars (Some bounds)) e h

-- ---- images

pub image-none : (vars : ℕ) (b kept : Option (List Bound)) (op : Op) (x y : ZoneList) → b ≡ None → list vars b kept ≡ x
    → FitsOp x.vars op → y ≡ empty vars → IsAnswer zone_lists (Apply op x) (Ok y)
image-none vars b kept op x y none e on is =
    subst (λ x. FitsOp x.vars op → IsAnswer zone_lists (Apply op x) (Ok y))
    (ap (λ b. list vars b kept) (sym none) ∙ e)
    (λ on. moved-answer op (list vars None kept) on None (record { closed = tt; image = empty-image vars op }) (Ok y)
    (is, tt)) on

pub image-some : (vars : ℕ) (b kept : Option (List Bound)) (bounds : List Bound) (op : Op) (x : ZoneList)
    (made : Option (List Bound)) (r : Result ZoneList DomErr) → b ≡ Some bounds → list vars b kept ≡ x
    → FitsOp x.vars op
    → IsMoved vars op (Some (matrix_in vars bounds)) made → IsFitted vars made r → IsAnswer zone_lists (Apply op x) r
image-some vars b kept bounds op x made r some e on m f =
    subst (λ x. FitsOp x.vars op → IsAnswer zone_lists (Apply op x) r)
    (ap (λ b. list vars b kept) (sym some) ∙ e)
    (λ on. moved-answer op (list vars (Some bounds) kept) on made m r f) on

-- ---- joins

pub join-made : (vars n : ℕ) (b kept c keeps : Option (List Bound)) (x y : ZoneList) (made : Option (List Bound))
    (r : Result ZoneList DomErr) → list vars b kept ≡ x → list n c keeps ≡ y → n ≡ vars
    → IsMet vars (matrix_if vars b) (matrix_if vars c) made → IsFitted vars made r → IsAnswer zone_lists (Join x y) r
join-made vars n b kept c keeps x y made r e g same m f =
    subst₂ (λ x y. IsAnswer zone_lists (Join x y) r) e (ap (λ d. list d c keeps) (sym same) ∙ g)
    (met-answer (list vars b kept) (list vars c keeps) refl made m r f)

-- ---- widenings

basis-closed : (vars : ℕ) (bounds : List Bound) (kept : Option (List Bound)) → IsSmallTable vars bounds
    → AreKeptIf vars (Some bounds) kept
    → IsClosed vars (InZone vars (basis (matrix_in vars bounds) (matrix_if vars kept))) (matrix_in vars bounds)
basis-closed vars bounds None small k = small.closed.closed
basis-closed vars bounds (Some kept) small k = k.closed

solved-answer : (vars : ℕ) (bounds : List Bound) (kept keeps : Option (List Bound)) (reached left : List Bound)
    (r : Result ZoneList DomErr) → IsSmallTable vars bounds → AreKeptIf vars (Some bounds) kept
    → IsLeft vars bounds kept reached left
    → (Within (zone_of (list vars (Some reached) keeps)) (zone_of (list vars (Some bounds) kept)) → ⊥)
    → IsSolved vars left r
    → IsAnswer zone_lists (Widen (list vars (Some bounds) kept) (list vars (Some reached) keeps)) r
solved-answer vars bounds kept keeps reached left r small k l leaves s =
    ⊎_elim (λ e. subst (IsAnswer zone_lists (Widen x next)) (sym e) tt)
    (λ q. widened-answer x next refl (matrix_in vars bounds) refl (basis-closed vars bounds kept small k) leaves
    q.0 left q.1.table l.begins.table l.stays q.1.closed r q.2) s
  where
    x : ZoneList
    x = list vars (Some bounds) kept

    next : ZoneList
    next = list vars (Some reached) keeps

pub widen-made : (vars n : ℕ) (b kept c keeps : Option (List Bound)) (bounds reached left : List Bound)
    (x next : ZoneList)
    (r : Result ZoneList DomErr) → b ≡ Some bounds → c ≡ Some reached → list vars b kept ≡ x → list n c keeps ≡ next
    → n ≡ vars → IsSmallTable vars bounds → AreKeptIf vars (Some bounds) kept → IsLeft vars bounds kept reached left
    → (Within (zone_of next) (zone_of x) → ⊥) → IsSolved vars left r → IsAnswer zone_lists (Widen x next) r
widen-made vars n b kept c keeps bounds reached left x next r some other e g same small k l leaves s =
    subst₂ (λ x y. (Within (zone_of y) (zone_of x) → ⊥) → IsAnswer zone_lists (Widen x y) r)
    (ap (λ b. list vars b kept) (sym some) ∙ e)
    (ap (λ d. list d (Some reached) keeps) (sym same) ∙ ap (λ c. list n c keeps) (sym other) ∙ g)
    (λ h. solved-answer vars bounds kept keeps reached left r small k l h s) leaves

-- an empty zone isn't widened, nor by an empty one
pub widen-empty : (vars : ℕ) (b kept : Option (List Bound)) (x : ZoneList) → b ≡ None → list vars b kept ≡ x
    → AreKeptIf vars b kept → (x ≡ empty x.vars → ⊥) → ⊥
widen-empty vars b kept x none e k more = subst (λ x. (x ≡ empty x.vars → ⊥) → ⊥)
    (ap (λ b. list vars b kept) (sym none) ∙ e)
    (λ h. h (empty-is_bottom vars kept (subst (λ b. AreKeptIf vars b kept) none k))) more

pub widen-by_empty : (n : ℕ) (c keeps : Option (List Bound)) (x next : ZoneList) → c ≡ None → list n c keeps ≡ next
    → (Within (zone_of next) (zone_of x) → ⊥) → ⊥
widen-by_empty n c keeps x next none e leaves = subst (λ y. (Within (zone_of y) (zone_of x) → ⊥) → ⊥)
    (ap (λ c. list n c keeps) (sym none) ∙ e) (λ h. h (λ s z. absurd z)) leaves

-- ---- bounds

module _ (vars : ℕ) (b kept : Option (List Bound)) (bounds : List Bound) (x : ZoneList) (some : b ≡ Some bounds)
    (e : list vars b kept ≡ x) where
  at : list vars (Some bounds) kept ≡ x
  at = ap (λ b. list vars b kept) (sym some) ∙ e

  pub bound-greatest : IsSmallTable vars bounds → (i j : ℕ) → i ≤ x.vars → j ≤ x.vars → i ≢ j → (r : Bound)
      → r ≡ matrix_in vars bounds i j → IsGreatest (HasState (zone_of x)) i j r
  bound-greatest small i j hi hj ne r is = subst (IsGreatest (HasState (zone_of x)) i j) (sym is)
      (subst (λ x. i ≤ x.vars → j ≤ x.vars → IsGreatest (HasState (zone_of x)) i j (matrix_in vars bounds i j)) at
      (λ hi hj. small.closed.closed.greatest i j hi hj ne) hi hj)

  -- ---- claims

  pub shown : (claim : Claim) (r : _)
      → (IsTrue r ↔ Compared (AtEach vars (matrix_in vars bounds)) claim.rel claim.left claim.right)
      → IsTrue r ↔ is_proven claim x
  shown claim r h = subst (λ x. IsTrue r ↔ is_proven claim x) at h

pub shown-empty : (vars : ℕ) (b kept : Option (List Bound)) (x : ZoneList) (claim : Claim) → b ≡ None
    → list vars b kept ≡ x → is_proven claim x
shown-empty vars b kept x claim none e = subst (is_proven claim) (ap (λ b. list vars b kept) (sym none) ∙ e) tt

-- a pair of terms holds at each state where the bound at its coordinates says so
pub pair-judged : (vars : ℕ) (bounds : List Bound) (l t : Term) (b : Bound) (x : ℤ) (r : Bool)
    → IsSmallTable vars bounds
    → l.coord ≤ vars → t.coord ≤ vars → b ≡ entry (matrix_in vars bounds) l.coord t.coord → x ≡ t.add -ℤ l.add
    → (IsTrue r ↔ IsAtMost b x) → IsTrue r ↔ AtEach vars (matrix_in vars bounds) l t
pair-judged vars bounds l t b x r small hl ht be xe h = (
  λ f. holds-pair vars l t hl ht (InZone vars m) m small.closed.closed
      (subst (IsAtMost (entry m l.coord t.coord)) xe (subst (λ y. IsAtMost y x) be (h.0 f))),
  λ each. h.1 (subst (λ y. IsAtMost y x) (sym be) (subst (IsAtMost (entry m l.coord t.coord)) (sym xe)
      (pair-holds vars l t hl ht (InZone vars m) m small.closed.closed each))),
)
  where
    m : Matrix
    m = matrix_in vars bounds
