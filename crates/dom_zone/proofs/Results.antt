-- What is made of zones, as the answers of the domain's calls.
-- Index: moved-answer, met-answer, widened-answer.
use Rattle.std.proofs.Common.{◌≡◌, ℕ, suc, List, Option, Some, None, refl, sym, ap, subst}
use Rattle.std.specs.Prelude.{Result, Ok, Err}
use Rattle.prog_theory.specs.States.{State}
use Rattle.prog_theory.specs.Edges.{Op}
use Rattle.prog_theory.specs.Fits.{FitsOp}
use Rattle.dom_theory.specs.Refusals.{Kept}
use Rattle.dom_theory.specs.Relations.{Apply, Join, Widen}
use Rattle.dom_core.specs.declared.error.At.TheVariants as ats
use Rattle.dom_core.specs.declared.error.DomErr.{DomErr}
use Rattle.dom_core.specs.declared.error.DomErr.TheVariants.{Limit, Range, NoMemory}
use Rattle.dom_core.specs.Answers.{IsAnswer}
use Rattle.zone_theory.specs.Bounds.{Bound}
use Rattle.zone_theory.specs.Matrices.{Matrix, InZone}
use Rattle.zone_theory.specs.Closed.{IsClosed}
use Rattle.zone_theory.specs.Zones.{Has}
use Rattle.zone_theory.specs.Widening.{IsKept, basis}
use Rattle.zone_theory.specs.Width.{numbers}
use Rattle.zone_theory.specs.Domain.{IsNormalValue, Applied, Joined, Widened}
use Rattle.zone_theory.specs.Relations.{IsTooLarge}
use Rattle.zone_theory.proofs.DomainLaws.{applied-one, joined-one, widened-one}
use Rattle.zone_tables.specs.Tables.{IsTable}
use Rattle.zone_lists.specs.Zones.{ZoneList, IsListed, IsTableIf, matrix_in, matrix_if, zone_of, zone_lists}
use Rattle.dom_zone.specs.Values.{IsClosedIf, IsMoved, IsMet}
use Rattle.dom_zone.specs.Answers.{HasLargeIf, AreSmallIf, IsFitted, IsFittedWith}
use Rattle.zone_tables.proofs.Lists.{matrix-normal}
use Rattle.dom_zone.proofs.Large.{too-large, not-too_large, empty-not_large}

normal-if : (vars : ℕ) (made : Option (List Bound)) → IsClosedIf vars made → IsNormalValue vars (matrix_if vars made)
normal-if vars None h = tt
normal-if vars (Some bounds) h = (h.closed, matrix-normal vars bounds)

table-if : (vars : ℕ) (made : Option (List Bound)) → IsClosedIf vars made → IsTableIf vars made
table-if vars None h = tt
table-if vars (Some bounds) h = h.table

-- the value without kept bounds, and with some
abbrev fresh : ℕ → Option (List Bound) → ZoneList
fresh vars made = record { vars = vars; bounds = made; kept = None }

abbrev keeping : ℕ → List Bound → List Bound → ZoneList
keeping vars bounds kept = record { vars = vars; bounds = Some bounds; kept = Some kept }

fresh-listed : (vars : ℕ) (made : Option (List Bound)) → IsClosedIf vars made → IsListed (fresh vars made)
fresh-listed vars made h = record { bounds = table-if vars made h; kept = tt }

too-large-if : (vars : ℕ) (made : Option (List Bound)) → IsClosedIf vars made → HasLargeIf made
    → IsTooLarge (zone_of (fresh vars made))
too-large-if vars None c h = absurd h
too-large-if vars (Some bounds) c h = too-large vars bounds (zone_of (fresh vars (Some bounds))) c.table refl h

small-if : (vars : ℕ) (made : Option (List Bound)) → AreSmallIf made → IsTooLarge (zone_of (fresh vars made)) → ⊥
small-if vars None s t = empty-not_large (zone_of (fresh vars None)) refl t
small-if vars (Some bounds) s t = not-too_large vars bounds (zone_of (fresh vars (Some bounds))) s refl t

module _ (op : Op) (x : ZoneList) (on : FitsOp x.vars op) (made : Option (List Bound))
    (moved : IsMoved x.vars op (matrix_if x.vars x.bounds) made) where
  applied-is : Applied op (zone_of x) (zone_of (fresh x.vars made))
  applied-is = record {
    vars = refl;
    value = normal-if x.vars made moved.closed;
    image = moved.image;
    kept = refl;
  }

  -- the image of a zone
  pub moved-answer : (result : Result ZoneList DomErr) → IsFitted x.vars made result
      → IsAnswer zone_lists (Apply op x) result
  moved-answer (Ok y) f = (
    λ cause at r. small-if x.vars made f.1 (subst IsTooLarge
        (applied-one op (zone_of x) r.2 (zone_of (fresh x.vars made)) r.3.1 applied-is) r.4),
    subst (λ y. (FitsOp x.vars op × Applied op (zone_of x) (zone_of y)) × IsListed y) (sym f.0)
        ((on, applied-is), fresh-listed x.vars made moved.closed),
  )
  moved-answer (Err (Range ats.Whole)) f =
      (refl, refl, zone_of (fresh x.vars made), (on, applied-is), too-large-if x.vars made moved.closed f)
  moved-answer (Err (Range (ats.Polar i k))) f = absurd f
  moved-answer (Err (Range (ats.Kept k))) f = absurd f
  moved-answer (Err (Limit at)) f = absurd f
  moved-answer (Err NoMemory) f = absurd f

module _ (x other : ZoneList) (vars : other.vars ≡ x.vars) (made : Option (List Bound))
    (met : IsMet x.vars (matrix_if x.vars x.bounds) (matrix_if other.vars other.bounds) made) where
  joined-is : Joined (zone_of x) (zone_of other) (zone_of (fresh x.vars made))
  joined-is = record {
    vars = refl;
    other_vars = vars;
    value = normal-if x.vars made met.closed;
    join = met.join;
    kept = refl;
  }

  -- the join of two zones
  pub met-answer : (result : Result ZoneList DomErr) → IsFitted x.vars made result
      → IsAnswer zone_lists (Join x other) result
  met-answer (Ok y) f = (
    λ cause at r. small-if x.vars made f.1 (subst IsTooLarge
        (joined-one (zone_of x) (zone_of other) r.2 (zone_of (fresh x.vars made)) r.3 joined-is) r.4),
    subst (λ y. Joined (zone_of x) (zone_of other) (zone_of y) × IsListed y) (sym f.0)
        (joined-is, fresh-listed x.vars made met.closed),
  )
  met-answer (Err (Range ats.Whole)) f =
      (refl, refl, zone_of (fresh x.vars made), joined-is, too-large-if x.vars made met.closed f)
  met-answer (Err (Range (ats.Polar i k))) f = absurd f
  met-answer (Err (Range (ats.Kept k))) f = absurd f
  met-answer (Err (Limit at)) f = absurd f
  met-answer (Err NoMemory) f = absurd f

-- a zone that is widened by another which leaves it: the kept bounds, and the closed matrix of their zone
module _ (x next : ZoneList) (same_vars : next.vars ≡ x.vars) (old : Matrix)
    (old_is : matrix_if x.vars x.bounds ≡ Some old)
    (sound : IsClosed x.vars (InZone x.vars (basis old (matrix_if x.vars x.kept))) old)
    (leaves : ((s : State) → Has x.vars (matrix_if next.vars next.bounds) s → InZone x.vars old s) → ⊥)
    (bounds kept : List Bound) (table : IsTable (suc x.vars) bounds) (kept_table : IsTable (suc x.vars) kept)
    (stays : IsKept x.vars (Has x.vars (matrix_if next.vars next.bounds)) (basis old (matrix_if x.vars x.kept))
    (matrix_in x.vars kept))
    (closed : IsClosed x.vars (InZone x.vars (matrix_in x.vars kept)) (matrix_in x.vars bounds)) where
  abbrev widened-is : Widened (zone_of x) (zone_of next) (zone_of (keeping x.vars bounds kept))
  widened-is = record {
    old = old;
    bounds = matrix_in x.vars bounds;
    keeps = matrix_in x.vars kept;
    vars = refl;
    next_vars = same_vars;
    old_is = old_is;
    bounds_is = refl;
    keeps_is = refl;
    sound = sound;
    leaves = leaves;
    widened = record { stays = stays; closed = closed };
    normal_bounds = matrix-normal x.vars bounds;
    normal_keeps = matrix-normal x.vars kept;
  }

  pub widened-answer : (result : Result ZoneList DomErr)
      → IsFittedWith x.vars bounds kept (numbers x.vars (matrix_in x.vars kept)) result
      → IsAnswer zone_lists (Widen x next) result
  widened-answer (Ok y) f = (
    λ cause at r. not-too_large x.vars bounds (zone_of (keeping x.vars bounds kept)) f.1 refl (subst IsTooLarge
        (widened-one (zone_of x) (zone_of next) r.1 (zone_of (keeping x.vars bounds kept)) r.2 widened-is) r.4),
    subst (λ y. Widened (zone_of x) (zone_of next) (zone_of y) × IsListed y) (sym f.0)
        (widened-is, record { bounds = table; kept = kept_table }),
  )
  widened-answer (Err (Range (ats.Kept k))) f = (
    refl,
    zone_of (keeping x.vars bounds kept),
    widened-is,
    ap Kept f.0,
    too-large x.vars bounds (zone_of (keeping x.vars bounds kept)) table refl f.1,
  )
  widened-answer (Err (Range ats.Whole)) f = absurd f
  widened-answer (Err (Range (ats.Polar i k))) f = absurd f
  widened-answer (Err (Limit at)) f = absurd f
  widened-answer (Err NoMemory) f = absurd f
