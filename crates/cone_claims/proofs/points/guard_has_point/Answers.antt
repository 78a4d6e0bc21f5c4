use Rattle.std.proofs.Common.{◌≡◌, inl, inr, ⊎_elim, sym, ◌∙◌, subst, true, false, true≢false, Bool, List}
use Rattle.std.specs.Prelude.{◌↔◌, ◌⊎◌, Any, IsTrue}
use Rattle.cone_claims.specs.Points.{IsKeptPoint, IsDroppedPoint, HasRight}
use Rattle.cone_claims.proofs.Proven.{guard_rows}
use Rattle.cone_claims.proofs.points.guard_has_point.Goals as goal

-- what was found in a list, of the same list
found : {X : Type 0} (P : X → Type 0) (b : Bool) (list rows : List X) → list ≡ rows → IsTrue b ↔ Any P list →
    IsTrue b ↔ Any P rows
found P b list rows same h = subst (λ l. IsTrue b ↔ Any P l) same h

-- where the first way was not found, and the first part of the other one was: the second part decides
other_way : {H K D S : Type 0} (k d s : Bool) → H ↔ (K ⊎ (D × S)) → IsTrue k ↔ K → IsTrue d ↔ D → IsTrue s ↔ S
    → k ≡ false → d ≡ true → IsTrue s ↔ H
other_way k d s r first second third lacks has = (
  λ t. r.1 (inr (second.0 has, third.0 t)),
  λ h. ⊎_elim (λ a. absurd (true≢false (sym (first.1 a) ∙ lacks))) (λ b. third.1 b.1) (r.0 h),
)

-- where neither was found
no_way : {H K D S : Type 0} (k d : Bool) → H ↔ (K ⊎ (D × S)) → IsTrue k ↔ K → IsTrue d ↔ D → k ≡ false → d ≡ false
    → IsTrue d ↔ H
no_way k d r first second lacks fails = (
  λ t. absurd (true≢false (sym t ∙ fails)),
  λ h. ⊎_elim (λ a. absurd (true≢false (sym (first.1 a) ∙ lacks)))
      (λ b. absurd (true≢false (sym (second.1 b.0) ∙ fails))) (r.0 h),
)

pub returns-then-some_shows : goal.returns-then-some_shows
returns-then-some_shows g c =
    let R = g.S.Scalar.ring in
    let p = c.args.ineq.now in
    let r = guard_rows g.met.S.Scalar.ring_laws g.met.S.Numeric.numeric_laws c.args.rows.now.n
    c.as_slice-list.ensures.at_least p c.requires.inside c.args.rows.now.rows c.as_slice-list.ensures.wide in
    let k = found (IsKeptPoint R p) _ _ _ c.as_slice-list.ensures.rows c.some_shows.ensures in
    (λ t. r.1 (inl (k.0 t)), λ h. c.if-some_shows.true)

pub returns-then-some_shows-2 : goal.returns-then-some_shows-2
returns-then-some_shows-2 g c =
    let same = c.as_slice-list.ensures.rows in
    other_way _ _ _
    (guard_rows g.met.S.Scalar.ring_laws g.met.S.Numeric.numeric_laws c.args.rows.now.n c.as_slice-list.ensures.at_least
    c.args.ineq.now c.requires.inside c.args.rows.now.rows c.as_slice-list.ensures.wide)
    (found (IsKeptPoint g.S.Scalar.ring c.args.ineq.now) _ _ _ same c.some_shows.ensures)
    (found (IsDroppedPoint g.S.Scalar.ring c.args.ineq.now) _ _ _ same c.some_shows-else-some_shows.ensures)
    (found (HasRight g.S.Scalar.ring c.args.ineq.now) _ _ _ same c.some_shows-then-some_shows-2.ensures)
    c.if-some_shows.false c.if-some_shows-2.true

pub returns-else-some_shows-2 : goal.returns-else-some_shows-2
returns-else-some_shows-2 g c =
    let R = g.S.Scalar.ring in
    let p = c.args.ineq.now in
    let n = c.args.rows.now.n in
    let rows = c.args.rows.now.rows in
    let list = c.as_slice-list.ensures in
    no_way _ _ (guard_rows g.met.S.Scalar.ring_laws g.met.S.Numeric.numeric_laws n list.at_least p c.requires.inside
    rows
    list.wide) (found (IsKeptPoint R p) _ _ _ list.rows c.some_shows.ensures)
    (found (IsDroppedPoint R p) _ _ _ list.rows c.some_shows-else-some_shows.ensures) c.if-some_shows.false
    c.if-some_shows-2.false
