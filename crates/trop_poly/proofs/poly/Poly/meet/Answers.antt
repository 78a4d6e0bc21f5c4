use Rattle.std.proofs.Common.{◌≡◌, ◌≤◌, ◌*◌, ◌-◌, ◌^◌, ℕ, refl, sym, ap, ◌∙◌, subst, arith}
use Rattle.std.specs.Prelude.{IfOk, IfErr, OnOk}
use Rattle.std.proofs.lemmas.Result.{IfOk-weaker, IfErr-weaker}
use Rattle.std.proofs.Math.Nat.{mul-le-mul_left}
use Rattle.trop_theory.specs.Vectors.{rows_size, AreWide}
use Rattle.trop_theory.specs.Inequalities.{Solves, system_size}
use Rattle.trop_theory.specs.Combinations.{IsCombination}
use Rattle.trop_cones.specs.Sets.{InMeet}
use Rattle.trop_cones.specs.RowStops.{IsMeetStop}
use Rattle.trop_cones.specs.Represents.{Represents}
use Rattle.trop_duality.specs.PolarStops.{IsPolarStop}
use Rattle.trop_poly.specs.Cones.{Cone, InCone}
use Rattle.trop_poly.specs.Meets.{IsPartRefusal}
use Rattle.trop_poly.specs.Refusals.{IsMeetStopOf, IsMeetRefusal}
use Rattle.trop_poly.proofs.Kept.{cone_is}
use Rattle.trop_poly.proofs.Parts.{polar_refused, unstopped_as, meet_refused, meet_unstopped, meet_whole}
use Rattle.trop_poly.proofs.poly.Poly.meet.Goals as goal

pub returns-in-Err-clause-refused : goal.returns-in-Err-clause-refused
returns-in-Err-clause-refused g c =
    let R = g.S.Scalar.ring in
    polar_refused g.met.S.Scalar.ring_laws c.args.self.now.n c.args.other.now.n
    (InCone R c.args.self.now) c.args.other.now.rows (sym c.requires.width) c.in-Err.err c.in-Err.ensures.refused

pub part_of-requires-clause-kept : goal.part_of-requires-clause-kept
part_of-requires-clause-kept g c =
    let R = g.S.Scalar.ring in
    let p = c.args.self.now in
    let here = cone_is c.rows.result.now.n c.rows.result.now.rows p c.rows.ensures.width c.rows.ensures.rows in
    let kept : Represents R p.n (InCone R p) p.rows =
    record { canonical = c.rows.ensures.canonical; generates = λ x. (λ h. h, λ h. h); within = c.rows.ensures.few }
    in
    subst (λ q. Represents R q.n (InCone R q) q.rows) (sym here) kept

pub part_of-requires-clause-wide : goal.part_of-requires-clause-wide
part_of-requires-clause-wide g c =
    let here = cone_is c.rows.result.now.n c.rows.result.now.rows c.args.self.now c.rows.ensures.width
    c.rows.ensures.rows in
    subst (λ q. AreWide q.n q.rows) (sym here) c.rows.ensures.wide

pub part_of-requires-clause-coefficients : goal.part_of-requires-clause-coefficients
part_of-requires-clause-coefficients g c =
    let R = g.S.Scalar.ring in
    let s = rows_size R c.args.other.now.rows in
    let n = c.args.other.now.n in
    let few : n - 1 ≤ 63 = omega (arith, c.requires.width, c.rows.ensures.at_most) in
    let most : 4 * s * (n - 1) ≤ 4 * s * 63 = mul-le-mul_left {m = n - 1} {n = 63} (4 * s) few in
    omega (arith, c.in-Ok.ensures.small, c.requires.other_size, most)

pub returns-clause-holds : goal.returns-clause-holds
returns-clause-holds g c =
    let R = g.S.Scalar.ring in
    let p = c.args.self.now in
    let q = c.args.other.now in
    let system = c.in-Ok.system.inequalities in
    let here = cone_is c.rows.result.now.n c.rows.result.now.rows p c.rows.ensures.width c.rows.ensures.rows in
    IfOk-weaker c.part_of.result (λ part. Represents R p.n (InMeet (InCone R p) (Solves R p.n system)) part.rows)
    (λ part. Represents R p.n (InMeet (InCone R p) (InCone R q)) part.rows)
    (λ part h. meet_whole g.met.S.Scalar.ring_laws p.n q.n (InCone R p) q.rows
    (sym c.requires.width) system part.rows c.in-Ok.ensures.solutions h)
    (subst (λ r. IfOk c.part_of.result (λ part. Represents R r.n (InMeet (InCone R r) (Solves R r.n system)) part.rows))
    here c.part_of.ensures.holds)

pub returns-clause-unstopped : goal.returns-clause-unstopped
returns-clause-unstopped g c =
    let R = g.S.Scalar.ring in
    let p = c.args.self.now in
    let q = c.args.other.now in
    IfOk-weaker c.part_of.result (λ part. part.n ≡ c.rows.result.now.n)
    (λ _. (i k : ℕ) → IsPolarStop R p.n q.rows i k → ⊥)
    (λ part _. unstopped_as g.met.S.Scalar.ring_laws p.n q.n (InCone R p) q.rows
    (sym c.requires.width) c.in-Ok.ensures.unstopped)
    c.part_of.ensures.width

pub returns-clause-within : goal.returns-clause-within
returns-clause-within g c =
    let R = g.S.Scalar.ring in
    let p = c.args.self.now in
    let q = c.args.other.now in
    let system = c.in-Ok.system.inequalities in
    let here = cone_is c.rows.result.now.n c.rows.result.now.rows p c.rows.ensures.width c.rows.ensures.rows in
    IfOk-weaker c.part_of.result (λ _. (k : ℕ) → IsMeetStop R (InCone R p) p.n system k → ⊥)
    (λ _. (k : ℕ) → IsMeetStopOf R p.n (InCone R p) q.rows k → ⊥)
    (λ part none. meet_unstopped g.met.S.Scalar.ring_laws p.n q.n (InCone R p) q.rows
    (sym c.requires.width) system c.in-Ok.ensures.external none)
    (subst (λ r. OnOk c.part_of.result ((k : ℕ) → IsMeetStop R (InCone R r) r.n system k → ⊥)) here
    c.part_of.ensures.unstopped)

pub returns-clause-refused : goal.returns-clause-refused
returns-clause-refused g c =
    let R = g.S.Scalar.ring in
    let p = c.args.self.now in
    let q = c.args.other.now in
    let system = c.in-Ok.system.inequalities in
    let here = cone_is c.rows.result.now.n c.rows.result.now.rows p c.rows.ensures.width c.rows.ensures.rows in
    IfErr-weaker c.part_of.result (IsPartRefusal R (InCone R p) p.n system) (IsMeetRefusal R p.n (InCone R p) q.rows)
    (λ err h. meet_refused g.met.S.Scalar.ring_laws p.n q.n (InCone R p) q.rows
    (sym c.requires.width) system err c.in-Ok.ensures.unstopped c.in-Ok.ensures.external h)
    (subst (λ r. IfErr c.part_of.result (IsPartRefusal R (InCone R r) r.n system)) here c.part_of.ensures.refused)
