use Rattle.std.proofs.Common.{◌≤◌, ◌*◌, ◌-◌, refl, sym, subst}
use Rattle.trop_theory.specs.Vectors.{rows_size}
use Rattle.trop_theory.specs.Inequalities.{Solves, system_size}
use Rattle.trop_criterion.specs.SizeBound.{HaveSpread}
use Rattle.trop_cones.proofs.Sizes.{rows_size-each}
use Rattle.trop_dd.specs.Description.{IsStoppedBy}
use Rattle.trop_poly.proofs.Kept.{represents_as, represents_itself_as, represents_description}
use Rattle.trop_poly.proofs.poly.Poly.from_system.Goals as goal

pub from_canonical-requires : goal.from_canonical-requires
from_canonical-requires g c =
    let R = g.S.Scalar.ring in
    let n = c.args.system.now.n in
    let system = c.args.system.now.inequalities in
    represents_itself_as R n c.in-Ok.rows.n (Solves R n system) c.in-Ok.rows.rows c.in-Ok.rows.rows
    c.in-Ok.ensures.width refl (represents_description R n system c.in-Ok.rows.rows c.in-Ok.ensures.described)

pub returns-in-Ok-clause-holds : goal.returns-in-Ok-clause-holds
returns-in-Ok-clause-holds g c =
    let R = g.S.Scalar.ring in
    let n = c.args.system.now.n in
    let system = c.args.system.now.inequalities in
    represents_as R n n (Solves R n system) (Solves R n system) c.in-Ok.rows.rows c.from_canonical.result.rows refl
    c.from_canonical.ensures.rows (λ x. (λ h. h, λ h. h))
    (represents_description R n system c.in-Ok.rows.rows c.in-Ok.ensures.described)

pub returns-in-Ok-clause-small : goal.returns-in-Ok-clause-small
returns-in-Ok-clause-small g c =
    let R = g.S.Scalar.ring in
    let bound = 4 * system_size R c.args.system.now.inequalities * (c.args.system.now.n - 1) in
    subst (λ rows. rows_size R rows ≤ bound) (sym c.from_canonical.ensures.rows)
    (rows_size-each g.met.S.Scalar.ring_laws c.in-Ok.rows.rows bound c.in-Ok.ensures.small)

pub returns-in-Ok-clause-spread : goal.returns-in-Ok-clause-spread
returns-in-Ok-clause-spread g c =
    let R = g.S.Scalar.ring in
    subst (HaveSpread R (4 * system_size R c.args.system.now.inequalities * (c.args.system.now.n - 1)))
    (sym c.from_canonical.ensures.rows) c.in-Ok.ensures.spread

pub returns-in-Ok-clause-unstopped : goal.returns-in-Ok-clause-unstopped
returns-in-Ok-clause-unstopped g c k stop = c.in-Ok.ensures.within k stop.within stop.over

pub returns-in-Err-Limit-clause-refused : goal.returns-in-Err-Limit-clause-refused
returns-in-Err-Limit-clause-refused g c =
    let at = subst (IsStoppedBy g.S.Scalar.ring c.args.system.now.n c.args.system.now.inequalities)
    c.in-Err-Limit.field-0-is c.in-Err-Limit.ensures.stopped in
    record { within = at.0; over = at.1; least = at.2 }
