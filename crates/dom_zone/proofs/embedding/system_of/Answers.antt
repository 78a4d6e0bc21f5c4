use Rattle.std.proofs.Common.{◌≡◌, suc, map, ◌∙◌, subst, arith}
use Rattle.trop_theory.specs.MaxPlus.{max_ring, max_numbering}
use Rattle.zone_theory.specs.Limits.{rows}
use Rattle.zone_theory.specs.Embedding.{inequality}
use Rattle.zone_lists.specs.Zones.{matrix_in}
use Rattle.dom_zone.proofs.Listing.{rows-room, rows-longer}
use Rattle.dom_zone.proofs.embedding.system_of.Goals as goal

pub push_row-requires-clause-room : goal.push_row-requires-clause-room
push_row-requires-clause-room c = rows-room (inequality max_ring max_numbering (suc c.args.vars))
    (matrix_in c.args.vars c.args.bounds.now) (suc c.args.vars) c.loop-i.i c.loop-i.out.inequalities
    c.loop-i.invariant.1 (omega arith) (omega arith)

pub loop-i-preserved : goal.loop-i-preserved
loop-i-preserved c = (
  c.push_row.ensures.same ∙ c.loop-i.invariant.0,
  rows-longer (inequality max_ring max_numbering (suc c.args.vars)) (matrix_in c.args.vars c.args.bounds.now)
      (suc c.args.vars) c.loop-i.i c.loop-i.out.inequalities c.push_row.new.out.inequalities c.loop-i.invariant.1
      c.in_ok-push_row.ensures.list,
)

pub returns-clause-list : goal.returns-clause-list
returns-clause-list c = let e : c.loop-i.i ≡ suc c.args.vars = omega arith in
    subst (λ k. c.loop-i.out.inequalities ≡ map (inequality max_ring max_numbering (suc c.args.vars))
    (rows (matrix_in c.args.vars c.args.bounds.now) (suc c.args.vars) k)) e c.loop-i.invariant.1
