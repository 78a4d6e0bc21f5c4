use Rattle.std.proofs.Common.{◌≡◌, ◌++◌, suc, map, ◌∙◌, subst, arith}
use Rattle.trop_theory.specs.MaxPlus.{max_ring, max_numbering}
use Rattle.zone_theory.specs.Limits.{row}
use Rattle.zone_theory.specs.Embedding.{inequality}
use Rattle.zone_lists.specs.Zones.{matrix_in}
use Rattle.dom_zone.proofs.Listing.{row-room, row-longer}
use Rattle.dom_zone.proofs.embedding.push_row.Goals as goal

pub push_bound-requires-clause-room : goal.push_bound-requires-clause-room
push_bound-requires-clause-room c = row-room (inequality max_ring max_numbering (suc c.args.vars))
    (matrix_in c.args.vars c.args.bounds.now) c.args.i c.loop-j.j c.args.out.now.inequalities c.loop-j.out.inequalities
    c.loop-j.invariant.1 c.requires.room (omega arith)

pub loop-j-preserved : goal.loop-j-preserved
loop-j-preserved c = (
  c.push_bound.ensures.same ∙ c.loop-j.invariant.0,
  row-longer (inequality max_ring max_numbering (suc c.args.vars)) (matrix_in c.args.vars c.args.bounds.now) c.args.i
      c.loop-j.j c.args.out.now.inequalities c.loop-j.out.inequalities c.push_bound.new.out.inequalities
      c.loop-j.invariant.1 c.in_ok-push_bound.ensures.list,
)

pub returns-clause-list : goal.returns-clause-list
returns-clause-list c = let e : c.loop-j.j ≡ suc c.args.vars = omega arith in
    subst (λ k. c.loop-j.out.inequalities ≡ c.args.out.now.inequalities
    ++ map (inequality max_ring max_numbering (suc c.args.vars))
    (row (matrix_in c.args.vars c.args.bounds.now) c.args.i k)) e
    c.loop-j.invariant.1
