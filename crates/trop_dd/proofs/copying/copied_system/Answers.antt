use Rattle.std.proofs.Common.{length, ap, ◌∙◌, sym, subst, arith}
use Rattle.std.proofs.lemmas.List.{take_all, length-take}
use Rattle.trop_theory.specs.Inequalities.{IsIn}
use Rattle.trop_dd.proofs.Conversions.{same_inequality}
use Rattle.trop_dd.proofs.Copies.{copied_more}
use Rattle.trop_dd.proofs.copying.copied_system.Goals as goal

pub push-requires : goal.push-requires
push-requires g c = record {
  wide = subst (λ n. IsIn n c.in_ok-copy.field-0) (sym c.loop-ineq.invariant.width)
      (subst (IsIn c.args.n) (sym ((same_inequality c.in_ok-copy.field-0 c.ineq-item.result c.in_ok-copy.ensures.left
      c.in_ok-copy.ensures.right) ∙ c.ineq-item.is))
      (c.requires.inside c.loop-ineq.ineq-index c.ineq-item.result (omega arith)));
  room = omega (
    arith,
    ap length c.loop-ineq.invariant.same,
    length-take c.loop-ineq.ineq-index c.args.inequalities.now,
    c.requires.room,
  );
}

pub loop-ineq-preserved : goal.loop-ineq-preserved
loop-ineq-preserved g c = record {
  width = c.in_ok-push.ensures.width ∙ c.loop-ineq.invariant.width;
  same = copied_more c.args.inequalities.now c.loop-ineq.copies.inequalities c.push.new.self.inequalities
      c.loop-ineq.ineq-index c.ineq-item.result c.in_ok-copy.field-0 (omega arith) c.ineq-item.is
      (same_inequality c.in_ok-copy.field-0 c.ineq-item.result c.in_ok-copy.ensures.left c.in_ok-copy.ensures.right)
      c.loop-ineq.invariant.same c.in_ok-push.ensures.ok;
}

pub returns-clause-inequalities : goal.returns-clause-inequalities
returns-clause-inequalities g c = c.loop-ineq.invariant.same ∙ take_all c.loop-ineq.ineq-index c.args.inequalities.now
    (omega arith)
