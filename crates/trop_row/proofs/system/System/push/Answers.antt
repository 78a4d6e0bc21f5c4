use Rattle.std.proofs.Common.{ap, arith, subst, sym}
use Rattle.std.specs.Prelude.{length, All}
use Rattle.std.proofs.lemmas.List.Elements.{All-push}
use Rattle.trop_theory.specs.Inequalities.{IsIn}
use Rattle.trop_row.proofs.system.System.push.Goals as goal

pub invariant_of-self-2 : goal.invariant_of-self-2
invariant_of-self-2 g c = (
  c.self.invariant.0,
  c.self.invariant.1,
  omega (arith, c.in_ok-push.ensures.upper_bound, ap (λ v. length v.inequalities) c.self.view_is, c.requires.room),
  subst (All (IsIn c.self.inside.n)) (sym c.in_ok-push.ensures.items)
      (All-push (IsIn c.self.inside.n) c.self.inside.inequalities.items c.args.ineq c.self.invariant.3
      (subst (λ n. IsIn n c.args.ineq) (sym (ap (λ v. v.n) c.self.view_is)) c.requires.wide)),
)
