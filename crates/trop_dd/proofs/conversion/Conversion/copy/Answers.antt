use Rattle.std.proofs.Common.{◌≤◌, ◌^◌, [], length, ap₂, sym, ◌∙◌, subst}
use Rattle.std.specs.Prelude.{All}
use Rattle.trop_theory.specs.Inequalities.{IsIn}
use Rattle.trop_dd.specs.Carried.{found_rows}
use Rattle.trop_dd.proofs.Copies.{same_description, copied_sound}
use Rattle.trop_dd.proofs.Pushes.{carried_as}
use Rattle.trop_dd.proofs.conversion.Conversion.copy.Goals as goal

pub copied_system-requires : goal.copied_system-requires
copied_system-requires g c = record {
  at_least = c.n-n.ensures.at_least;
  at_most = c.n-n.ensures.at_most;
  inside = subst (All (IsIn c.n-n.result)) (sym c.as_slice.ensures.inequalities)
      (subst (λ n. All (IsIn n) c.self.inside.system.inequalities) (sym c.n-n.ensures.value) c.as_slice.ensures.wide);
  room = subst (λ s. length s ≤ 2 ^ 31) (sym c.as_slice.ensures.inequalities) c.as_slice.ensures.room;
}

pub invariant_of-result : goal.invariant_of-result
invariant_of-result g c =
    let sides = c.in_ok-sides.ensures ∙ c.as_slice-2.ensures.value in
    let order = c.in_ok-order.ensures ∙ c.as_slice-3.ensures.value in (
      copied_sound c.self.inside.system.n c.in_ok-system.system.n c.self.inside.system.inequalities
          c.in_ok-system.system.inequalities (found_rows c.self.inside.sides.items [] c.self.inside.order.items)
          (found_rows c.in_ok-sides.sides.items [] c.in_ok-order.order.items)
          (c.in_ok-system.ensures.width ∙ c.n-n.ensures.value)
          (c.in_ok-system.ensures.inequalities ∙ c.as_slice.ensures.inequalities)
          (ap₂ (λ s o. found_rows s [] o) sides order) g.S.Scalar.ring c.self.invariant.0,
      carried_as g.S.Scalar.ring c.self.inside.system.n c.in_ok-system.system.n c.self.inside.system.inequalities
          c.in_ok-system.system.inequalities c.self.inside.sides.items c.in_ok-sides.sides.items
          c.self.inside.order.items c.in_ok-order.order.items (c.in_ok-system.ensures.width ∙ c.n-n.ensures.value)
          (c.in_ok-system.ensures.inequalities ∙ c.as_slice.ensures.inequalities) sides order c.self.invariant.1,
    )

pub returns : goal.returns
returns g c = record {
  same = same_description c.self.inside.system.n c.in_ok-system.system.n c.self.inside.system.inequalities
      c.in_ok-system.system.inequalities (found_rows c.self.inside.sides.items [] c.self.inside.order.items)
      (found_rows c.in_ok-sides.sides.items [] c.in_ok-order.order.items)
      (c.in_ok-system.ensures.width ∙ c.n-n.ensures.value)
      (c.in_ok-system.ensures.inequalities ∙ c.as_slice.ensures.inequalities)
      (ap₂ (λ s o. found_rows s [] o) (c.in_ok-sides.ensures ∙ c.as_slice-2.ensures.value)
      (c.in_ok-order.ensures ∙ c.as_slice-3.ensures.value)) c.args.self.now c.self.view_is;
}
