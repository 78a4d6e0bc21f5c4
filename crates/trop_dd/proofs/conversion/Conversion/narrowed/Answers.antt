use Rattle.std.proofs.Common.{◌≡◌, ◌++◌, [], ◌∷◌, true, refl, sym, ap, ◌∙◌, subst}
use Rattle.trop_theory.specs.Inequalities.{IsIn}
use Rattle.trop_dd.specs.Carried.{found_rows}
use Rattle.trop_dd.proofs.Copies.{copied_sound}
use Rattle.trop_dd.proofs.Narrowings.{match_rows}
use Rattle.trop_dd.proofs.Pushes.{next_from_sound, pushed_sound, carried_as, described_within, counts_same}
use Rattle.trop_dd.proofs.conversion.Conversion.narrowed.Goals as goal

pub narrow-requires : goal.narrow-requires
narrow-requires g c = record {
  next = next_from_sound g.S.Scalar.ring c.self.inside.system.n c.reserve.new.self.n c.self.inside.system.inequalities
      c.reserve.new.self.inequalities c.args.ineq c.self.inside.sides.items c.self.inside.order.items
      c.reserve.ensures.width c.reserve.ensures.inequalities c.self.invariant.0 c.self.invariant.1
      (subst (λ n. IsIn n c.args.ineq) (sym (ap (λ dd. dd.n) c.self.view_is)) c.requires.wide) c.requires.size;
}

pub invariant_of-self-2 : goal.invariant_of-self-2
invariant_of-self-2 g c =
    let before = found_rows c.self.inside.sides.items [] c.self.inside.order.items in
    let now = found_rows c.narrow.new.sides.items [] c.narrow.new.order.items in (
      pushed_sound g.S.Scalar.ring c.reserve.new.self.n c.reserve.new.self.inequalities c.args.ineq before
          (copied_sound c.self.inside.system.n c.reserve.new.self.n c.self.inside.system.inequalities
          c.reserve.new.self.inequalities before before c.reserve.ensures.width c.reserve.ensures.inequalities refl
          g.S.Scalar.ring c.self.invariant.0)
          (subst (λ n. IsIn n c.args.ineq) (sym (c.reserve.ensures.width ∙ ap (λ dd. dd.n) c.self.view_is))
          c.requires.wide)
          c.requires.size c.push.new.self.n c.push.new.self.inequalities now now c.in_ok-push.ensures.width
          c.in_ok-push.ensures.ok c.in_ok-found.ensures.described refl,
      carried_as g.S.Scalar.ring c.reserve.new.self.n c.push.new.self.n
          (c.reserve.new.self.inequalities ++ c.args.ineq ∷ []) c.push.new.self.inequalities
          c.narrow.new.sides.items c.narrow.new.sides.items c.narrow.new.order.items c.narrow.new.order.items
          c.in_ok-push.ensures.width c.in_ok-push.ensures.ok refl refl
          (record { each = c.in_ok-found.ensures.each; numbers = c.in_ok-found.ensures.numbers }),
    )

pub returns-clause-within : goal.returns-clause-within
returns-clause-within g c = described_within g.S.Scalar.ring c.args.self.now.n c.reserve.new.self.n
    (c.reserve.new.self.inequalities ++ c.args.ineq ∷ []) (c.args.self.now.system ++ c.args.ineq ∷ [])
    (found_rows c.narrow.new.sides.items [] c.narrow.new.order.items)
    (c.reserve.ensures.width ∙ ap (λ dd. dd.n) c.self.view_is)
    (ap (λ s. s ++ c.args.ineq ∷ []) (c.reserve.ensures.inequalities ∙ ap (λ dd. dd.system) c.self.view_is))
    c.in_ok-found.ensures.described

pub returns-clause-counts : goal.returns-clause-counts
returns-clause-counts g c =
    let now = found_rows c.narrow.new.sides.items [] c.narrow.new.order.items in
    counts_same g.S.Scalar.ring (found_rows c.self.inside.sides.items [] c.self.inside.order.items) now
    c.args.self.now.rows now c.args.looks.now c.narrow.new.looks (ap (λ dd. dd.rows) c.self.view_is) refl
    c.in_ok-found.ensures.counts

pub returns-clause-copies : goal.returns-clause-copies
returns-clause-copies g c =
    let before = found_rows c.self.inside.sides.items [] c.self.inside.order.items in
    let now = found_rows c.narrow.new.sides.items [] c.narrow.new.order.items in
    match_rows c.in_ok-found.found (c.args.copies ≡ true → now ≡ before)
    (c.args.copies ≡ true → now ≡ c.args.self.now.rows) (λ rows. rows.items ≡ now) (λ rows. rows.items ≡ now)
    (λ h t. h t ∙ ap (λ dd. dd.rows) c.self.view_is) (λ rows h. h) c.in_ok-found.ensures.rows
