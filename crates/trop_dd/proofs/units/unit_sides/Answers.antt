use Rattle.std.proofs.Common.{◌≡◌, ◌+◌, ◌-◌, [], ◌∷◌, ◌++◌, take, length, set, sym, ap, ◌∙◌, arith, subst}
use Rattle.std.proofs.lemmas.List.{take_all, take_more}
use Rattle.trop_theory.specs.Vectors.{bottom}
use Rattle.trop_pruning.specs.Judged.{IsSide}
use Rattle.trop_dd.specs.Carried.{AreBeside}
use Rattle.trop_dd.proofs.Splits.{carried_push, carried_none}
use Rattle.trop_dd.proofs.units.unit_sides.Goals as goal

pub loop-k-init : goal.loop-k-init
loop-k-init g c = subst (AreBeside g.S.Scalar.ring c.args.n [] []) (sym c.in_ok-sides.ensures.items)
    (carried_none g.S.Scalar.ring c.args.n [])

pub unit_side-requires : goal.unit_side-requires
unit_side-requires g c =
    let wide : length c.index-rows-k.result ≡ c.args.n =
    ap length c.index-rows-k.is ∙ c.requires.wide c.loop-k.k c.index-rows-k.result (omega arith) in
    record {
      within = omega (arith, wide);
      at_most = omega (arith, wide, c.requires.at_most);
      unit = subst (λ m. c.index-rows-k.result ≡ set (bottom g.S.Scalar.ring m)
          (c.args.n - 1 - c.loop-k.k) g.S.Scalar.ring.one) (sym wide)
          (c.index-rows-k.is ∙ c.requires.order c.loop-k.k c.index-rows-k.result (omega arith));
    }

pub loop-k-preserved : goal.loop-k-preserved
loop-k-preserved g c =
    let at = c.index-rows-k.is in
    let row = c.in_ok-unit_side.ensures.row ∙ at in
    let side = subst (λ m. IsSide g.S.Scalar.ring m [] c.in_ok-unit_side.field-0)
    (ap length at ∙ c.requires.wide c.loop-k.k c.index-rows-k.result (omega arith)) c.in_ok-unit_side.ensures.side
    in
    subst (AreBeside g.S.Scalar.ring c.args.n [] (take (c.loop-k.k + 1) c.args.rows.now))
    (sym c.in_ok-push.ensures.items)
    (subst (λ rows. AreBeside g.S.Scalar.ring c.args.n [] rows
    (c.loop-k.sides.items ++ c.in_ok-unit_side.field-0 ∷ []))
    (ap (λ x. take c.loop-k.k c.args.rows.now ++ x ∷ []) row
    ∙ sym (take_more c.args.rows.now c.loop-k.k c.index-rows-k.result (omega arith)))
    (carried_push g.S.Scalar.ring c.args.n [] (take c.loop-k.k c.args.rows.now) c.loop-k.sides.items
    c.in_ok-unit_side.field-0 c.loop-k.invariant side))

pub returns : goal.returns
returns g c =
    let all : c.loop-k.k ≡ length c.args.rows.now = omega arith in
    subst (λ rows. AreBeside g.S.Scalar.ring c.args.n [] rows c.loop-k.sides.items)
    (take_all c.loop-k.k c.args.rows.now (omega (arith, all))) c.loop-k.invariant
