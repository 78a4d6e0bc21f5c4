use Rattle.std.proofs.Common.{length, sym, ap, ◌∙◌, arith, ap₂}
use Rattle.trop_theory.specs.Vectors.{entry}
use Rattle.trop_theory.proofs.Sizes.{size-entry}
use Rattle.trop_dd.proofs.Mixes.{union_nodes, left_size, right_size, same_lengths, some_node, node_within, sum_at, is_factor}
use Rattle.trop_dd.proofs.mixing.factor.Goals as goal

pub times-first-requires : goal.times-first-requires
times-first-requires g c =
    let within = node_within g.met.S.Scalar.ring_laws c.args.system.now.n c.args.system.now.inequalities c.args.ineq.now
    c.args.v.now c.args.w.now c.args.left c.args.right c.args.slot c.requires.fit c.union.result
    (union_nodes c.args.v.now.words.support c.args.w.now.words.support c.support.result c.support-2.result
    c.union.result c.support.ensures c.support-2.ensures c.union.ensures) c.in-Some.i c.in-Some.ensures.1 in
    omega (
      arith,
      left_size g.met.S.Scalar.ring_laws c.args.system.now.n c.args.system.now.inequalities c.args.ineq.now
          c.args.v.now c.args.w.now c.args.left c.args.right c.args.slot c.requires.fit,
      c.requires.fit.first_size,
      size-entry g.S.Scalar.ring c.args.v.now.row c.in-Some.i g.S.Scalar.ring.zero within,
      ap g.S.Scalar.ring.size (c.get.ensures ∙ ap (λ x. entry g.S.Scalar.ring x c.in-Some.i) c.row.ensures),
    )

pub get-requires-in-Some : goal.get-requires-in-Some
get-requires-in-Some g c =
    let within = node_within g.met.S.Scalar.ring_laws c.args.system.now.n c.args.system.now.inequalities c.args.ineq.now
    c.args.v.now c.args.w.now c.args.left c.args.right c.args.slot c.requires.fit c.union.result
    (union_nodes c.args.v.now.words.support c.args.w.now.words.support c.support.result c.support-2.result
    c.union.result c.support.ensures c.support-2.ensures c.union.ensures) c.in-Some.i c.in-Some.ensures.1 in
    omega (
      arith,
      within,
      same_lengths g.met.S.Scalar.ring_laws c.args.system.now.n c.args.system.now.inequalities
          c.args.ineq.now c.args.v.now c.args.w.now c.args.left c.args.right c.args.slot c.requires.fit,
      ap length c.row-in-Some.ensures,
    )

pub times-second-requires : goal.times-second-requires
times-second-requires g c =
    let within = node_within g.met.S.Scalar.ring_laws c.args.system.now.n c.args.system.now.inequalities c.args.ineq.now
    c.args.v.now c.args.w.now c.args.left c.args.right c.args.slot c.requires.fit c.union.result
    (union_nodes c.args.v.now.words.support c.args.w.now.words.support c.support.result c.support-2.result
    c.union.result c.support.ensures c.support-2.ensures c.union.ensures) c.in-Some.i c.in-Some.ensures.1 in
    omega (
      arith,
      right_size g.met.S.Scalar.ring_laws c.args.system.now.n c.args.system.now.inequalities c.args.ineq.now
          c.args.v.now c.args.w.now c.args.left c.args.right c.args.slot c.requires.fit,
      c.requires.fit.second_size,
      size-entry g.S.Scalar.ring c.args.w.now.row c.in-Some.i g.S.Scalar.ring.zero
          (omega (
            arith,
            within,
            same_lengths g.met.S.Scalar.ring_laws c.args.system.now.n c.args.system.now.inequalities
                c.args.ineq.now c.args.v.now c.args.w.now c.args.left c.args.right c.args.slot c.requires.fit,
          )),
      ap g.S.Scalar.ring.size (c.get-in-Some.ensures
          ∙ ap (λ x. entry g.S.Scalar.ring x c.in-Some.i) c.row-in-Some.ensures),
    )

pub inverse-requires : goal.inverse-requires
inverse-requires g c = λ z. sum_at g.met.S.Scalar.ring_laws c.args.system.now.n c.args.system.now.inequalities
    c.args.ineq.now c.args.v.now c.args.w.now c.args.left c.args.right c.args.slot c.requires.fit c.union.result
    (union_nodes c.args.v.now.words.support c.args.w.now.words.support c.support.result c.support-2.result
    c.union.result c.support.ensures c.support-2.ensures c.union.ensures) c.in-Some.i c.in-Some.ensures.1
    (sym (c.plus.ensures ∙ ap₂ g.S.Scalar.ring.plus
    (c.times-first.ensures ∙ ap (g.S.Scalar.ring.times c.args.left)
    (c.get.ensures ∙ ap (λ x. entry g.S.Scalar.ring x c.in-Some.i) c.row.ensures))
    (c.times-second.ensures ∙ ap (g.S.Scalar.ring.times c.args.right)
    (c.get-in-Some.ensures ∙ ap (λ x. entry g.S.Scalar.ring x c.in-Some.i) c.row-in-Some.ensures))) ∙ z)

pub returns-in-None : goal.returns-in-None
returns-in-None g c = absurd (some_node g.met.S.Scalar.ring_laws c.args.system.now.n c.args.system.now.inequalities
    c.args.ineq.now c.args.v.now c.args.w.now c.args.left c.args.right c.args.slot c.requires.fit c.union.result
    (union_nodes c.args.v.now.words.support c.args.w.now.words.support c.support.result c.support-2.result
    c.union.result c.support.ensures c.support-2.ensures c.union.ensures) c.in-None.ensures)

pub returns-in-Some : goal.returns-in-Some
returns-in-Some g c = is_factor g.met.S.Scalar.ring_laws c.args.system.now.n c.args.system.now.inequalities
    c.args.ineq.now c.args.v.now c.args.w.now c.args.left c.args.right c.args.slot c.requires.fit c.union.result
    (union_nodes c.args.v.now.words.support c.args.w.now.words.support c.support.result c.support-2.result
    c.union.result c.support.ensures c.support-2.ensures c.union.ensures) c.in-Some.i c.in-Some.ensures.1
    c.in-Some.ensures.2 c.inverse.result (c.inverse.ensures ∙ ap g.S.Scalar.ring.inverse
    (c.plus.ensures ∙ ap₂ g.S.Scalar.ring.plus (c.times-first.ensures ∙ ap (g.S.Scalar.ring.times c.args.left)
    (c.get.ensures ∙ ap (λ x. entry g.S.Scalar.ring x c.in-Some.i) c.row.ensures))
    (c.times-second.ensures ∙ ap (g.S.Scalar.ring.times c.args.right)
    (c.get-in-Some.ensures ∙ ap (λ x. entry g.S.Scalar.ring x c.in-Some.i) c.row-in-Some.ensures))))
