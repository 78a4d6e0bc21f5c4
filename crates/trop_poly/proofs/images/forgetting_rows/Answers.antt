use Rattle.std.proofs.Common.{[], ◌∷◌, ◌++◌, map, set, ap, ap₂, ◌∙◌, sym, subst, arith}
use Rattle.trop_theory.specs.Vectors.{bottom, rows_size, AreWide}
use Rattle.trop_theory.specs.Sizes.{most_mixed}
use Rattle.trop_poly.proofs.Generators.{small_forgetting, wide_forgetting, forgetting_rows}
use Rattle.trop_poly.proofs.images.forgetting_rows.Goals as goal

pub from_rows-requires-clause-wide : goal.from_rows-requires-clause-wide
from_rows-requires-clause-wide g c =
    let R = g.S.Scalar.ring in
    let gens = c.args.gens.now in
    let e = c.in_ok-push_unit.ensures ∙ ap₂ (λ a k. a ++ set (bottom R k) c.args.i R.one ∷ [])
    (c.in_ok-rows.ensures ∙ ap (map (λ g. set g c.args.i R.zero)) c.as_slice.ensures.rows) c.n-n.ensures.value in
    subst (AreWide c.n-n.result) (sym e) (subst (λ k.
    AreWide k (map (λ g. set g c.args.i R.zero) gens.rows ++ set (bottom R gens.n) c.args.i R.one ∷ []))
    (sym c.n-n.ensures.value) (wide_forgetting R gens.n c.args.i gens.rows c.as_slice.ensures.wide))

pub returns-clause-size : goal.returns-clause-size
returns-clause-size g c =
    let R = g.S.Scalar.ring in
    let gens = c.args.gens.now in
    let e = c.from_rows.ensures.rows ∙ c.in_ok-push_unit.ensures
    ∙ ap₂ (λ a k. a ++ set (bottom R k) c.args.i R.one ∷ [])
    (c.in_ok-rows.ensures ∙ ap (map (λ g. set g c.args.i R.zero)) c.as_slice.ensures.rows) c.n-n.ensures.value in
    omega (
      arith,
      ap (rows_size R) e,
      small_forgetting g.met.S.Scalar.ring_laws most_mixed gens.n c.args.i gens.rows
          c.requires.size,
    )

pub returns-clause-same : goal.returns-clause-same
returns-clause-same g c x =
    let R = g.S.Scalar.ring in
    let gens = c.args.gens.now in
    let out = c.from_rows.result in
    let e = c.from_rows.ensures.rows ∙ c.in_ok-push_unit.ensures
    ∙ ap₂ (λ a k. a ++ set (bottom R k) c.args.i R.one ∷ [])
    (c.in_ok-rows.ensures ∙ ap (map (λ g. set g c.args.i R.zero)) c.as_slice.ensures.rows) c.n-n.ensures.value in
    forgetting_rows g.met.S.Scalar.ring_laws gens.n out.n out.rows
    (c.from_rows.ensures.width ∙ c.n-n.ensures.value) c.args.i gens.rows c.as_slice.ensures.wide c.requires.within e
    x
