use Rattle.std.proofs.Common.{◌++◌, List, ap, ap₂, ◌∙◌, sym, subst, arith}
use Rattle.std.specs.Prelude.{◌↔◌}
use Rattle.trop_theory.specs.Vectors.{rows_size, AreWide}
use Rattle.trop_theory.specs.Combinations.{IsCombination}
use Rattle.trop_theory.specs.Sizes.{most_mixed}
use Rattle.trop_cones.specs.Sets.{InJoin}
use Rattle.trop_poly.proofs.Generators.{small_join, joined_rows}
use Rattle.trop_poly.proofs.images.joined_rows.Goals as goal

pub returns-clause-size : goal.returns-clause-size
returns-clause-size g c =
    let R = g.S.Scalar.ring in
    let e = c.from_rows.ensures.rows ∙ c.in_ok-rows.ensures
    ∙ ap₂ (λ a b. a ++ b) c.as_slice.ensures.rows c.as_slice-2.ensures.rows in
    omega (
      arith,
      ap (rows_size R) e,
      small_join g.met.S.Scalar.ring_laws most_mixed c.args.first.now.rows
          c.args.second.now.rows c.requires.size c.requires.other_size,
    )

pub returns-clause-same : goal.returns-clause-same
returns-clause-same g c =
    let R = g.S.Scalar.ring in
    let first = c.args.first.now in
    let second = c.args.second.now in
    let out = c.from_rows.result in
    let e = c.from_rows.ensures.rows ∙ c.in_ok-rows.ensures
    ∙ ap₂ (λ a b. a ++ b) c.as_slice.ensures.rows c.as_slice-2.ensures.rows in
    subst (λ k. (x : List _) → IsCombination R out.n out.rows x ↔ InJoin R (IsCombination R first.n first.rows)
    (IsCombination R k second.rows) x) c.requires.width
    (λ x. joined_rows g.met.S.Scalar.ring_laws first.n out.n out.rows
    (c.from_rows.ensures.width ∙ c.n.ensures.value) first.rows second.rows c.as_slice.ensures.wide
    (subst (λ k. AreWide k second.rows) (sym c.requires.width) c.as_slice-2.ensures.wide) e x)
