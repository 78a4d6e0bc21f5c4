use Rattle.std.proofs.Common.{map, ap, ◌∙◌, sym, subst, arith}
use Rattle.trop_theory.specs.Vectors.{rows_size, AreWide}
use Rattle.trop_theory.specs.Sizes.{most_mixed}
use Rattle.trop_cones.specs.Sets.{assigned}
use Rattle.trop_poly.proofs.Generators.{small_assigned, wide_assigned, assigned_rows}
use Rattle.trop_poly.proofs.images.assigned_rows.Goals as goal

pub from_rows-requires-clause-wide : goal.from_rows-requires-clause-wide
from_rows-requires-clause-wide g c =
    let R = g.S.Scalar.ring in
    let gens = c.args.gens.now in
    let e = c.in_ok-rows.ensures ∙ ap (map (assigned R c.args.i c.args.from c.args.c)) c.as_slice.ensures.rows in
    subst (AreWide c.n-n.result) (sym e) (subst (λ k.
    AreWide k (map (assigned R c.args.i c.args.from c.args.c) gens.rows)) (sym c.n-n.ensures.value)
    (wide_assigned R gens.n c.args.i c.args.from c.args.c gens.rows c.as_slice.ensures.wide))

pub returns-clause-size : goal.returns-clause-size
returns-clause-size g c =
    let R = g.S.Scalar.ring in
    let e = c.from_rows.ensures.rows ∙ c.in_ok-rows.ensures
    ∙ ap (map (assigned R c.args.i c.args.from c.args.c)) c.as_slice.ensures.rows in
    omega (
      arith,
      ap (rows_size R) e,
      small_assigned g.met.S.Scalar.ring_laws most_mixed c.args.i c.args.from c.args.c
          c.args.gens.now.rows c.requires.size,
    )

pub returns-clause-same : goal.returns-clause-same
returns-clause-same g c x =
    let R = g.S.Scalar.ring in
    let gens = c.args.gens.now in
    let out = c.from_rows.result in
    let e = c.from_rows.ensures.rows ∙ c.in_ok-rows.ensures
    ∙ ap (map (assigned R c.args.i c.args.from c.args.c)) c.as_slice.ensures.rows in
    assigned_rows g.met.S.Scalar.ring_laws gens.n out.n out.rows (c.from_rows.ensures.width ∙ c.n-n.ensures.value)
    c.args.i c.args.from c.args.c gens.rows c.as_slice.ensures.wide e x
