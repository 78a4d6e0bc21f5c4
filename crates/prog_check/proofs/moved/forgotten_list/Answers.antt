use Rattle.std.proofs.Common.{◌≡◌, ◌^◌, [], ◌∷◌, ◌++◌, length, ap, sym, ◌∙◌, subst, arith}
use Rattle.trop_theory.specs.Vectors.{rows_size, AreWide}
use Rattle.cone_reports.specs.EdgeLists.{unit_row}
use Rattle.prog_check.proofs.Lists.{forgotten_wide, forgotten_small, forgotten_few}
use Rattle.prog_check.proofs.moved.forgotten_list.Goals as goal

pub from_rows-requires-clause-room : goal.from_rows-requires-clause-room
from_rows-requires-clause-room g c =
    let R = g.S.Scalar.ring in
    let whole : c.push.new.self.items ≡ c.in_ok-rows.rows.items ++ unit_row R c.n-n.result c.args.var ∷ [] =
    c.in_ok-push.ensures.items ∙ ap (λ u. c.in_ok-rows.rows.items ++ u ∷ []) c.in_ok-unit.ensures.entries in
    omega (
      arith,
      forgotten_few g.met.S.Scalar.ring_laws c.n-n.result c.args.var c.as_slice.result.now c.in_ok-rows.rows.items
          c.push.new.self.items c.in_ok-rows.ensures whole,
      ap length c.as_slice.ensures.rows,
      c.requires.few,
    )

pub from_rows-requires-clause-wide : goal.from_rows-requires-clause-wide
from_rows-requires-clause-wide g c =
    let R = g.S.Scalar.ring in
    let whole : c.push.new.self.items ≡ c.in_ok-rows.rows.items ++ unit_row R c.n-n.result c.args.var ∷ [] =
    c.in_ok-push.ensures.items ∙ ap (λ u. c.in_ok-rows.rows.items ++ u ∷ []) c.in_ok-unit.ensures.entries in
    let wide : AreWide c.n-n.result c.as_slice.result.now =
    subst (λ k. AreWide k c.as_slice.result.now) (sym c.n-n.ensures.value)
    (subst (AreWide c.args.gens.now.n) (sym c.as_slice.ensures.rows) c.as_slice.ensures.wide) in
    forgotten_wide g.met.S.Scalar.ring_laws c.n-n.result c.args.var c.as_slice.result.now c.in_ok-rows.rows.items
    c.push.new.self.items (omega (arith, c.requires.within, c.n-n.ensures.value)) wide c.in_ok-rows.ensures whole

pub returns-clause-size : goal.returns-clause-size
returns-clause-size g c =
    let R = g.S.Scalar.ring in
    let whole : c.push.new.self.items ≡ c.in_ok-rows.rows.items ++ unit_row R c.n-n.result c.args.var ∷ [] =
    c.in_ok-push.ensures.items ∙ ap (λ u. c.in_ok-rows.rows.items ++ u ∷ []) c.in_ok-unit.ensures.entries in
    omega (
      arith,
      ap (rows_size R) c.from_rows.ensures.rows,
      forgotten_small g.met.S.Scalar.ring_laws c.n-n.result c.args.var c.as_slice.result.now c.in_ok-rows.rows.items
          c.push.new.self.items (2 ^ 41) (omega (arith, ap (rows_size R) c.as_slice.ensures.rows, c.requires.size))
          c.in_ok-rows.ensures whole,
    )
