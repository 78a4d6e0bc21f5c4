use Rattle.std.proofs.Common.{◌<◌, ◌++◌, [], length, ap, sym, ◌∙◌, subst, arith}
use Rattle.std.specs.Prelude.{All}
use Rattle.std.proofs.lemmas.List.{append-nil}
use Rattle.trop_theory.specs.Vectors.{AreWide}
use Rattle.trop_dd.specs.Description.{Describes}
use Rattle.trop_dd.specs.Carried.{found_rows}
use Rattle.trop_dd.proofs.Pushes.{described_wide}
use Rattle.trop_dd.proofs.conversion.Conversion.rows.Goals as goal

pub copied_all-requires : goal.copied_all-requires
copied_all-requires g c =
    let sides = c.self.inside.sides.items in
    subst (λ s. All (λ k. k < length (s ++ c.as_slice-2.result.now)) c.as_slice-3.result.now)
    (sym c.as_slice.ensures.value)
    (subst (λ f. All (λ k. k < length (sides ++ f)) c.as_slice-3.result.now)
    (sym (c.as_slice-2.ensures.value ∙ c.new-fresh.ensures.items))
    (subst (All (λ k. k < length (sides ++ []))) (sym c.as_slice-3.ensures.value)
    (subst (λ s. All (λ k. k < length s) c.self.inside.order.items) (sym (append-nil sides))
    c.self.invariant.1.numbers.within)))

pub from_rows-requires : goal.from_rows-requires
from_rows-requires g c =
    let sides = c.self.inside.sides.items in
    let read = ap (λ s. found_rows s c.as_slice-2.result.now c.as_slice-3.result.now) c.as_slice.ensures.value
    ∙ ap (λ f. found_rows sides f c.as_slice-3.result.now) (c.as_slice-2.ensures.value ∙ c.new-fresh.ensures.items)
    ∙ ap (found_rows sides []) c.as_slice-3.ensures.value in
    let e = c.in_ok-rows.ensures ∙ read in
    record {
      at_least = c.n.ensures.at_least;
      at_most = c.n.ensures.at_most;
      room = omega (arith, ap length e, c.self.invariant.0.described.within);
      wide = subst (AreWide c.n.result) (sym e) (described_wide g.S.Scalar.ring c.self.inside.system.n c.n.result
          c.self.inside.system.inequalities (found_rows sides [] c.self.inside.order.items) c.n.ensures.value
          c.self.invariant.0.described);
    }

pub returns-clause-rows : goal.returns-clause-rows
returns-clause-rows g c =
    let sides = c.self.inside.sides.items in
    let read = ap (λ s. found_rows s c.as_slice-2.result.now c.as_slice-3.result.now) c.as_slice.ensures.value
    ∙ ap (λ f. found_rows sides f c.as_slice-3.result.now) (c.as_slice-2.ensures.value ∙ c.new-fresh.ensures.items)
    ∙ ap (found_rows sides []) c.as_slice-3.ensures.value in
    c.from_rows.ensures.rows ∙ c.in_ok-rows.ensures ∙ read ∙ ap (λ dd. dd.rows) c.self.view_is

pub returns-clause-described : goal.returns-clause-described
returns-clause-described g c = subst (λ dd. Describes g.S.Scalar.ring dd.n dd.system dd.rows) c.self.view_is
    c.self.invariant.0.described
