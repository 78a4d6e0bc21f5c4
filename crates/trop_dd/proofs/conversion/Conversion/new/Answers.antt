use Rattle.std.proofs.Common.{rules, ◌≡◌, [], length, refl, sym, ap, ◌∙◌, subst, arith}
use Rattle.std.specs.Prelude.{All}
use Rattle.trop_dd.specs.Description.{Describes}
use Rattle.trop_dd.specs.Units.{IsUnitRow}
use Rattle.trop_dd.specs.Numbers.{AreNumbers}
use Rattle.trop_dd.specs.Carried.{found_rows}
use Rattle.trop_dd.proofs.Numbers.{found_itself}
use Rattle.trop_dd.proofs.Pushes.{first_sound, carried_as}
use Rattle.trop_dd.proofs.conversion.Conversion.new.Goals as goal

pub invariant_of-result : goal.invariant_of-result
invariant_of-result g c =
    let sides = c.in_ok-sides.sides.items in
    let order = c.in_ok-order.order.items in
    let many : c.len.result ≡ length sides = search rules in
    let same : found_rows sides [] order ≡ c.in_ok-rows.rows.items = found_itself sides order
    (c.in_ok-order.ensures.count ∙ many) (λ k l. c.in_ok-order.ensures.same k (omega (arith, l, many)))
    ∙ c.in_ok-sides.ensures.same ∙ c.as_slice.ensures.value in (
      first_sound g.S.Scalar.ring c.args.n c.new.result.n c.new.result.inequalities (found_rows sides [] order)
          c.requires.at_least c.requires.at_most c.new.ensures.width c.new.ensures.inequalities
          (subst (Describes g.S.Scalar.ring c.args.n []) (sym same) c.in_ok-rows.ensures.described),
      carried_as g.S.Scalar.ring c.args.n c.new.result.n [] c.new.result.inequalities sides sides order order
          c.new.ensures.width c.new.ensures.inequalities refl refl (record {
            each = c.in_ok-sides.ensures.each;
            numbers = subst (λ m. AreNumbers m order) many c.in_ok-order.ensures.numbers;
          }),
    )

pub returns-clause-described : goal.returns-clause-described
returns-clause-described g c =
    let sides = c.in_ok-sides.sides.items in
    let order = c.in_ok-order.order.items in
    let many : c.len.result ≡ length sides = search rules in
    let same : found_rows sides [] order ≡ c.in_ok-rows.rows.items = found_itself sides order
    (c.in_ok-order.ensures.count ∙ many) (λ k l. c.in_ok-order.ensures.same k (omega (arith, l, many)))
    ∙ c.in_ok-sides.ensures.same ∙ c.as_slice.ensures.value in
    subst (Describes g.S.Scalar.ring c.args.n []) (sym same) c.in_ok-rows.ensures.described

pub returns-clause-units : goal.returns-clause-units
returns-clause-units g c =
    let sides = c.in_ok-sides.sides.items in
    let order = c.in_ok-order.order.items in
    let many : c.len.result ≡ length sides = search rules in
    let same : found_rows sides [] order ≡ c.in_ok-rows.rows.items = found_itself sides order
    (c.in_ok-order.ensures.count ∙ many) (λ k l. c.in_ok-order.ensures.same k (omega (arith, l, many)))
    ∙ c.in_ok-sides.ensures.same ∙ c.as_slice.ensures.value in
    subst (All (IsUnitRow g.S.Scalar.ring c.args.n)) (sym same) c.in_ok-rows.ensures.units

pub returns-clause-count : goal.returns-clause-count
returns-clause-count g c =
    let sides = c.in_ok-sides.sides.items in
    let order = c.in_ok-order.order.items in
    let many : c.len.result ≡ length sides = search rules in
    let same : found_rows sides [] order ≡ c.in_ok-rows.rows.items = found_itself sides order
    (c.in_ok-order.ensures.count ∙ many) (λ k l. c.in_ok-order.ensures.same k (omega (arith, l, many)))
    ∙ c.in_ok-sides.ensures.same ∙ c.as_slice.ensures.value in
    ap length same ∙ c.in_ok-rows.ensures.count
