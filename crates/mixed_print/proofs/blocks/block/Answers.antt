use Rattle.std.proofs.Common.{◌∙◌, ◌++◌, length, ap, arith}
use Rattle.std.specs.Prelude.{codes}
use Rattle.mixed_print.proofs.Listed.{no_rows, block_empty, block_listed, listed_text}
use Rattle.mixed_print.proofs.blocks.block.Goals as goal

pub returns-then-len-eq0-clause-made : goal.returns-then-len-eq0-clause-made
returns-then-len-eq0-clause-made c =
    let same = c.rows-rows.ensures.rows ∙ c.poly.ensures.rows in
    block_empty c.args.names.now c.args.value.now c.poly.ensures.value c.extend_from_slice.new.self.items
    (no_rows _ (omega (arith, ap length same, c.len.ensures.len, c.if-len-eq0.true)))
    (c.in_ok-extend_from_slice.ensures.items ∙ ap (λ t. t ++ codes "unreachable\n") c.new-text.ensures.items)

pub returns-clause-made : goal.returns-clause-made
returns-clause-made c =
    let same = c.rows-rows.ensures.rows ∙ c.poly.ensures.rows in
    block_listed c.args.names.now c.args.value.now c.poly.ensures.value c.push_inequalities.new.text.items
    c.in_ok-invs.invs.inequalities
    (λ e. c.if-len-eq0.false (omega (arith, ap length same, ap length e, c.len.ensures.len)))
    c.in_ok-invs.ensures.external c.in_ok-invs.ensures.unstopped
    (listed_text c.args.names.now c.args.value.now c.rows-rows.result.now.rows c.in_ok-invs.invs.inequalities
    c.new-text.result.items c.push_rows.new.text.items c.push_inequalities.new.text.items c.new-text.ensures.items same
    c.in_ok-push_rows.ensures c.in_ok-push_inequalities.ensures)
