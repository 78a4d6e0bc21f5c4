use Rattle.std.proofs.Common.{ap, map, arith}
use Rattle.trop_spelling.specs.Spelling.{element_text}
use Rattle.trop_spelling.specs.Printed.{after_commas, numbers}
use Rattle.trop_spelling.proofs.Printing.{two_more, drop_item}
use Rattle.trop_spelling.proofs.print_row.push_rest.Goals as goal

pub loop-x-preserved : goal.loop-x-preserved
loop-x-preserved g c =
    let item = ap (λ xs. after_commas (map (element_text g.S.Spelling.KIND) (numbers g.S.Scalar.numbering xs)))
    (drop_item c.args.entries.now c.loop-x.x-index c.x-item.result (omega arith) c.x-item.is) in
    two_more _ _ _ _ _ _ _ _ c.loop-x.invariant item c.in_ok-extend_from_slice.ensures.items
    c.in_ok-push_element.ensures.ok
