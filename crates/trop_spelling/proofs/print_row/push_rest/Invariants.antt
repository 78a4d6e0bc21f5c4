use Rattle.std.proofs.Common.{◌≡◌, ◌++◌, map, drop}
use Rattle.trop_spelling.specs.Spelling.{element_text}
use Rattle.trop_spelling.specs.Printed.{after_commas, numbers}
use Rattle.trop_spelling.proofs.print_row.push_rest.Given as goal

abbrev pub invariant-loop-x : goal.invariant-loop-x
invariant-loop-x g l =
    let S = g.S.Spelling in
    l.text.items ++ after_commas (map (element_text S.KIND) (numbers g.S.Scalar.numbering (drop l.x-index l.entries)))
    ≡ l.fn.text.items ++ after_commas (map (element_text S.KIND) (numbers g.S.Scalar.numbering l.entries))
