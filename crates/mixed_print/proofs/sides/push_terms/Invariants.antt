use Rattle.std.proofs.Common.{◌≡◌, ◌++◌, drop}
use Rattle.trop_spelling.specs.Printed.{comma_list, terms_from, numbers}
use Rattle.trop_spelling.proofs.Printing.{terms_left}
use Rattle.mixed_print.specs.Names.{twin_names}
use Rattle.mixed_print.proofs.sides.push_terms.Given as goal

abbrev pub invariant-loop-i : goal.invariant-loop-i
invariant-loop-i g l =
    let terms = terms_from g.S.Spelling.KIND (twin_names l.names) in
    l.text.items ++ terms_left l.started (terms l.i (numbers g.S.Scalar.numbering (drop l.i l.side))) ≡ l.fn.text.items
    ++ comma_list (terms 0 (numbers g.S.Scalar.numbering l.side))
