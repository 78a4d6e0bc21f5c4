use Rattle.std.proofs.Common.{◌≡◌, ◌++◌, map, drop}
use Rattle.std.specs.Fmt.{signed_decimal}
use Rattle.trop_spelling.specs.Printed.{after_commas}
use Rattle.tplib_progs.proofs.numbers.push_rest.Given as goal

abbrev pub invariant-loop-n : goal.invariant-loop-n
invariant-loop-n l = l.text.items ++ after_commas (map signed_decimal (drop l.n-index l.numbers))
    ≡ l.fn.text.items ++ after_commas (map signed_decimal l.numbers)
