use Rattle.std.proofs.Common.{◌≡◌, take}
use Rattle.report_reading.specs.Asserts.{numbers_in}
use Rattle.report_reading.proofs.asserts.numbers.Given as goal

abbrev pub invariant-loop-assertion : goal.invariant-loop-assertion
invariant-loop-assertion l = l.out.items ≡ numbers_in (take l.assertion-index l.asserts)
