-- The numbers of asserts that the reader holds.
use Rattle.std.specs.Prelude.{ℕ, List, map}
use Rattle.prog_asserts.specs.declared.assertion.Assertion.{Assertion}

abbrev pub numbers_in : List Assertion → List ℕ
numbers_in xs = map (λ (a : Assertion). a.number) xs
