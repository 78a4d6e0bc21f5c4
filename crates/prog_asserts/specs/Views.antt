-- The asserts of the theory that those of the code stand for.
use Rattle.std.specs.Prelude.{List, map}
use Rattle.cone_reports.specs.Asserts as theory
use Rattle.prog_tree.specs.Claims.{claim_of}
use Rattle.prog_asserts.specs.declared.assertion.Assertion.{Assertion}

abbrev pub assertion_of : Assertion → theory.Assertion
assertion_of a = record { point = a.point; number = a.number; claim = claim_of a.claim.now }

abbrev pub assertions : List Assertion → List theory.Assertion
assertions as' = map assertion_of as'
