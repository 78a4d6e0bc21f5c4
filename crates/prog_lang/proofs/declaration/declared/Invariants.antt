use Rattle.std.proofs.Common.{◌≡◌, ◌≤◌, length}
use Rattle.prog_reading.specs.Left.{left, source_of}
use Rattle.prog_lang.specs.ReadParts.{names_at}
use Rattle.prog_lang.proofs.NameSteps.{IsNaming}
use Rattle.prog_lang.proofs.declaration.declared.Given as goal

abbrev pub invariant-names : goal.invariant-names
invariant-names l = IsNaming l.names (left l.rest) (names_at (left l.at)) × (length l.names ≤ 63) ×
    (source_of l.rest ≡ source_of l.at) × (length (left l.rest) ≤ length (left l.at))

abbrev pub decreases-names : goal.decreases-names
decreases-names l = length (left l.rest)
