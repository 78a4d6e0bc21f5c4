use Rattle.std.proofs.Common.{◌≡◌, ◌++◌}
use Rattle.tplib_tangent.specs.Members.{has_bit}
use Rattle.tplib_tangent.specs.Tangent.{names_of}
use Rattle.tplib_tangent.proofs.coordinates.push_members.Given as goal

abbrev pub invariant-loop-i : goal.invariant-loop-i
invariant-loop-i l = l.text.items ≡ l.fn.text.items ++ names_of l.names (has_bit l.set) l.i
