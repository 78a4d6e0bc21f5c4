use Rattle.std.proofs.Common.{◌≡◌, ◌≤◌, length, take}
use Rattle.std.specs.Prelude.{All, Contains}
use Rattle.trop_theory.specs.Canonical.{row_limit}
use Rattle.trop_guard.specs.Found.{AreFound, HasMixed}
use Rattle.trop_guard.proofs.narrowing.try_dropped.Given as goal

abbrev pub invariant-loop-w : goal.invariant-loop-w
invariant-loop-w g l =
    let R = g.S.Scalar.ring in
    record {
      items : l.w-items ≡ l.parts.dropped.rows;
      found : AreFound R l.parts.kept.n l.ineq l.parts.kept.rows l.parts.dropped.rows l.found.items;
      stay : All (Contains l.found.items) l.initial.found.items;
      mixed : All (HasMixed R l.parts.kept.n l.ineq l.parts.kept.rows l.parts.dropped.rows l.found.items l.v)
          (take l.w-index l.parts.dropped.rows);
      within : length l.found.items ≤ row_limit;
    }
