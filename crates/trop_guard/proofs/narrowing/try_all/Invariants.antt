use Rattle.std.proofs.Common.{◌≡◌, ◌≤◌, length, take}
use Rattle.std.specs.Prelude.{All}
use Rattle.trop_theory.specs.Canonical.{row_limit}
use Rattle.trop_guard.specs.Found.{AreFound, HasMixed}
use Rattle.trop_guard.proofs.narrowing.try_all.Given as goal

abbrev pub invariant-loop-k : goal.invariant-loop-k
invariant-loop-k g l =
    let R = g.S.Scalar.ring in
    record {
      found : AreFound R l.parts.kept.n l.ineq l.parts.kept.rows l.parts.dropped.rows l.found.items;
      mixed : All (λ v. All (HasMixed R l.parts.kept.n l.ineq l.parts.kept.rows l.parts.dropped.rows l.found.items v)
          l.parts.dropped.rows) (take l.k l.parts.kept.rows);
      within : length l.found.items ≤ row_limit;
    }
