use Rattle.std.proofs.Common.{◌≡◌, ◌-◌, ◌<◌, length, sum, MatchBool}
use Rattle.dom_theory.specs.Outcomes.{Outcome}
use Rattle.dom_theory.specs.Passes.{Rises, Points, Pass}
use Rattle.dom_iter.specs.Fair.{IsFair}
use Rattle.dom_iter.specs.Steps.{stage}
use Rattle.dom_iter.proofs.pass.rise.Given as goal

abbrev pub invariant-loop-q : goal.invariant-loop-q
invariant-loop-q g l = record {
  reads : (r : Outcome _) → Points (Rises g.D.Domain.relations l.graph l.delay l.pass) (length l.graph.points - l.q) l.q
      (stage l.values.items l.changes.items) r →
      Pass (Rises g.D.Domain.relations l.graph l.delay l.pass) l.graph (stage l.fn.values.items l.fn.changes.items) r;
  fair : IsFair g.D.Domain.relations l.graph l.delay (stage l.values.items l.changes.items);
  counts : MatchBool l.changed (sum l.fn.changes.items < sum l.changes.items) (l.changes.items ≡ l.fn.changes.items);
}
