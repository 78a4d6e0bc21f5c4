use Rattle.std.proofs.Common.{◌-◌, ◌*◌, ◌+◌, ◌≤◌, length, sum}
use Rattle.dom_theory.specs.Outcomes.{Outcome}
use Rattle.dom_theory.specs.Analysis.{Ascent}
use Rattle.dom_iter.specs.Fair.{IsFair, most_changes}
use Rattle.dom_iter.specs.Steps.{stage}
use Rattle.dom_iter.proofs.top.ascend.Given as goal

abbrev pub invariant-loop-changed : goal.invariant-loop-changed
invariant-loop-changed g l = record {
  reads : (r : Outcome _) → Ascent g.D.Domain.relations l.graph l.delay l.pass (stage l.values.items l.changes.items) r
      →
      Ascent g.D.Domain.relations l.graph l.delay 1 (stage l.fn.values.items l.fn.changes.items) r;
  fair : IsFair g.D.Domain.relations l.graph l.delay (stage l.values.items l.changes.items);
  counted : l.pass ≤ sum l.changes.items + 1;
}

abbrev pub decreases-loop-changed : goal.decreases-loop-changed
decreases-loop-changed g l = length l.graph.heads * most_changes g.D.Domain.relations l.graph l.delay - sum
    l.changes.items
