use Rattle.std.proofs.Common.{ℕ, List, ◌-◌, ◌+◌}
use Rattle.dom_theory.specs.Outcomes.{Outcome}
use Rattle.dom_theory.specs.Analysis.{Narrows}
use Rattle.dom_iter.specs.Fair.{AreValues}
use Rattle.dom_iter.specs.Steps.{stage}
use Rattle.dom_iter.proofs.top.narrow_down.Given as goal

abbrev pub invariant-loop-k : goal.invariant-loop-k
invariant-loop-k g l = record {
  reads : (counts : List ℕ) (r : Outcome _) → Narrows g.D.Domain.relations l.graph (l.narrow - l.k) (l.pass + l.k)
      (stage l.values.items counts) r →
      Narrows g.D.Domain.relations l.graph l.narrow l.pass (stage l.fn.values.items counts) r;
  are : AreValues g.D.Domain.relations l.graph l.values.items;
}
