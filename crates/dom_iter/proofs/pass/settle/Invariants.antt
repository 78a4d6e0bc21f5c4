use Rattle.std.proofs.Common.{ℕ, List, ◌-◌, length}
use Rattle.dom_theory.specs.Outcomes.{Outcome}
use Rattle.dom_theory.specs.Passes.{Settles, Points, Pass}
use Rattle.dom_iter.specs.Fair.{AreValues}
use Rattle.dom_iter.specs.Steps.{stage}
use Rattle.dom_iter.proofs.pass.settle.Given as goal

abbrev pub invariant-loop-q : goal.invariant-loop-q
invariant-loop-q g l = record {
  reads : (counts : List ℕ) (r : Outcome _) → Points (Settles g.D.Domain.relations l.graph l.pass)
      (length l.graph.points - l.q) l.q (stage l.values.items counts) r →
      Pass (Settles g.D.Domain.relations l.graph l.pass) l.graph (stage l.fn.values.items counts) r;
  are : AreValues g.D.Domain.relations l.graph l.values.items;
}
