use Rattle.std.proofs.Common.{◌≡◌, drop, get_or, map}
use Rattle.prog_graph.specs.Views.{edge_of}
use Rattle.dom_theory.specs.Outcomes.{Outcome}
use Rattle.dom_theory.specs.Sums.{AddsAll}
use Rattle.dom_core.specs.Views.{spot_of}
use Rattle.dom_iter.proofs.Into.{AddsNumbers}
use Rattle.dom_iter.proofs.sum.add_edges.Given as goal

abbrev pub invariant-loop-k : goal.invariant-loop-k
invariant-loop-k g l = record {
  reads : (r : Outcome _) → AddsNumbers g.D.Domain.relations (spot_of l.spot)
      (λ q. get_or l.values q (g.D.Domain.relations.bottom l.vars)) (map edge_of l.edges) (drop l.k l.into) l.sum r →
      AddsAll g.D.Domain.relations (spot_of l.spot) (λ q. get_or l.values q (g.D.Domain.relations.bottom l.vars)) 0
      (map edge_of l.edges) l.fn.begun r;
  vars : g.D.Domain.relations.vars l.sum ≡ l.vars;
}
