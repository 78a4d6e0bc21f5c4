-- The points, operations and edges of the theory that those of the code stand for.
use Rattle.prog_theory.specs.Edges as theory
use Rattle.prog_theory.specs.Graph as graph
use Rattle.prog_tree.specs.Terms.{term_of}
use Rattle.prog_graph.specs.declared.parts.Op.{Op}
use Rattle.prog_graph.specs.declared.parts.Op.TheVariants.{Skip, Set, Havoc, Guard}
use Rattle.prog_graph.specs.declared.parts.Point.{Point}
use Rattle.prog_graph.specs.declared.parts.Point.TheVariants.{Statement, Inner, Exit}
use Rattle.prog_graph.specs.declared.parts.Edge.{Edge}

abbrev pub op_of : Op → theory.Op
op_of Skip = theory.Skips
op_of (Set x t) = theory.Sets x (term_of t)
op_of (Havoc x) = theory.Havocs x
op_of (Guard l r) = theory.Guards (term_of l) (term_of r)

abbrev pub edge_of : Edge → theory.Edge
edge_of e = record { from = e.from; to = e.to; op = op_of e.op }

abbrev pub point_of : Point → graph.Point
point_of (Statement k) = graph.Statement k
point_of Inner = graph.Inner
point_of Exit = graph.Exit
