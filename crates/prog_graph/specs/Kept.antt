-- What a graph of the code keeps: what a control graph keeps, and for each point the edges into it.
use Rattle.std.specs.Prelude.{ℕ, List, map, length}
use Rattle.prog_theory.specs.ControlGraphs.{ControlGraph}
use Rattle.prog_theory.specs.GraphKeeps.{IsControlGraph}
use Rattle.prog_graph.specs.Into.{AreInto}

pub record IsGraph (G : ControlGraph) (lists : List (List ℕ)) : Type 0 where
  pub keeps : IsControlGraph G
  pub into : AreInto lists (length G.points) (map (λ e. e.to) G.edges)
