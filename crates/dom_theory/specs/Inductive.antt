-- Inductive families of values: everything at point 0, and along each edge the image lies in the value of its target.
use Rattle.std.specs.Prelude.{ℕ, Contains}
use Rattle.prog_theory.specs.Edges.{Edge}
use Rattle.prog_theory.specs.ControlGraphs.{ControlGraph}
use Rattle.dom_theory.specs.Relations.{Relations}

pub record IsInductive {V : Type 0} (D : Relations V) (G : ControlGraph) (value : ℕ → V) : Type 0 where
  pub everything : D.within (D.top G.vars) (value 0)
  pub stays : (e : Edge) → Contains G.edges e → (y : V) → D.applied e.op (value e.from) y → D.within y (value e.to)
