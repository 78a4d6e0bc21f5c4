-- What every value of the code keeps.
use Rattle.std.specs.Prelude.{◌≡◌, ◌≤◌, ◌*◌}
use Rattle.cone_domain.specs.Values.{Value}
use Rattle.mixed_theory.specs.Halves.{variables}

-- a polyhedron on twice as many coordinates as there are variables, of which there are at most 31
pub record IsDoubled {V : Type 0} (v : Value V) : Type 0 where
  pub twice : v.vars ≡ 2 * variables v
  pub few : variables v ≤ 31
