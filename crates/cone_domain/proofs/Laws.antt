-- Tropical polyhedra keep the laws of a domain.
use Rattle.std.specs.Prelude.{ℕ, Bool}
use Rattle.trop_theory.specs.Semiring.{Semiring, SemiringLaws}
use Rattle.trop_theory.specs.Numbers.{Numbering, NumericLaws}
use Rattle.dom_theory.specs.Laws.{DomainLaws}
use Rattle.cone_domain.specs.Polyhedra.{polyhedra}
use Rattle.cone_domain.proofs.States.{polyhedra_states, polyhedra_vars, polyhedra_parts}
use Rattle.cone_domain.proofs.Widths.{polyhedra_widths}
use Rattle.cone_domain.proofs.Answers.{polyhedra_one}

pub polyhedra_laws : {V : Type 0} {R : Semiring V} {N : Numbering V} {reversed : Bool} → SemiringLaws R
    → NumericLaws R N reversed → (most : ℕ) → DomainLaws (polyhedra R N reversed) most
polyhedra_laws {N = N} {reversed = reversed} laws numbers most = record {
  vars = polyhedra_vars laws numbers;
  one = polyhedra_one laws N reversed;
  parts = polyhedra_parts laws numbers;
  states = polyhedra_states laws numbers;
  widths = polyhedra_widths laws numbers most;
}
