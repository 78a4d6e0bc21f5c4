-- What a half of an image answers.
use Rattle.std.specs.Prelude.{◌≡◌, false, Option, Some, None, Result, Ok}
use Rattle.trop_theory.specs.Semiring.{Semiring}
use Rattle.trop_theory.specs.Numbers.{Numbering}
use Rattle.prog_theory.specs.Edges.{Op}
use Rattle.dom_theory.specs.Relations.{Apply}
use Rattle.dom_core.specs.declared.error.DomErr.{DomErr}
use Rattle.dom_core.specs.Answers.{IsAnswer}
use Rattle.cone_domain.specs.Values.{Value}
use Rattle.cone_domain.specs.Polyhedra.{polyhedra}

-- the image by this half, or the value itself where there is none
abbrev pub IsHalfAnswer : {V : Type 0} → Semiring V → Numbering V → Option Op → Value V → Result (Value V) DomErr
    → Type 0
IsHalfAnswer R N None v result = result ≡ Ok v
IsHalfAnswer R N (Some op) v result = IsAnswer (polyhedra R N false) (Apply op v) result
