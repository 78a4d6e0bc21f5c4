-- States as vectors: the one in front, and the numbers of the state behind it.
use Rattle.std.specs.Prelude.{List, ◌∷◌, map}
use Rattle.trop_theory.specs.Semiring.{Semiring}
use Rattle.trop_theory.specs.Numbers.{Numbering}
use Rattle.prog_theory.specs.States.{State}

abbrev pub vector : {V : Type 0} → Semiring V → Numbering V → State → List V
vector R N s = R.one ∷ map N.of s

-- the states of a set of vectors are those whose vector is in it
abbrev pub HasState : {V : Type 0} → Semiring V → Numbering V → (List V → Type 0) → State → Type 0
HasState R N vectors s = vectors (vector R N s)
