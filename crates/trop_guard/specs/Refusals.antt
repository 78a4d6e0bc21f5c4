-- Why one more inequality was refused.
use Rattle.std.specs.Prelude.{List}
use Rattle.trop_theory.specs.Semiring.{Semiring}
use Rattle.trop_theory.specs.Canonical.{IsOverLimit}
use Rattle.trop_guard.specs.declared.error.GuardErr.{GuardErr}
use Rattle.trop_guard.specs.declared.error.GuardErr.TheVariants.{Limit, NoMemory}

-- the smaller cone has more extreme rows than the limit
abbrev pub IsRefusedBy : {V : Type 0} → Semiring V → (List V → Type 0) → GuardErr → Type 0
IsRefusedBy R cone Limit = IsOverLimit R cone
IsRefusedBy R cone NoMemory = Unit {0}
