-- What a program keeps.
use Rattle.trop_text.specs.Names.{AreNames}
use Rattle.prog_theory.specs.Named.{Named}
use Rattle.prog_theory.specs.Limits.{program_limits}
use Rattle.prog_theory.specs.Within.{IsWithin}

pub record IsProgram (p : Named) : Type 0 where
  pub names : AreNames p.names
  pub within : IsWithin program_limits p
