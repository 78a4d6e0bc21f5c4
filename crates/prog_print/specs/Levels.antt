-- The level of the theory that a level stands for.
use Rattle.prog_theory.specs.Nesting as nesting
use Rattle.prog_print.specs.declared.conditions.Level.{Level}
use Rattle.prog_print.specs.declared.conditions.Level.TheVariants.{Loose, Tight, Single}

abbrev pub level_of : Level → nesting.Level
level_of Loose = nesting.Loose
level_of Tight = nesting.Tight
level_of Single = nesting.Single
