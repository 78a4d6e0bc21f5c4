-- What the values of the code stand for.
use Rattle.std.specs.Prelude.{◌≡◌, Option, Some, None, MatchOption}
use Rattle.prog_theory.specs.States.{State}
use Rattle.prog_theory.specs.Steps.{Stack}
use Rattle.prog_theory.specs.Looks as looks
use Rattle.prog_theory.specs.Chosen as chosen
use Rattle.prog_run.specs.Shown.{Shown, config}
use Rattle.prog_run.specs.declared.configs.Config.{Config}
use Rattle.prog_run.specs.declared.configs.End.{End}
use Rattle.prog_run.specs.declared.configs.End.TheVariants.{Finished, TurnsSpent, OutOfChoices, AssumeFailed}
use Rattle.prog_run.specs.declared.looks.Seen.{Seen}
use Rattle.prog_run.specs.declared.steps.Picked.{Picked}
use Rattle.prog_run.specs.declared.steps.Picked.TheVariants.{Ends, Goes}

abbrev pub config_of : Config → Shown
config_of c = record { point = c.point; state = c.state }

abbrev pub end_of : End → chosen.End
end_of Finished = chosen.Finished
end_of TurnsSpent = chosen.TurnsSpent
end_of OutOfChoices = chosen.OutOfChoices
end_of AssumeFailed = chosen.AssumeFailed

abbrev pub seen_of : Seen → looks.Look
seen_of l = record { truth = l.truth; left = l.left.now }

-- the code sees what is to be seen
abbrev pub IsSeen : Option looks.Look → Option Seen → Type 0
IsSeen o seen = MatchOption seen (o ≡ None) (λ l. o ≡ Some (seen_of l))

-- with the stack and the state that a step leaves
abbrev pub picked_of : Picked → Stack → State → chosen.Picked
picked_of (Ends e) stack s = chosen.Ends (end_of e)
picked_of (Goes left) stack s = chosen.Goes (config stack s) left.now
