-- Terms whose numbers leave room for one more.
use Rattle.std.specs.Prelude.{ℕ, ◌^◌, pos, ◌≤ℤ◌}
use Rattle.prog_theory.specs.States.{Term}

abbrev pub IsModest : Term → Type 0
IsModest t = t.add ≤ℤ pos (2 ^ 40)

-- nothing is asked
abbrev pub IsAnything : ℕ → Type 0
IsAnything x = Unit {0}
