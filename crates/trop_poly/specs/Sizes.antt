-- Sizes up to which operations on cones compute, beside those that hold of the whole library.
use Rattle.std.specs.Prelude.{ℕ, ◌^◌}

-- of the rows of a cone whose external list is asked for
abbrev pub most_bounded : ℕ
most_bounded = 2 ^ 48

-- of the rows of two cones of which the common part is asked for
abbrev pub most_met : ℕ
most_met = 2 ^ 41
