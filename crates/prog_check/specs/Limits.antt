-- How large a report is that the check takes.
use Rattle.std.specs.Prelude.{ℕ, ◌+◌, ◌^◌}

-- the greatest size of an entry of a row
abbrev pub most_row : ℕ
most_row = 2 ^ 41

-- the most rows of a point
abbrev pub most_rows : ℕ
most_rows = 4096

-- the greatest size of a number in an inequality
abbrev pub most_coefficient : ℕ
most_coefficient = 2 ^ 48

-- the greatest size of a number of an operation
abbrev pub most_add : ℕ
most_add = 2 ^ 31 + 1
