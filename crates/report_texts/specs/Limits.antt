-- How much a report may have.
use Rattle.std.specs.Prelude.{ℕ}

-- the most rows, and the most `inv` lines, of one block
abbrev pub most_lines : ℕ
most_lines = 4096

-- the greatest delay, the most narrowing passes, and the most passes that a text may name
abbrev pub most_delay : ℕ
most_delay = 1000

abbrev pub most_narrow : ℕ
most_narrow = 100

abbrev pub most_passes : ℕ
most_passes = 2039201

-- the greatest size of a number in a row, of an entry of its normal form, and of a number in an `inv` line
abbrev pub greatest_entry : ℕ
greatest_entry = 1099511627776

abbrev pub greatest_normal : ℕ
greatest_normal = 2199023255552

abbrev pub greatest_inv : ℕ
greatest_inv = 281474976710656
