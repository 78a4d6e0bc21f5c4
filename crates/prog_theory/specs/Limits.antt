-- How much a program may have.
use Rattle.std.specs.Prelude.{ℕ, ◌^◌}

pub record Limits : Type 0 where
  -- the most variables, statements and atoms (comparisons and `?`)
  pub vars : ℕ
  pub statements : ℕ
  pub atoms : ℕ
  -- the most signs `{`, `(` and `!` that stand open at once
  pub depth : ℕ
  -- the greatest size of a number in a program, and in a row of a trace file
  pub number : ℕ
  pub entry : ℕ

abbrev pub program_limits : Limits
program_limits = record { vars = 63; statements = 400; atoms = 1200; depth = 64; number = 2 ^ 31; entry = 2 ^ 40 }
