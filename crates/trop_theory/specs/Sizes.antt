-- The sizes up to which the library computes, as powers of two. The size of an element is the absolute value of its
-- number; each call says which of these it admits, so that no sum or product of words passes 2^62.
use Rattle.std.specs.Prelude.{ℕ, ◌^◌}

-- of an element that a program holds
abbrev pub most_element : ℕ
most_element = 2 ^ 62

-- of the entries of rows that are compared and tried against inequalities
abbrev pub most_entry : ℕ
most_entry = 2 ^ 60

-- of the entries of rows that are brought to normal form, which at most doubles them
abbrev pub most_scaled : ℕ
most_scaled = 2 ^ 59

-- of the entries of rows that the elementary step mixes
abbrev pub most_mixed : ℕ
most_mixed = 2 ^ 57

-- of the coefficients of inequalities
abbrev pub most_coefficient : ℕ
most_coefficient = 2 ^ 49

-- of the numbers that a file holds
abbrev pub most_number : ℕ
most_number = 2 ^ 40
