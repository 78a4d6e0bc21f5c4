-- The names of the coordinates behind coordinate 0.
use Rattle.std.specs.Prelude.{ℕ, List, ◌++◌, map, codes}

-- the opposite of a variable is written as a `-` before its name
abbrev pub opposite_name : List ℕ → List ℕ
opposite_name name = codes "-" ++ name

-- the variables, and then the opposite of each
abbrev pub twin_names : List (List ℕ) → List (List ℕ)
twin_names names = names ++ map opposite_name names
