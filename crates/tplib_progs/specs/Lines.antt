-- The lines of a run: one for each of its configurations, and one for its end.
use Rattle.std.specs.Prelude.{ℕ, ℤ, List, [], ◌∷◌, ◌++◌, map, codes, decimal, Option, Some, None}
use Rattle.std.specs.Fmt.{signed_decimal}
use Rattle.trop_spelling.specs.Printed.{comma_list}
use Rattle.prog_theory.specs.Chosen.{End, Finished, TurnsSpent, OutOfChoices, AssumeFailed}
use Rattle.prog_run.specs.Shown.{Shown}

-- a row of numbers: `[1, -2]`
abbrev pub numbers_text : List ℤ → List ℕ
numbers_text xs = codes "[" ++ (comma_list (map signed_decimal xs) ++ codes "]")

-- the number of the statement that is next; a word where none is left
abbrev pub point_text : Option ℕ → List ℕ
point_text None = codes "exit"
point_text (Some k) = decimal k

-- the line of a configuration: where it stands in the program, and its state
abbrev pub config_line : Shown → List ℕ
config_line c = codes "at " ++ (point_text c.point ++ (codes " " ++ (numbers_text c.state ++ codes "\n")))

abbrev pub config_lines : List Shown → List ℕ
config_lines [] = []
config_lines (c ∷ cs) = config_line c ++ config_lines cs

-- the line that says why a run ends
abbrev pub end_line : End → List ℕ
end_line Finished = codes "end finished\n"
end_line AssumeFailed = codes "end assume-failed\n"
end_line OutOfChoices = codes "end out-of-choices\n"
end_line TurnsSpent = codes "end turns-spent\n"

abbrev pub run_text : List Shown → End → List ℕ
run_text cs ended = config_lines cs ++ end_line ended
