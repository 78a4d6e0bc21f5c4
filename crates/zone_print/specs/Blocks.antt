-- The lines of a point in a short report of zones: each bound of the closed matrix as an inequality, by rows.
use Rattle.std.specs.Prelude.{ℕ, zero, suc, List, [], ◌++◌, codes, slice_index_or, Option, Some, None}
use Rattle.std.specs.Fmt.{signed_decimal}
use Rattle.zone_theory.specs.Matrices.{Matrix}
use Rattle.zone_theory.specs.Limits.{Limit, limits}
use Rattle.report_texts.specs.Printed.{lines_text}

-- the first coordinate less the second: coordinate 0 is no variable and counts 0
abbrev pub difference_text : List (List ℕ) → ℕ → ℕ → List ℕ
difference_text names zero zero = codes "0"
difference_text names zero (suc j) = codes "-" ++ slice_index_or names j []
difference_text names (suc i) zero = slice_index_or names i []
difference_text names (suc i) (suc j) = slice_index_or names i [] ++ (codes " - " ++ slice_index_or names j [])

-- the difference is at most the number
abbrev pub limit_text : List (List ℕ) → Limit → List ℕ
limit_text names b = codes "inv " ++ (difference_text names b.high b.low ++ (codes " <= " ++ signed_decimal b.most))

-- the lines of a zone over d variables; where it is the empty one, no run comes to the point
abbrev pub block_text : List (List ℕ) → ℕ → Option Matrix → List ℕ
block_text names d None = codes "unreachable\n"
block_text names d (Some m) = lines_text (limit_text names) (limits d m)
