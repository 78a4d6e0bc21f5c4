-- What the command `sample` means. It has no input.
use Rattle.std.specs.Prelude.{◌≡◌, ◌+◌, ◌++◌, ℕ, ℤ, max, List, [], length, codes, decimal, Option}
use Rattle.trop_theory.specs.Vectors.{rows_size}
use Rattle.trop_theory.specs.Inequalities.{Inequality, Solves, system_size}
use Rattle.trop_theory.specs.Canonical.{IsCanonical}
use Rattle.trop_scalar.specs.MaxPlus.{max_ring}
use Rattle.trop_cones.specs.RowStops.{IsRowsStop}
use Rattle.trop_duality.specs.External.{IsExternal}
use Rattle.trop_sample.specs.Samples.{sample_of}
use Rattle.tplib_reply.specs.Meaning.{Meaning, at_rows_or_polars, always_yes}
use Rattle.tplib_poly.specs.Bounds.{IsBoundsStop}

-- a seed, a number of variables and a number of inequalities
pub record Numbers : Type 0 where
  pub seed : ℕ
  pub vars : ℕ
  pub rows : ℕ

abbrev pub number_line : List ℕ → ℕ → List ℕ
number_line words n = words ++ (decimal n ++ codes "\n")

-- the numbers of variables and of inequalities, the lengths of the two lists, and the greatest size, a line each
abbrev pub sample_lines : ℕ → ℕ → ℕ → ℕ → ℕ → List ℕ
sample_lines vars rows generators bounds largest =
    number_line (codes "vars ") vars ++ (number_line (codes "inequalities ") rows
    ++ (number_line (codes "generators ") generators
    ++ (number_line (codes "external ") bounds ++ number_line (codes "largest ") largest)))

-- the vectors that solve the sample
abbrev pub IsSampleSolution : Numbers → List (Option ℤ) → Type 0
IsSampleSolution s = Solves max_ring (s.vars + 1) (sample_of s.seed s.vars s.rows)

-- The text tells the number of variables and of inequalities of the sample, the lengths of the canonical and of the
-- external list of its solutions, and the greatest size of an entry or a coefficient of these.
pub record IsSampleText (s : Numbers) (text : List ℕ) : Type 0 where
  pub rows : List (List (Option ℤ))
  pub bounds : List (Inequality (Option ℤ))
  pub canonical : IsCanonical max_ring (IsSampleSolution s) rows
  pub external : IsExternal max_ring (s.vars + 1) (IsSampleSolution s) bounds
  pub printed : text ≡ sample_lines s.vars s.rows (length rows) (length bounds)
      (max (rows_size max_ring rows) (system_size max_ring bounds))

-- the first k inequalities of the sample are the least front of it whose solutions are over the limit
abbrev pub IsSampleRowsStop : Numbers → ℕ → Type 0
IsSampleRowsStop s k = IsRowsStop max_ring (s.vars + 1) (sample_of s.seed s.vars s.rows) k

-- none is, and the external list of the solutions stops
pub record IsSamplePolarStop (s : Numbers) (i k : ℕ) : Type 0 where
  pub within : (j : ℕ) → IsSampleRowsStop s j → ⊥
  pub stop : IsBoundsStop max_ring (s.vars + 1) (IsSampleSolution s) i k

abbrev pub sample_meaning : ℕ → ℕ → ℕ → Meaning Numbers
sample_meaning seed vars rows = record {
  spells = λ bytes s. (bytes ≡ []) × (s ≡ record { seed = seed; vars = vars; rows = rows });
  faulty = λ bytes fault. ⊥;
  stops = at_rows_or_polars IsSampleRowsStop IsSamplePolarStop;
  answers = always_yes IsSampleText;
}
