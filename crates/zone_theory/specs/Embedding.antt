-- A zone as a set of vectors: for each number of its matrix, by rows, the inequality x_i <= m_ij + x_j between scaled
-- coordinates.
use Rattle.std.specs.Prelude.{ℕ, suc, List, map, replicate, slice_set}
use Rattle.trop_theory.specs.Semiring.{Semiring}
use Rattle.trop_theory.specs.Numbers.{Numbering}
use Rattle.trop_theory.specs.Inequalities.{Inequality}
use Rattle.zone_theory.specs.Matrices.{Matrix}
use Rattle.zone_theory.specs.Limits.{Limit, limits}

-- n coefficients, one of them finite
abbrev pub single : {V : Type 0} → Semiring V → ℕ → ℕ → V → List V
single R n k a = slice_set (replicate n R.zero) k a

abbrev pub inequality : {V : Type 0} → Semiring V → Numbering V → ℕ → Limit → Inequality V
inequality R N n b = record { left = single R n b.high R.one; right = single R n b.low (N.of b.most) }

abbrev pub system : {V : Type 0} → Semiring V → Numbering V → ℕ → Matrix → List (Inequality V)
system R N d m = map (inequality R N (suc d)) (limits d m)
