-- Terms as sides of inequalities, and `l <= r` on numbers as an inequality of the semiring.
use Rattle.std.specs.Prelude.{ℕ, Bool, true, false, List, [], ◌∷◌, slice_set, MatchBool}
use Rattle.trop_theory.specs.Semiring.{Semiring, Le}
use Rattle.trop_theory.specs.Vectors.{joined, bottom}
use Rattle.trop_theory.specs.Numbers.{Numbering}
use Rattle.trop_theory.specs.Inequalities.{Inequality}
use Rattle.prog_theory.specs.States.{Term}

-- the number of the term at its coordinate, the zero elsewhere
abbrev pub term_side : {V : Type 0} → Semiring V → Numbering V → ℕ → Term → List V
term_side R N n t = slice_set (bottom R n) t.coord (N.of t.add)

-- the sum of the terms
abbrev pub side : {V : Type 0} → Semiring V → Numbering V → ℕ → List Term → List V
side R N n [] = bottom R n
side R N n (t ∷ ts) = joined R (term_side R N n t) (side R N n ts)

-- The first is at most the second in the order of numbers, which is the order of the semiring or the reverse of it.
abbrev pub at_most : {V : Type 0} → Bool → List V → List V → Inequality V
at_most false l r = record { left = l; right = r }
at_most true l r = record { left = r; right = l }

-- sums of sides in the order of numbers
abbrev pub Ordered : {V : Type 0} → Semiring V → Bool → V → V → Type 0
Ordered R reversed a b = MatchBool reversed (Le R b a) (Le R a b)

-- the inequality of the guard `l <= r`
abbrev pub guard_inequality : {V : Type 0} → Semiring V → Numbering V → Bool → ℕ → Term → Term → Inequality V
guard_inequality R N reversed n l r = at_most reversed (term_side R N n l) (term_side R N n r)
