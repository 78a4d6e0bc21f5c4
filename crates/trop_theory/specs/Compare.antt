-- The order of elements and of rows, as a comparison.
use Rattle.std.specs.Prelude.{Bool, cond, List}
use Rattle.std.specs.declared.cmp.Ordering.{Ordering}
use Rattle.std.specs.declared.cmp.Ordering.TheVariants.{Less, Equal, Greater}
use Rattle.std.specs.Cmp.Lexicographic.{slice_cmp}
use Rattle.trop_theory.specs.Semiring.{Semiring}

-- a before b where it is below b
abbrev pub compare : {V : Type 0} → (V → V → Bool) → Semiring V → V → V → Ordering
compare same R a b = cond (same a b) Equal (cond (same (R.plus a b) b) Less Greater)

-- by the first entry that differs, a proper prefix first
abbrev pub compare_rows : {V : Type 0} → (V → V → Bool) → Semiring V → List V → List V → Ordering
compare_rows same R = slice_cmp (compare same R)
