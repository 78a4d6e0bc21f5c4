-- The condition that a shape stands for.
use Rattle.std.specs.Prelude.{ℕ, ◌+◌}
use Rattle.prog_theory.specs.Conditions as tree
use Rattle.prog_tree.specs.declared.cond.CondShape.{CondShape}
use Rattle.prog_tree.specs.declared.cond.CondShape.TheVariants.{Any, Atom, Not, And, Or}
use Rattle.prog_tree.specs.Terms.{term_of, cmp_of}

abbrev pub cond_of : CondShape → tree.Cond
cond_of Any = tree.Any
cond_of (Atom l c r) = tree.Atom (term_of l) (cmp_of c) (term_of r)
cond_of (Not a) = tree.Not a.value
cond_of (And a b) = tree.And a.value b.value
cond_of (Or a b) = tree.Or a.value b.value

-- how many forms a condition has
abbrev pub cond_size : tree.Cond → ℕ
cond_size tree.Any = 0
cond_size (tree.Atom l c r) = 0
cond_size (tree.Not a) = cond_size a + 1
cond_size (tree.And a b) = cond_size a + cond_size b + 1
cond_size (tree.Or a b) = cond_size a + cond_size b + 1
