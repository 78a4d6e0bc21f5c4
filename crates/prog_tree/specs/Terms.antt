-- The terms and comparisons of the theory that those of the code stand for.
use Rattle.prog_theory.specs.States as theory
use Rattle.prog_theory.specs.Conditions as tree
use Rattle.prog_tree.specs.declared.term.Term.{Term}
use Rattle.prog_tree.specs.declared.term.Cmp.{Cmp}
use Rattle.prog_tree.specs.declared.term.Cmp.TheVariants.{Le, Lt, Ge, Gt, Eq, Ne}

abbrev pub term_of : Term → theory.Term
term_of t = record { coord = t.coord; add = t.add }

abbrev pub cmp_of : Cmp → tree.Cmp
cmp_of Le = tree.Le
cmp_of Lt = tree.Lt
cmp_of Ge = tree.Ge
cmp_of Gt = tree.Gt
cmp_of Eq = tree.Eq
cmp_of Ne = tree.Ne
