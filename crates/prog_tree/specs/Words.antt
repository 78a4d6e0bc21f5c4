-- The words and relations of the theory that those of the code stand for.
use Rattle.prog_theory.specs.Statements as tree
use Rattle.prog_tree.specs.declared.claim.Rel.{Rel}
use Rattle.prog_tree.specs.declared.claim.Rel.TheVariants.{Le, Ge, Same}
use Rattle.prog_tree.specs.declared.claim.SideWord.{SideWord}
use Rattle.prog_tree.specs.declared.claim.SideWord.TheVariants.{One, Max, Min}

abbrev pub rel_of : Rel → tree.Rel
rel_of Le = tree.AtMost
rel_of Ge = tree.AtLeast
rel_of Same = tree.Same

abbrev pub word_of : SideWord → tree.SideWord
word_of One = tree.One
word_of Max = tree.Greatest
word_of Min = tree.Least
