-- Words of the code are the same where those of the theory are.
use Rattle.std.proofs.Common.{◌≡◌, refl}
use Rattle.prog_tree.specs.declared.claim.SideWord.{SideWord}
use Rattle.prog_tree.specs.declared.claim.SideWord.TheVariants.{One, Max, Min}
use Rattle.prog_tree.specs.Words.{word_of}

pub same_word : (a b : SideWord) → word_of a ≡ word_of b → a ≡ b
same_word One One e = refl
same_word One Max e = absurd (cc)
same_word One Min e = absurd (cc)
same_word Max One e = absurd (cc)
same_word Max Max e = refl
same_word Max Min e = absurd (cc)
same_word Min One e = absurd (cc)
same_word Min Max e = absurd (cc)
same_word Min Min e = refl
