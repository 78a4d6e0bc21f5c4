-- The claim of the theory that a claim stands for.
use Rattle.prog_theory.specs.Statements as tree
use Rattle.prog_tree.specs.declared.claim.Claim.{Claim}
use Rattle.prog_tree.specs.Words.{rel_of}

abbrev pub claim_of : Claim → tree.Claim
claim_of c = record { left = c.left; rel = rel_of c.rel; right = c.right }
