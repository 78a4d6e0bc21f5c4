-- What holds of every claim holds of each claim of a block.
use Rattle.prog_theory.specs.Statements.{Claim, Stmt, Set, Havoc, Assume, Assert, If, While, Skip, Block, Empty, Then}
use Rattle.prog_theory.specs.Each.{EachClaim, EachClaims}

module _ (C : Claim → Type 0) (all : (claim : Claim) → C claim) where
  mutual
    each_claim : (st : Stmt) → EachClaim C st
    each_claim (Assert c) = all c
    each_claim (If c a b) = (each_claims a, each_claims b)
    each_claim (While c a) = each_claims a
    each_claim (Set x t) = tt
    each_claim (Havoc x) = tt
    each_claim (Assume c) = tt
    each_claim Skip = tt

    pub each_claims : (b : Block) → EachClaims C b
    each_claims Empty = tt
    each_claims (Then st b) = (each_claim st, each_claims b)
