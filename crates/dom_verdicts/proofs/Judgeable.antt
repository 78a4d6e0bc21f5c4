-- The claims of a program can be judged.
use Rattle.std.proofs.Common.{◌^◌, ℕ}
use Rattle.prog_theory.specs.Statements.{Claim, Stmt, Set, Havoc, Assume, Assert, If, While, Skip, Block, Empty, Then}
use Rattle.prog_theory.specs.Each.{EachStmt, EachBlock, EachClaim, EachClaims}
use Rattle.prog_theory.specs.Fits.{FitsStmt, FitsBlock}
use Rattle.prog_theory.specs.Within.{IsNumberWithin}
use Rattle.dom_verdicts.specs.Claims.{IsJudgeable}

module _ (suits : Claim → Type 0) (vars : ℕ) where
  mutual
    stmt_judgeable : (st : Stmt) → EachClaim suits st → FitsStmt vars st →
        EachStmt (λ x. Unit {0}) (IsNumberWithin (2 ^ 31)) st → EachClaim (IsJudgeable suits vars) st
    stmt_judgeable (Assert c) words fits numbers = record {
      words = words;
      fits = record { left = fits.0; right = fits.1; left_numbers = numbers.0; right_numbers = numbers.1 };
    }
    stmt_judgeable (If c a b) words fits numbers =
        (judgeable a words.0 fits.1 numbers.1, judgeable b words.1 fits.2 numbers.2)
    stmt_judgeable (While c a) words fits numbers = judgeable a words fits.1 numbers.1
    stmt_judgeable (Set x t) words fits numbers = tt
    stmt_judgeable (Havoc x) words fits numbers = tt
    stmt_judgeable (Assume c) words fits numbers = tt
    stmt_judgeable Skip words fits numbers = tt

    pub judgeable : (b : Block) → EachClaims suits b → FitsBlock vars b →
        EachBlock (λ x. Unit {0}) (IsNumberWithin (2 ^ 31)) b → EachClaims (IsJudgeable suits vars) b
    judgeable Empty words fits numbers = tt
    judgeable (Then st b) words fits numbers =
        (stmt_judgeable st words.0 fits.0 numbers.0, judgeable b words.1 fits.1 numbers.1)
