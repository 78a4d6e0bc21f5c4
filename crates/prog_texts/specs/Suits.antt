-- Which programs are printed so that they are read back under a rule.
use Rattle.std.specs.Prelude.{◌≡◌, ℕ, true, false, List, [], ◌∷◌, ◌++◌, length, codes, None, nat_le}
use Rattle.trop_text.specs.Name.{is_name}
use Rattle.trop_text.specs.Names.{place_of}
use Rattle.prog_theory.specs.States.{Term}
use Rattle.prog_theory.specs.Statements.{SideWord, One, Greatest, Least, Stmt, Set, Havoc, Assume, Assert, If, While, Skip, Block, Empty, Then}
use Rattle.prog_theory.specs.Limits.{Limits}
use Rattle.prog_texts.specs.AssertRule.{AssertRule, is_against}

-- a side has a term, and just one without a word; and the rule admits its word
abbrev pub SuitsSide : AssertRule → SideWord → List Term → Type 0
SuitsSide rule One (t ∷ []) = Unit {0}
SuitsSide rule Greatest (t ∷ ts) = is_against rule (codes "max") ≡ false
SuitsSide rule Least (t ∷ ts) = is_against rule (codes "min") ≡ false
SuitsSide rule _ _ = ⊥

abbrev mutual
  pub SuitsStmt : AssertRule → Stmt → Type 0
  SuitsStmt rule (Assert c) = SuitsSide rule c.left.word c.left.terms × SuitsSide rule c.right.word c.right.terms
  SuitsStmt rule (If c a b) = SuitsBlock rule a × SuitsBlock rule b
  SuitsStmt rule (While c a) = SuitsBlock rule a
  SuitsStmt rule (Set i t) = Unit {0}
  SuitsStmt rule (Havoc i) = Unit {0}
  SuitsStmt rule (Assume c) = Unit {0}
  SuitsStmt rule Skip = Unit {0}

  pub SuitsBlock : AssertRule → Block → Type 0
  SuitsBlock rule Empty = Unit {0}
  SuitsBlock rule (Then x xs) = SuitsStmt rule x × SuitsBlock rule xs

-- names that may stand behind those before in a declaration
abbrev pub MayFollow : Limits → List (List ℕ) → List (List ℕ) → Type 0
MayFollow L before [] = Unit {0}
MayFollow L before (x ∷ xs) = (is_name x ≡ true) × (place_of x before ≡ None) × (nat_le L.vars (length before) ≡ false)
    × MayFollow L (before ++ x ∷ []) xs
