-- Terms and claims on so many variables, how terms are read, and pairs of them.
use Rattle.std.specs.Prelude.{◌≤◌, ◌⊎◌, ◌*◌, ◌^◌, ℕ, suc, false, List, map, All}
use Rattle.trop_theory.specs.Semiring.{Semiring}
use Rattle.trop_theory.specs.Numbers.{Numbering}
use Rattle.trop_theory.specs.Combinations.{IsCombination}
use Rattle.trop_theory.specs.Inequalities.{Inequality}
use Rattle.cone_reports.specs.Sides.{side, at_most}
use Rattle.trop_row.specs.Lists.{RowList}
use Rattle.prog_theory.specs.States as theory
use Rattle.prog_theory.specs.Statements as words
use Rattle.prog_theory.specs.Statements.{SideWord, Greatest, Least, Side, Claim}
use Rattle.prog_theory.specs.Within.{IsNumberWithin}
use Rattle.prog_tree.specs.Terms.{term_of}
use Rattle.prog_tree.specs.declared.term.Term.{Term}
use Rattle.mixed_theory.specs.Twins.{opposite_term}
use Rattle.mixed_theory.specs.Claims.{IsReadAs, IsSumBelow, IsOppositeBelow, IsPairBelow, IsEachBelow, IsSomeBelow}
use Rattle.mixed_claims.specs.declared.pairs.Pairs.{Pairs}
use Rattle.mixed_claims.specs.declared.pairs.Pairs.TheVariants.{Every, One}
use Rattle.mixed_claims.specs.declared.sums.Reading.{Reading}
use Rattle.mixed_claims.specs.declared.sums.Reading.TheVariants.{Own, Opposite}

-- the term stands at 0 or at one of d variables, and has a number as a program may have it
abbrev pub IsTermOf : ℕ → theory.Term → Type 0
IsTermOf d t = (t.coord ≤ d) × IsNumberWithin (2 ^ 31) t

abbrev pub IsClaimOf : ℕ → Claim → Type 0
IsClaimOf d claim = All (IsTermOf d) claim.left.terms × All (IsTermOf d) claim.right.terms

-- a term as it stands, or its opposite
abbrev pub read_term : Reading → ℕ → Term → theory.Term
read_term Own d t = term_of t
read_term Opposite d t = opposite_term d (term_of t)

abbrev pub read_terms : Reading → ℕ → List Term → List theory.Term
read_terms reading d ts = map (read_term reading d) ts

-- the sum of terms that are read, as a side in coordinate 0, one for each of d variables and one for its opposite
abbrev pub read_side : {V : Type 0} → Semiring V → Numbering V → Reading → ℕ → List Term → List V
read_side R N reading d ts = side R N (suc (2 * d)) (read_terms reading d ts)

-- the greatest of the first terms is at most that of the others
abbrev pub read_inequality : {V : Type 0} → Semiring V → Numbering V → Reading → ℕ → List Term → List Term
    → Inequality V
read_inequality R N reading d ls rs = at_most false (read_side R N reading d ls) (read_side R N reading d rs)

-- the first term is at most the second on the combinations of the rows
abbrev pub IsPairOn : {V : Type 0} → Semiring V → Numbering V → ℕ → RowList V → Term → Term → Type 0
IsPairOn R N d rows l r = IsPairBelow R N d rows.n (IsCombination R rows.n rows.rows) (term_of l) (term_of r)

-- the first side is at most the second on the combinations of the rows, where both are read as their greatest or both
-- as their least
abbrev pub IsAlikeBelow : {V : Type 0} → Semiring V → Numbering V → ℕ → RowList V → Side → Side → Type 0
IsAlikeBelow R N d rows l r =
    ((IsReadAs Greatest l × IsReadAs Greatest r)
    × IsSumBelow R N d rows.n (IsCombination R rows.n rows.rows) l.terms r.terms)
    ⊎ ((IsReadAs Least l × IsReadAs Least r)
    × IsOppositeBelow R N d rows.n (IsCombination R rows.n rows.rows) l.terms r.terms)

-- the first terms are at most the others by these pairs of them, on the combinations of the rows
abbrev pub ArePairsBelow : {V : Type 0} → Semiring V → Numbering V → ℕ → RowList V → Pairs → List theory.Term
    → List theory.Term → Type 0
ArePairsBelow R N d rows Every ls rs = IsEachBelow R N d rows.n (IsCombination R rows.n rows.rows) ls rs
ArePairsBelow R N d rows One ls rs = IsSomeBelow R N d rows.n (IsCombination R rows.n rows.rows) ls rs

-- the pairs that are asked for where the first side is read with this word: some pair shows that its least is at most
-- the greatest of the other, and each pair that its greatest is at most the least
abbrev pub pairs_for : SideWord → Pairs
pairs_for Least = One
pairs_for Greatest = Every
pairs_for words.One = Every

-- where one is read as its greatest and the other as its least
abbrev pub IsMixedBelow : {V : Type 0} → Semiring V → Numbering V → ℕ → RowList V → Side → Side → Type 0
IsMixedBelow R N d rows l r =
    ((IsReadAs Greatest l × IsReadAs Least r) × ArePairsBelow R N d rows Every l.terms r.terms)
    ⊎ ((IsReadAs Least l × IsReadAs Greatest r) × ArePairsBelow R N d rows One l.terms r.terms)
