-- The one text by which a program is printed.
use Rattle.std.specs.Prelude.{ℕ, zero, suc, ℤ, pos, negsuc, Bool, true, false, List, [], ◌∷◌, ◌++◌, codes}
use Rattle.prog_theory.specs.States.{Term}
use Rattle.prog_theory.specs.Conditions.{Cmp, Le, Lt, Ge, Gt, Eq, Ne, Cond, Any, Atom, Not, And, Or}
use Rattle.prog_theory.specs.Statements.{Rel, AtMost, AtLeast, Same, SideWord, One, Greatest, Least, Claim, Stmt, Set, Havoc, Assume, Assert, If, While, Skip, Block, Empty, Then}
use Rattle.prog_theory.specs.Nesting.{Level, Loose, Tight, Single, is_single, not_loose}
use Rattle.prog_texts.specs.Inks.{Ink, Says, Name, Number, Blank, Feed, inks_text}
use Rattle.prog_theory.specs.Named.{Named}

-- ---- operands

-- a number alone
abbrev pub constant_inks : ℤ → List Ink
constant_inks (pos n) = Number n ∷ []
constant_inks (negsuc n) = Says (codes "-") ∷ Number (suc n) ∷ []

-- a number added to a variable
abbrev pub added_inks : ℤ → List Ink
added_inks (pos zero) = []
added_inks (pos (suc n)) = Blank ∷ Says (codes "+") ∷ Blank ∷ Number (suc n) ∷ []
added_inks (negsuc n) = Blank ∷ Says (codes "-") ∷ Blank ∷ Number (suc n) ∷ []

abbrev pub moved_inks : ℕ → ℤ → List Ink
moved_inks zero n = constant_inks n
moved_inks (suc place) n = Name (suc place) ∷ added_inks n

abbrev pub term_inks : Term → List Ink
term_inks t = moved_inks t.coord t.add

-- ---- conditions

abbrev pub cmp_text : Cmp → List ℕ
cmp_text Le = codes "<="
cmp_text Lt = codes "<"
cmp_text Ge = codes ">="
cmp_text Gt = codes ">"
cmp_text Eq = codes "=="
cmp_text Ne = codes "!="

abbrev pub bracketed : Bool → List Ink → List Ink
bracketed true is = Says (codes "(") ∷ (is ++ Says (codes ")") ∷ [])
bracketed false is = is

-- a sign with blanks around it
abbrev pub between : List Ink → List ℕ → List Ink → List Ink
between is sign js = is ++ Blank ∷ Says sign ∷ Blank ∷ js

abbrev pub cond_inks : Level → Cond → List Ink
cond_inks l Any = Says (codes "?") ∷ []
cond_inks l (Atom a c b) = between (term_inks a) (cmp_text c) (term_inks b)
cond_inks l (Not c) = Says (codes "!") ∷ cond_inks Single c
cond_inks l (And a b) = bracketed (is_single l) (between (cond_inks Tight a) (codes "&&") (cond_inks Single b))
cond_inks l (Or a b) = bracketed (not_loose l) (between (cond_inks Loose a) (codes "||") (cond_inks Tight b))

-- ---- claims

abbrev pub rel_text : Rel → List ℕ
rel_text AtMost = codes "<="
rel_text AtLeast = codes ">="
rel_text Same = codes "="

-- each term behind a comma
abbrev pub more_inks : List Term → List Ink
more_inks [] = []
more_inks (t ∷ ts) = Says (codes ",") ∷ Blank ∷ (term_inks t ++ more_inks ts)

abbrev pub terms_inks : List Term → List Ink
terms_inks [] = []
terms_inks (t ∷ ts) = term_inks t ++ more_inks ts

abbrev pub side_inks : SideWord → List Term → List Ink
side_inks One ts = terms_inks ts
side_inks Greatest ts = Says (codes "max") ∷ Says (codes "(") ∷ (terms_inks ts ++ Says (codes ")") ∷ [])
side_inks Least ts = Says (codes "min") ∷ Says (codes "(") ∷ (terms_inks ts ++ Says (codes ")") ∷ [])

abbrev pub claim_inks : Claim → List Ink
claim_inks c = between (side_inks c.left.word c.left.terms) (rel_text c.rel) (side_inks c.right.word c.right.terms)

-- ---- statements

-- two blanks for each block around
abbrev pub indent : ℕ → List Ink
indent zero = []
indent (suc n) = Blank ∷ Blank ∷ indent n

abbrev pub ended : List Ink → List Ink
ended is = is ++ Says (codes ";") ∷ Feed ∷ []

abbrev pub closing : List Ink
closing = Says (codes "}") ∷ Feed ∷ []

-- what stands behind the first block, before the last `}`: nothing, or `} else {` and the second block
abbrev pub else_inks : ℕ → Block → List Ink → List Ink
else_inks n Empty is = []
else_inks n (Then x xs) is = indent n ++ Says (codes "}") ∷ Blank ∷ Says (codes "else") ∷ Blank ∷ Says
    (codes "{") ∷ Feed ∷ is

-- a statement, and a block, inside n blocks
abbrev mutual
  pub stmt_inks : ℕ → Stmt → List Ink
  stmt_inks n (Set i t) = ended (Name i ∷ Blank ∷ Says (codes ":=") ∷ Blank ∷ term_inks t)
  stmt_inks n (Havoc i) = ended (Says (codes "havoc") ∷ Blank ∷ Name i ∷ [])
  stmt_inks n (Assume c) = ended (Says (codes "assume") ∷ Blank ∷ cond_inks Loose c)
  stmt_inks n (Assert c) = ended (Says (codes "assert") ∷ Blank ∷ claim_inks c)
  stmt_inks n (If c a b) =
      Says (codes "if") ∷ Blank ∷ (cond_inks Loose c ++ Blank ∷ Says (codes "{") ∷ Feed ∷
      (block_inks (suc n) a ++ (else_inks n b (block_inks (suc n) b) ++ (indent n ++ closing))))
  stmt_inks n (While c a) = Says (codes "while") ∷ Blank ∷
      (cond_inks Loose c ++ Blank ∷ Says (codes "{") ∷ Feed ∷ (block_inks (suc n) a ++ (indent n ++ closing)))
  stmt_inks n Skip = ended (Says (codes "skip") ∷ [])

  pub block_inks : ℕ → Block → List Ink
  block_inks n Empty = []
  block_inks n (Then x xs) = indent n ++ (stmt_inks n x ++ block_inks n xs)

-- ---- programs

-- each name behind a blank
abbrev pub names_inks : List (List ℕ) → List Ink
names_inks [] = []
names_inks (x ∷ xs) = Blank ∷ Says x ∷ names_inks xs

abbrev pub program_inks : Named → List Ink
program_inks p = Says (codes "vars") ∷ (names_inks p.names ++ Says (codes ";") ∷ Feed ∷ block_inks 0 p.body)

abbrev pub printed : Named → List ℕ
printed p = inks_text p.names (program_inks p)
