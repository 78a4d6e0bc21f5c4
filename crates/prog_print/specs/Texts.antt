-- The bytes of each part of a printed program. They are those of the one text by which a program is printed:
-- `proofs/Inked` shows it, part by part.
use Rattle.std.specs.Prelude.{ℕ, zero, suc, ℤ, pos, negsuc, Bool, true, false, List, [], ◌∷◌, ◌++◌, codes, decimal}
use Rattle.prog_theory.specs.States.{Term}
use Rattle.prog_theory.specs.Conditions.{Cond, Any, Atom, Not, And, Or}
use Rattle.prog_theory.specs.Statements.{SideWord, One, Greatest, Least, Claim, Stmt, Set, Havoc, Assume, Assert, If, While, Skip, Block, Empty, Then}
use Rattle.prog_theory.specs.Nesting.{Level, Loose, Tight, Single, is_single, not_loose}
use Rattle.prog_theory.specs.Named.{Named}
use Rattle.prog_texts.specs.Inks.{name_text}
use Rattle.prog_texts.specs.Printed.{cmp_text, rel_text}

-- a number alone
abbrev pub constant_text : ℤ → List ℕ
constant_text (pos n) = decimal n
constant_text (negsuc n) = codes "-" ++ decimal (suc n)

-- what stands behind a variable that a number is added to
abbrev pub shift_text : ℤ → List ℕ
shift_text (pos zero) = []
shift_text (pos (suc n)) = codes " + " ++ decimal (suc n)
shift_text (negsuc n) = codes " - " ++ decimal (suc n)

abbrev pub moved_text : List (List ℕ) → ℕ → ℤ → List ℕ
moved_text names zero n = constant_text n
moved_text names (suc place) n = name_text names (suc place) ++ shift_text n

abbrev pub term_text : List (List ℕ) → Term → List ℕ
term_text names t = moved_text names t.coord t.add

-- the text, or nothing
abbrev pub where_so : Bool → List ℕ → List ℕ
where_so true text = text
where_so false text = []

abbrev pub cond_text : List (List ℕ) → Level → Cond → List ℕ
cond_text names l Any = codes "?"
cond_text names l (Atom a c b) = term_text names a ++ (codes " " ++ (cmp_text c ++ (codes " " ++ term_text names b)))
cond_text names l (Not c) = codes "!" ++ cond_text names Single c
cond_text names l (And a b) = where_so (is_single l) (codes "(") ++ (cond_text names Tight a
    ++ (codes " && " ++ (cond_text names Single b ++ where_so (is_single l) (codes ")"))))
cond_text names l (Or a b) = where_so (not_loose l) (codes "(") ++ (cond_text names Loose a
    ++ (codes " || " ++ (cond_text names Tight b ++ where_so (not_loose l) (codes ")"))))

-- each term behind a comma
abbrev pub more_text : List (List ℕ) → List Term → List ℕ
more_text names [] = []
more_text names (t ∷ ts) = codes ", " ++ (term_text names t ++ more_text names ts)

abbrev pub terms_text : List (List ℕ) → List Term → List ℕ
terms_text names [] = []
terms_text names (t ∷ ts) = term_text names t ++ more_text names ts

abbrev pub side_text : List (List ℕ) → SideWord → List Term → List ℕ
side_text names One ts = terms_text names ts
side_text names Greatest ts = codes "max(" ++ (terms_text names ts ++ codes ")")
side_text names Least ts = codes "min(" ++ (terms_text names ts ++ codes ")")

abbrev pub claim_text : List (List ℕ) → Claim → List ℕ
claim_text names c = side_text names c.left.word c.left.terms
    ++ (codes " " ++ (rel_text c.rel ++ (codes " " ++ side_text names c.right.word c.right.terms)))

-- two blanks for each block around
abbrev pub indent_text : ℕ → List ℕ
indent_text zero = []
indent_text (suc n) = codes "  " ++ indent_text n

-- the line between the blocks, where the second one is not empty
abbrev pub else_text : ℕ → Block → List ℕ
else_text n Empty = []
else_text n (Then x xs) = indent_text n ++ codes "} else {\n"

-- the line behind a block
abbrev pub end_text : ℕ → List ℕ
end_text n = indent_text n ++ codes "}\n"

-- a statement, and a block, inside n blocks
abbrev mutual
  pub stmt_text : List (List ℕ) → ℕ → Stmt → List ℕ
  stmt_text names n (Set i t) = name_text names i ++ (codes " := " ++ (term_text names t ++ codes ";\n"))
  stmt_text names n (Havoc i) = codes "havoc " ++ (name_text names i ++ codes ";\n")
  stmt_text names n (Assume c) = codes "assume " ++ (cond_text names Loose c ++ codes ";\n")
  stmt_text names n (Assert c) = codes "assert " ++ (claim_text names c ++ codes ";\n")
  stmt_text names n (If c a b) = codes "if " ++ (cond_text names Loose c ++ (codes " {\n"
      ++ (block_text names (suc n) a ++ (else_text n b ++ (block_text names (suc n) b ++ end_text n)))))
  stmt_text names n (While c a) = codes "while " ++ (cond_text names Loose c ++ (codes " {\n"
      ++ (block_text names (suc n) a ++ end_text n)))
  stmt_text names n Skip = codes "skip;\n"

  pub block_text : List (List ℕ) → ℕ → Block → List ℕ
  block_text names n Empty = []
  block_text names n (Then x xs) = indent_text n ++ (stmt_text names n x ++ block_text names n xs)

-- each name behind a blank
abbrev pub names_text : List (List ℕ) → List ℕ
names_text [] = []
names_text (x ∷ xs) = codes " " ++ (x ++ names_text xs)

abbrev pub program_text : Named → List ℕ
program_text p = codes "vars" ++ (names_text p.names ++ (codes ";\n" ++ block_text p.names 0 p.body))
