-- The bytes of each part are those of the one text by which a program is printed.
-- Index: program_inked, whole_program.
use Rattle.std.proofs.Common.{◌≡◌, ℕ, zero, suc, ℤ, pos, negsuc, Bool, true, false, List, [], ◌∷◌, ◌++◌, codes, decimal, refl, sym, ap, ◌∙◌, append_assoc}
use Rattle.std.proofs.lemmas.List.{append-nil}
use Rattle.prog_theory.specs.States.{Term}
use Rattle.prog_theory.specs.Conditions.{Cond, Any, Atom, Not, And, Or}
use Rattle.prog_theory.specs.Statements.{SideWord, One, Greatest, Least, Claim, Stmt, Set, Havoc, Assume, Assert, If, While, Skip, Block, Empty, Then}
use Rattle.prog_theory.specs.Nesting.{Level, Loose, Tight, Single, is_single, not_loose}
use Rattle.prog_theory.specs.Named.{Named}
use Rattle.prog_texts.specs.Inks.{Ink, Says, Name, Blank, Feed, ink_text, inks_text, name_text}
use Rattle.prog_texts.specs.Printed.{constant_inks, added_inks, moved_inks, term_inks, cmp_text, bracketed, between, cond_inks, rel_text, more_inks, terms_inks, side_inks, claim_inks, indent, ended, closing, else_inks, stmt_inks, block_inks, names_inks, printed}
use Rattle.prog_print.specs.Texts.{constant_text, shift_text, moved_text, term_text, where_so, cond_text, more_text, terms_text, side_text, claim_text, indent_text, else_text, end_text, stmt_text, block_text, names_text, program_text}

module _ (names : List (List ℕ)) where
  abbrev T : List Ink → List ℕ
  T is = inks_text names is

  inks_append : (is js : List Ink) → T (is ++ js) ≡ T is ++ T js
  inks_append [] js = refl
  inks_append (i ∷ is) js = ap (λ t. ink_text names i ++ t) (inks_append is js)
      ∙ sym (append_assoc (ink_text names i) (T is) (T js))

  -- two parts, of which the texts are known
  both : (is js : List Ink) (s t : List ℕ) → T is ≡ s → T js ≡ t → T (is ++ js) ≡ s ++ t
  both is js s t e f = inks_append is js ∙ ap (λ x. x ++ T js) e ∙ ap (λ x. s ++ x) f

  constant_inked : (n : ℤ) → T (constant_inks n) ≡ constant_text n
  constant_inked (pos n) = append-nil (decimal n)
  constant_inked (negsuc n) = ap (λ t. codes "-" ++ t) (append-nil (decimal (suc n)))

  added_inked : (n : ℤ) → T (added_inks n) ≡ shift_text n
  added_inked (pos zero) = refl
  added_inked (pos (suc n)) = ap (λ t. codes " + " ++ t) (append-nil (decimal (suc n)))
  added_inked (negsuc n) = ap (λ t. codes " - " ++ t) (append-nil (decimal (suc n)))

  moved_inked : (i : ℕ) (n : ℤ) → T (moved_inks i n) ≡ moved_text names i n
  moved_inked zero n = constant_inked n
  moved_inked (suc place) n = ap (λ t. name_text names (suc place) ++ t) (added_inked n)

  term_inked : (t : Term) → T (term_inks t) ≡ term_text names t
  term_inked t = moved_inked t.coord t.add

  -- a sign with blanks around it
  between_inked : (is : List Ink) (sign : List ℕ) (js : List Ink) (s t : List ℕ) → T is ≡ s → T js ≡ t →
      T (between is sign js) ≡ s ++ (codes " " ++ (sign ++ (codes " " ++ t)))
  between_inked is sign js s t e f = both is (Blank ∷ Says sign ∷ Blank ∷ js) s _ e
      (ap (λ x. codes " " ++ (sign ++ (codes " " ++ x))) f)

  bracketed_inked : (b : Bool) (is : List Ink) (s : List ℕ) → T is ≡ s →
      T (bracketed b is) ≡ where_so b (codes "(") ++ (s ++ where_so b (codes ")"))
  bracketed_inked true is s e = ap (λ x. codes "(" ++ x) (both is (Says (codes ")") ∷ []) s (codes ")") e refl)
  bracketed_inked false is s e = e ∙ sym (append-nil s)

  regroup : (a b c d : List ℕ) → (a ++ (b ++ c)) ++ d ≡ a ++ (b ++ (c ++ d))
  regroup a b c d = append_assoc a (b ++ c) d ∙ ap (λ x. a ++ x) (append_assoc b c d)

  cond_inked : (l : Level) (c : Cond) → T (cond_inks l c) ≡ cond_text names l c
  cond_inked l Any = refl
  cond_inked l (Atom a c b) = between_inked (term_inks a) (cmp_text c) (term_inks b) _ _ (term_inked a) (term_inked b)
  cond_inked l (Not c) = ap (λ x. codes "!" ++ x) (cond_inked Single c)
  cond_inked l (And a b) = bracketed_inked (is_single l) (between (cond_inks Tight a) (codes "&&") (cond_inks Single
      b)) _
      (between_inked (cond_inks Tight a) (codes "&&") (cond_inks Single b) _ _ (cond_inked Tight a) (cond_inked Single
      b))
      ∙ ap (λ x. where_so (is_single l) (codes "(") ++ x) (regroup (cond_text names Tight a) (codes " && ")
      (cond_text names Single b) (where_so (is_single l) (codes ")")))
  cond_inked l (Or a b) = bracketed_inked (not_loose l) (between (cond_inks Loose a) (codes "||") (cond_inks Tight b)) _
      (between_inked (cond_inks Loose a) (codes "||") (cond_inks Tight b) _ _ (cond_inked Loose a) (cond_inked Tight b))
      ∙ ap (λ x. where_so (not_loose l) (codes "(") ++ x) (regroup (cond_text names Loose a) (codes " || ")
      (cond_text names Tight b) (where_so (not_loose l) (codes ")")))

  more_inked : (ts : List Term) → T (more_inks ts) ≡ more_text names ts
  more_inked [] = refl
  more_inked (t ∷ ts) = ap (λ x. codes ", " ++ x) (both (term_inks t) (more_inks ts) _ _ (term_inked t) (more_inked ts))

  terms_inked : (ts : List Term) → T (terms_inks ts) ≡ terms_text names ts
  terms_inked [] = refl
  terms_inked (t ∷ ts) = both (term_inks t) (more_inks ts) _ _ (term_inked t) (more_inked ts)

  side_inked : (word : SideWord) (ts : List Term) → T (side_inks word ts) ≡ side_text names word ts
  side_inked One ts = terms_inked ts
  side_inked Greatest ts = ap (λ x. codes "max(" ++ x) (both (terms_inks ts) (Says (codes ")") ∷ []) _ _ (terms_inked
      ts) refl)
  side_inked Least ts = ap (λ x. codes "min(" ++ x) (both (terms_inks ts) (Says (codes ")") ∷ []) _ _ (terms_inked ts)
      refl)

  claim_inked : (c : Claim) → T (claim_inks c) ≡ claim_text names c
  claim_inked c = between_inked (side_inks c.left.word c.left.terms) (rel_text c.rel)
      (side_inks c.right.word c.right.terms) _ _ (side_inked c.left.word c.left.terms)
      (side_inked c.right.word c.right.terms)

  indent_inked : (n : ℕ) → T (indent n) ≡ indent_text n
  indent_inked zero = refl
  indent_inked (suc n) = ap (λ x. codes "  " ++ x) (indent_inked n)

  end_inked : (n : ℕ) → T (indent n ++ closing) ≡ end_text n
  end_inked n = both (indent n) closing _ _ (indent_inked n) refl

  ended_inked : (is : List Ink) (s : List ℕ) → T is ≡ s → T (ended is) ≡ s ++ codes ";\n"
  ended_inked is s e = both is (Says (codes ";") ∷ Feed ∷ []) s (codes ";\n") e refl

  else_inked : (n : ℕ) (b : Block) (is : List Ink) (s : List ℕ) → T is ≡ s → (b ≡ Empty → s ≡ []) →
      T (else_inks n b is) ≡ else_text n b ++ s
  else_inked n Empty is s e none = sym (none refl)
  else_inked n (Then x xs) is s e none =
      both (indent n) (Says (codes "}") ∷ Blank ∷ Says (codes "else") ∷ Blank ∷ Says (codes "{") ∷ Feed ∷ is)
      (indent_text n) (codes "} else {\n" ++ s) (indent_inked n) (ap (λ x. codes "} else {\n" ++ x) e)
      ∙ sym (append_assoc (indent_text n) (codes "} else {\n") s)

  none_printed : (n : ℕ) (b : Block) → b ≡ Empty → block_text names n b ≡ []
  none_printed n b e = ap (block_text names n) e

  mutual
    stmt_inked : (n : ℕ) (x : Stmt) → T (stmt_inks n x) ≡ stmt_text names n x
    stmt_inked n (Set i t) =
        ended_inked (Name i ∷ Blank ∷ Says (codes ":=") ∷ Blank ∷ term_inks t) (name_text names i ++ (codes " := " ++
        term_text names t))
        (ap (λ x. name_text names i ++ (codes " := " ++ x)) (term_inked t))
        ∙ append_assoc (name_text names i) (codes " := " ++ term_text names t) (codes ";\n")
    stmt_inked n (Havoc i) =
        ended_inked (Says (codes "havoc") ∷ Blank ∷ Name i ∷ []) (codes "havoc " ++ name_text names i)
        (ap (λ x. codes "havoc " ++ x) (append-nil (name_text names i)))
    stmt_inked n (Assume c) =
        ended_inked (Says (codes "assume") ∷ Blank ∷ cond_inks Loose c) (codes "assume " ++ cond_text names Loose c)
        (ap (λ x. codes "assume " ++ x) (cond_inked Loose c))
    stmt_inked n (Assert c) =
        ended_inked (Says (codes "assert") ∷ Blank ∷ claim_inks c) (codes "assert " ++ claim_text names c)
        (ap (λ x. codes "assert " ++ x) (claim_inked c))
    stmt_inked n (If c a b) =
        ap (λ x. codes "if " ++ x) (both (cond_inks Loose c) (Blank ∷ Says (codes "{") ∷ Feed ∷ (block_inks (suc n) a
        ++ (else_inks n b (block_inks (suc n) b) ++ (indent n ++ closing)))) _ _ (cond_inked Loose c)
        (ap (λ x. codes " {\n" ++ x) (both (block_inks (suc n) a)
        (else_inks n b (block_inks (suc n) b) ++ (indent n ++ closing)) _ _ (block_inked (suc n) a)
        (both (else_inks n b (block_inks (suc n) b)) (indent n ++ closing) _ _
        (else_inked n b (block_inks (suc n) b) _ (block_inked (suc n) b) (none_printed (suc n) b)) (end_inked n)
        ∙ append_assoc (else_text n b) (block_text names (suc n) b) (end_text n)))))
    stmt_inked n (While c a) =
        ap (λ x. codes "while " ++ x) (both (cond_inks Loose c) (Blank ∷ Says (codes "{") ∷ Feed ∷ (block_inks (suc n) a
        ++ (indent n ++ closing))) _ _ (cond_inked Loose c)
        (ap (λ x. codes " {\n" ++ x) (both (block_inks (suc n) a) (indent n ++ closing) _ _ (block_inked (suc n) a)
        (end_inked n))))
    stmt_inked n Skip = refl

    block_inked : (n : ℕ) (b : Block) → T (block_inks n b) ≡ block_text names n b
    block_inked n Empty = refl
    block_inked n (Then x xs) = both (indent n) (stmt_inks n x ++ block_inks n xs) _ _ (indent_inked n)
        (both (stmt_inks n x) (block_inks n xs) _ _ (stmt_inked n x) (block_inked n xs))

  names_inked : (xs : List (List ℕ)) → T (names_inks xs) ≡ names_text xs
  names_inked [] = refl
  names_inked (x ∷ xs) = ap (λ t. codes " " ++ (x ++ t)) (names_inked xs)

pub program_inked : (p : Named) → printed p ≡ program_text p
program_inked p = ap (λ x. codes "vars" ++ x) (both p.names (names_inks p.names)
    (Says (codes ";") ∷ Feed ∷ block_inks 0 p.body) _ _ (names_inked p.names p.names)
    (ap (λ x. codes ";\n" ++ x) (block_inked p.names 0 p.body)))

-- the parts of a program one behind the other
pub whole_program : (p : Named) (old first second third : List ℕ) (xs ys : List (List ℕ)) (b : Block) →
    first ≡ old ++ codes "vars" → second ≡ first ++ names_text xs → third ≡ second ++ codes ";\n" → xs ≡ p.names →
    ys ≡ p.names → b ≡ p.body → third ++ block_text ys 0 b ≡ old ++ printed p
whole_program p old first second third xs ys b f s t e d g =
    ap (λ x. x ++ block_text ys 0 b) (t ∙ ap (λ x. x ++ codes ";\n") (s ∙ ap (λ x. x ++ names_text xs) f))
    ∙ append_assoc ((old ++ codes "vars") ++ names_text xs) (codes ";\n") (block_text ys 0 b)
    ∙ append_assoc (old ++ codes "vars") (names_text xs) (codes ";\n" ++ block_text ys 0 b)
    ∙ append_assoc old (codes "vars") (names_text xs ++ (codes ";\n" ++ block_text ys 0 b))
    ∙ ap (λ x. old ++ (codes "vars" ++ (names_text x ++ (codes ";\n" ++ block_text ys 0 b)))) e
    ∙ ap (λ x. old ++ (codes "vars" ++ (names_text p.names ++ (codes ";\n" ++ block_text x 0 b)))) d
    ∙ ap (λ x. old ++ (codes "vars" ++ (names_text p.names ++ (codes ";\n" ++ block_text p.names 0 x)))) g
    ∙ ap (λ x. old ++ x) (sym (program_inked p))
