-- A program that searches two lists, read to its tree.
use Rattle.std.proofs.Common.{◌≡◌, ℕ, pos, List, [], ◌∷◌, codes, Ok, refl}
use Rattle.std.specs.Fmt.{digits}
use Rattle.trop_grammar.specs.Reading.{read_then, gives, token_at}
use Rattle.trop_text.specs.Tokens.{tokens_past, sign_len, tail_len}
use Rattle.trop_text.specs.Pieces.{pieces_from}
use Rattle.shape_grammar.specs.Past.{past}
use Rattle.shape_grammar.specs.Steps.{token_past, maybe_past, many_from, many_past}
use Rattle.prog_texts.specs.Operands.{moved_at, operand_rest}
use Rattle.prog_texts.specs.Conditions.{link_at, chain_at, compared_at, bracket_at, negation_rest, negation_at}
use Rattle.prog_texts.specs.Claims.{next_term_at, terms_from, listed_at, side_rest, side_at, claim_at}
use Rattle.prog_texts.specs.Statements.{block_at, statement_rest, one_more_at, statements_at}
use Rattle.prog_theory.specs.States.{Term}
use Rattle.prog_theory.specs.Conditions.{Lt, Ge, Atom, And}
use Rattle.prog_theory.specs.Statements.{Set, Havoc, Assume, Assert, If, While, Empty, Then, Least, Same, Side}
use Rattle.prog_theory.specs.Limits.{program_limits}
use Rattle.prog_texts.specs.AssertRule.{MinOnly}
use Rattle.prog_texts.specs.Words.{counted, program_pieces}
use Rattle.prog_texts.specs.Printed.{printed}
use Rattle.prog_theory.specs.Named.{Named}
use Rattle.prog_texts.specs.Programs.{declared_at, declaration_at, program_at, whole_program_at}

abbrev x : ℕ → Term
x i = record { coord = i; add = pos 0 }

abbrev number : ℕ → Term
number n = record { coord = 0; add = pos n }

abbrev least : Term → Term → Side
least s t = record { word = Least; terms = s ∷ t ∷ [] }

abbrev search : List ℕ
search =
    codes
    "vars ls n ld;\nassume ls >= 0;\nld := 0;\nwhile ld < n && ld < ls {\n  ld := ld + 1;\n}\nif ld >= n {\n  havoc ld;\n  assume ld >= n;\n}\nassert min(ls, n) = min(ld, n);\n"

abbrev tree : Named
tree = record {
  names = codes "ls" ∷ codes "n" ∷ codes "ld" ∷ [];
  body =
      Then (Assume (Atom (x 1) Ge (number 0)))
      (Then (Set 3 (number 0))
      (Then (While (And (Atom (x 3) Lt (x 2)) (Atom (x 3) Lt (x 1)))
      (Then (Set 3 (record { coord = 3; add = pos 1 })) Empty))
      (Then (If (Atom (x 3) Ge (x 2)) (Then (Havoc 3) (Then (Assume (Atom (x 3) Ge (x 2))) Empty)) Empty)
      (Then (Assert (record { left = least (x 1) (x 2); rel = Same; right = least (x 3) (x 2) })) Empty))));
}

search_read : whole_program_at program_limits MinOnly (program_pieces search) ≡ Ok (tree, [])
unfolding whole_program_at program_at declaration_at declared_at statements_at one_more_at statement_rest block_at
    claim_at side_at side_rest listed_at terms_from next_term_at negation_at negation_rest bracket_at compared_at
    chain_at link_at operand_rest moved_at counted pieces_from tokens_past sign_len tail_len past token_past maybe_past
    many_from many_past token_at read_then gives
search_read = refl

-- and the tree is printed as the text
tree_printed : printed tree ≡ search
unfolding digits
tree_printed = refl
