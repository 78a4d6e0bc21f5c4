-- Small reports, read to their values and printed back, and the first faults of some texts.
-- Index: empty, empty_text, empty_read, empty_printed, empty_first, ten, ten_text, ten_read, ten_printed, start, heads,
-- tokens, lines.
use Rattle.std.proofs.Common.{◌≡◌, ℕ, ℤ, pos, negsuc, List, [], ◌∷◌, ◌++◌, codes, Option, Some, None, Ok, Err, refl}
use Rattle.std.specs.Fmt.{digits as number_digits}
use Rattle.trop_text.specs.declared.fault.Fault.{Fault}
use Rattle.trop_text.specs.declared.fault.Fault.TheVariants.{Syntax, NumberRange, UnknownName, ReportFault}
use Rattle.trop_grammar.specs.Reading.{read_then, gives, token_at, option_at, repeat_at, until_at}
use Rattle.trop_grammar.specs.Lists.{separated_step, separated_last, separated_from, separated_at}
use Rattle.trop_text.specs.Lines.{past_lines}
use Rattle.trop_text.specs.Tokens.{tokens_past, sign_len, tail_len}
use Rattle.trop_text.specs.Pieces.{pieces_from}
use Rattle.trop_reading.specs.Words.{number}
use Rattle.trop_spelling.specs.Elements.{behind_minus, behind_at, element_at, next_entry_at, row_at}
use Rattle.trop_spelling.specs.Parts.{row_line_at}
use Rattle.trop_spelling.specs.Inequalities.{variable, max_term, term_start, shifted_at, numeric_rest_at, term_rest_at, term_at, terms_at, side_rest_at, side_at, inequality_rest_at, inequality_at}
use Rattle.shape_grammar.specs.Past.{past}
use Rattle.shape_grammar.specs.Steps.{token_past, maybe_past, many_from, many_past}
use Rattle.prog_texts.specs.Operands.{moved_at, operand_rest}
use Rattle.prog_texts.specs.Conditions.{link_at, chain_at, compared_at, bracket_at, negation_rest, negation_at}
use Rattle.prog_texts.specs.Statements.{block_at, statement_rest, one_more_at, statements_at}
use Rattle.prog_texts.specs.Words.{counted}
use Rattle.prog_texts.specs.Programs.{declared_at, declaration_at, program_at}
use Rattle.report_texts.specs.LineTexts.{line_word, label_rest_at, line_rest_at, line_at}
use Rattle.report_texts.specs.Heads.{word_line_at, version_at, narrow_line_at, head_at}
use Rattle.report_texts.specs.ProgramParts.{ended_at, program_part_at}
use Rattle.report_texts.specs.Bodies.{body_from, body_at}
use Rattle.trop_theory.specs.Inequalities.{Inequality}
use Rattle.prog_theory.specs.Conditions.{Lt, Atom}
use Rattle.prog_theory.specs.Statements.{Set, While, Empty, Then}
use Rattle.report_texts.specs.Modes.{Element, InMax, InMin}
use Rattle.report_texts.specs.Reports.{ReportText}
use Rattle.report_texts.specs.Texts.{report_at, report_answer}
use Rattle.report_texts.specs.Printed.{printed_report}

-- ---- a program without a statement

abbrev empty : ReportText
empty = record {
  mode = InMin;
  delay = 2;
  narrow = 0;
  passes = 1;
  program = record { names = []; body = Empty };
  parts = record { rows = (Some (pos 0) ∷ []) ∷ []; printed = [] } ∷ [];
  verdicts = [];
}

abbrev empty_text : List ℕ
empty_text = codes
    "report 2\nmode min\ndelay 2\nnarrow 0\npasses 1\nprogram\nvars;\nend\nat 0 exit\npoint []\nend\n"

empty_read : report_answer empty_text ≡ Ok empty
unfolding report_at version_at word_line_at head_at narrow_line_at program_part_at ended_at body_at body_from line_at
    line_rest_at label_rest_at line_word row_line_at row_at next_entry_at element_at behind_at behind_minus
    inequality_at inequality_rest_at side_at side_rest_at terms_at term_at term_rest_at numeric_rest_at shifted_at
    term_start max_term variable separated_at separated_from separated_step separated_last until_at repeat_at option_at
    number
    program_at declaration_at declared_at statements_at one_more_at statement_rest block_at negation_at negation_rest
    bracket_at compared_at chain_at link_at operand_rest moved_at counted pieces_from tokens_past sign_len tail_len past
    token_past maybe_past many_from many_past token_at read_then gives past_lines
empty_read = refl

empty_printed : printed_report empty ≡ empty_text
unfolding number_digits
empty_printed = refl

-- in version 1 the same, with other layout
empty_first : report_answer (codes
    "report 1 # first\n\nmode min\ndelay 02\npasses 1\nprogram\nvars\n; end\nat 0 exit\n point [ ]\nend") ≡ Ok empty
unfolding report_at version_at word_line_at head_at narrow_line_at program_part_at ended_at body_at body_from line_at
    line_rest_at label_rest_at line_word row_line_at row_at next_entry_at element_at behind_at behind_minus
    inequality_at inequality_rest_at side_at side_rest_at terms_at term_at term_rest_at numeric_rest_at shifted_at
    term_start max_term variable separated_at separated_from separated_step separated_last until_at repeat_at option_at
    number
    program_at declaration_at declared_at statements_at one_more_at statement_rest block_at negation_at negation_rest
    bracket_at compared_at chain_at link_at operand_rest moved_at counted pieces_from tokens_past sign_len tail_len past
    token_past maybe_past many_from many_past token_at read_then gives past_lines
empty_first = refl

-- ---- a loop that counts to ten

-- one row in two coordinates, with coordinate 0 in front
abbrev point : Option ℤ → List Element
point a = Some (pos 0) ∷ a ∷ []

-- at most the number
abbrev at_most : ℤ → Inequality Element
at_most n = record { left = None ∷ Some (pos 0) ∷ []; right = Some n ∷ None ∷ [] }

-- with the number added, at least 0
abbrev at_least : ℤ → Inequality Element
at_least n = record { left = Some (pos 0) ∷ None ∷ []; right = None ∷ Some n ∷ [] }

abbrev ten : ReportText
ten = record {
  mode = InMax;
  delay = 0;
  narrow = 1;
  passes = 3;
  program = record {
    names = codes "i" ∷ [];
    body = Then (Set 1 (record { coord = 0; add = pos 0 }))
        (Then (While (Atom (record { coord = 1; add = pos 0 }) Lt (record { coord = 0; add = pos 10 }))
        (Then (Set 1 (record { coord = 1; add = pos 1 })) Empty)) Empty);
  };
  parts = record { rows = (None ∷ Some (pos 0) ∷ []) ∷ point None ∷ []; printed = [] }
      ∷ record {
        rows = point (Some (pos 0)) ∷ point (Some (pos 10)) ∷ [];
        printed = at_least (pos 0) ∷ at_most (pos 10) ∷ [];
      }
      ∷ record {
        rows = point (Some (pos 0)) ∷ point (Some (pos 9)) ∷ [];
        printed = at_least (pos 0) ∷ at_most (pos 9) ∷ [];
      }
      ∷ record { rows = point (Some (pos 10)) ∷ []; printed = at_least (negsuc 9) ∷ at_most (pos 10) ∷ [] }
      ∷ [];
  verdicts = [];
}

abbrev ten_text : List ℕ
ten_text = codes
    "report 2\nmode max\ndelay 0\nnarrow 1\npasses 3\nprogram\nvars i;\ni := 0;\nwhile i < 10 {\n  i := i + 1;\n}\nend\n" ++ codes
    "at 0 statement 0\nray [0]\npoint [-oo]\nat 1 statement 1\npoint [0]\npoint [10]\ninv 0 <= i\ninv i <= 10\n" ++
    codes
    "at 2 statement 2\npoint [0]\npoint [9]\ninv 0 <= i\ninv i <= 9\nat 3 exit\npoint [10]\ninv 0 <= i - 10\n" ++ codes
    "inv i <= 10\nend\n"

ten_read : report_answer ten_text ≡ Ok ten
unfolding report_at version_at word_line_at head_at narrow_line_at program_part_at ended_at body_at body_from line_at
    line_rest_at label_rest_at line_word row_line_at row_at next_entry_at element_at behind_at behind_minus
    inequality_at inequality_rest_at side_at side_rest_at terms_at term_at term_rest_at numeric_rest_at shifted_at
    term_start max_term variable separated_at separated_from separated_step separated_last until_at repeat_at option_at
    number
    program_at declaration_at declared_at statements_at one_more_at statement_rest block_at negation_at negation_rest
    bracket_at compared_at chain_at link_at operand_rest moved_at counted pieces_from tokens_past sign_len tail_len past
    token_past maybe_past many_from many_past token_at read_then gives past_lines
ten_read = refl

ten_printed : printed_report ten ≡ ten_text
unfolding number_digits
ten_printed = refl

-- a head and a program without a statement, in eight lines
abbrev start : List ℕ
start = codes "report 2\nmode min\ndelay 2\nnarrow 0\npasses 1\nprogram\nvars;\nend\n"

abbrev Faulty : List ℕ → Fault → Type 0
Faulty text fault = report_answer text ≡ Err fault

-- ---- faults: the head and the program

heads : Faulty (codes "report 3\nmode") (ReportFault 1)
    × Faulty (codes "report 3 x\nmode") (Syntax 1 10)
    × Faulty (codes "report -1\n") (Syntax 1 8)
    × Faulty (codes "report 1\nmode min\ndelay 2\nnarrow 0\n") (Syntax 4 1)
    × Faulty (codes "report 2\nmode min\ndelay 1001\n") (NumberRange 3)
    × Faulty (codes "report 2\nmode min\ndelay 2\nnarrow 0\npasses 1\nprogram vars;") (Syntax 6 9)
    × Faulty (codes "report 2\nmode min\ndelay 2\nnarrow 0\npasses 1\nprogram\nvars;\nend at") (Syntax 8 5)
    × Faulty (codes "report 2\nmode min\ndelay 2\nnarrow 0\npasses 1\nprogram\nvars x;\nx := y;") (UnknownName 8)
unfolding report_at version_at word_line_at head_at narrow_line_at program_part_at ended_at body_at body_from line_at
    line_rest_at label_rest_at line_word row_line_at row_at next_entry_at element_at behind_at behind_minus
    inequality_at inequality_rest_at side_at side_rest_at terms_at term_at term_rest_at numeric_rest_at shifted_at
    term_start max_term variable separated_at separated_from separated_step separated_last until_at repeat_at option_at
    number
    program_at declaration_at declared_at statements_at one_more_at statement_rest block_at negation_at negation_rest
    bracket_at compared_at chain_at link_at operand_rest moved_at counted pieces_from tokens_past sign_len tail_len past
    token_past maybe_past many_from many_past token_at read_then gives past_lines
heads = (refl, refl, refl, refl, refl, refl, refl, refl)

-- ---- faults: the lines behind it, where the token does not fit

tokens : Faulty start (Syntax 9 1)
    × Faulty (start ++ codes "at 0 inner x\n") (Syntax 9 12)
    × Faulty (start ++ codes "at 0 exit\npoint []\ninv x >= 1\n") (UnknownName 11)
    × Faulty (start ++ codes "at 0 exit\npoint []\ninv 0 >= 281474976710657\n") (NumberRange 11)
    × Faulty (start ++ codes "at 0 exit\npoint []\ninv 0 >= 1\npoint []\n") (Syntax 12 1)
    × Faulty (start ++ codes "at 0 exit\npoint []\nend\nend\n") (Syntax 12 1)
unfolding report_at version_at word_line_at head_at narrow_line_at program_part_at ended_at body_at body_from line_at
    line_rest_at label_rest_at line_word row_line_at row_at next_entry_at element_at behind_at behind_minus
    inequality_at inequality_rest_at side_at side_rest_at terms_at term_at term_rest_at numeric_rest_at shifted_at
    term_start max_term variable separated_at separated_from separated_step separated_last until_at repeat_at option_at
    number
    program_at declaration_at declared_at statements_at one_more_at statement_rest block_at negation_at negation_rest
    bracket_at compared_at chain_at link_at operand_rest moved_at counted pieces_from tokens_past sign_len tail_len past
    token_past maybe_past many_from many_past token_at read_then gives past_lines
tokens = (refl, refl, refl, refl, refl, refl)

-- ---- faults: the lines behind it, where the whole line is against the report

lines : Faulty (start ++ codes "at 1 exit\n") (ReportFault 9)
    × Faulty (start ++ codes "end\n") (ReportFault 9)
    × Faulty (start ++ codes "at 0 exit\nray []\n") (ReportFault 10)
    × Faulty (start ++ codes "at 0 exit\ninv 0 >= 1\n") (ReportFault 10)
    × Faulty (start ++ codes "at 0 exit\nend\n") (ReportFault 10)
    × Faulty (start ++ codes "at 0 exit\nunreachable\npoint []\n") (ReportFault 11)
    × Faulty (start ++ codes "at 0 exit\npoint []\nat 1 exit\n") (ReportFault 11)
    × Faulty (start ++ codes "at 0 exit\npoint []\nassert 0 proved\n") (ReportFault 11)
unfolding report_at version_at word_line_at head_at narrow_line_at program_part_at ended_at body_at body_from line_at
    line_rest_at label_rest_at line_word row_line_at row_at next_entry_at element_at behind_at behind_minus
    inequality_at inequality_rest_at side_at side_rest_at terms_at term_at term_rest_at numeric_rest_at shifted_at
    term_start max_term variable separated_at separated_from separated_step separated_last until_at repeat_at option_at
    number
    program_at declaration_at declared_at statements_at one_more_at statement_rest block_at negation_at negation_rest
    bracket_at compared_at chain_at link_at operand_rest moved_at counted pieces_from tokens_past sign_len tail_len past
    token_past maybe_past many_from many_past token_at read_then gives past_lines
lines = (refl, refl, refl, refl, refl, refl, refl, refl)
