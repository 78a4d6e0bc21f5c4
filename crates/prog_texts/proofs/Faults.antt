-- The first faults of some texts, and the value of a trace file.
use Rattle.std.proofs.Common.{◌≡◌, pos, neg_ℤ, [], ◌∷◌, codes, Ok, Err, refl}
use Rattle.trop_text.specs.Lines.{past_lines}
use Rattle.trop_text.specs.declared.fault.Fault.TheVariants.{Syntax, NumberRange, UnknownName, DuplicateName, TooManyVars, TooManyStatements, TooManyAtoms, TooDeep, AssertMode}
use Rattle.trop_grammar.specs.Reading.{read_then, gives, token_at}
use Rattle.trop_text.specs.Tokens.{tokens_past, sign_len, tail_len}
use Rattle.trop_text.specs.Pieces.{pieces_from}
use Rattle.shape_grammar.specs.Past.{past}
use Rattle.shape_grammar.specs.Steps.{token_past, maybe_past, many_from, many_past}
use Rattle.prog_texts.specs.Operands.{moved_at, operand_rest}
use Rattle.prog_texts.specs.Conditions.{link_at, chain_at, compared_at, bracket_at, negation_rest, negation_at}
use Rattle.prog_texts.specs.Claims.{next_term_at, terms_from, listed_at, side_rest, side_at, claim_at}
use Rattle.prog_texts.specs.Statements.{block_at, statement_rest, one_more_at, statements_at}
use Rattle.prog_theory.specs.Limits.{Limits}
use Rattle.prog_texts.specs.AssertRule.{MinOnly, Either}
use Rattle.prog_texts.specs.Words.{counted}
use Rattle.prog_texts.specs.Programs.{declared_at, declaration_at, program_at, whole_program_at}
use Rattle.prog_texts.specs.Rows.{entry_rest, next_entry_at, more_at, row_rest_at, row_at}
use Rattle.prog_texts.specs.Traces.{trace_of, trace_file_at}
use Rattle.prog_texts.specs.Answers.{program_within, program_answer, trace_answer}
use Rattle.prog_theory.specs.Statements.{Empty}

-- at most one atom
abbrev asks : Limits
asks = record { vars = 1; statements = 9; atoms = 1; depth = 1; number = 9; entry = 99 }

-- at most one of each
abbrev one : Limits
one = record { vars = 1; statements = 1; atoms = 1; depth = 1; number = 9; entry = 99 }

-- an early end; a name declared twice; an unknown name; a number out of range; the wrong sum word
abbrev Early : Type 0
Early =
    (program_answer Either (codes "vars x;\nx := 5") ≡ Err (Syntax 3 1))
    × (program_answer Either (codes "vars x\n x;") ≡ Err (DuplicateName 2))
    × (program_answer Either (codes "vars x;\nq := $;") ≡ Err (UnknownName 2))
    × (program_answer Either (codes "vars x;\nx := 2147483649;") ≡ Err (NumberRange 2))
    × (program_answer MinOnly (codes "vars x;\nassert x <= max $;") ≡ Err (AssertMode 2))

-- a relation in the place of a comparison; two signs; `end` in a block; too many names, statements and atoms; too deep
abbrev Late : Type 0
Late =
    (program_answer Either (codes "vars x;\nif x = 3 { }") ≡ Err (Syntax 2 6))
    × (program_answer Either (codes "vars x;\nx := x + -3;") ≡ Err (Syntax 2 10))
    × (program_answer Either (codes "vars ;\nif ? { end }") ≡ Err (Syntax 2 8))
    × (program_within one Either (codes "vars x x;") ≡ Err (TooManyVars 1))
    × (program_within one Either (codes "vars x;\nskip;\ny := 1;") ≡ Err (TooManyStatements 3))
    × (program_within one Either (codes "vars x;\nassume ? || y < 1;") ≡ Err (TooManyAtoms 2))
    × (program_within one Either (codes "vars x;\nassume !!?;") ≡ Err (TooDeep 2))

-- a statement counts behind `;`, `{` and `}`, with its word or without
abbrev Counts : Type 0
Counts =
    (program_within one Either (codes "vars x;\nif ? { }\nx := 1;") ≡ Err (TooManyStatements 3))
    × (program_within one Either (codes "vars x;\nif ? {\nx := 1; }") ≡ Err (TooManyStatements 3))
    × (program_within one Either (codes "vars x;\nx := 1;\nx := 1;") ≡ Err (TooManyStatements 3))
    × (program_within one Either (codes "vars x;\nwhile ? {\nskip; }") ≡ Err (TooManyStatements 3))

-- an atom counts behind each sign and word that asks, and not in an assert
abbrev Asked : Type 0
Asked =
    (program_within asks Either (codes "vars x; assume ? &&\nx < 1;") ≡ Err (TooManyAtoms 2))
    × (program_within asks Either (codes "vars x; assume ? || (\n1 < x);") ≡ Err (TooManyAtoms 2))
    × (program_within asks Either (codes "vars x; assume ? || !\n-1 < x;") ≡ Err (TooManyAtoms 2))
    × (program_within asks Either (codes "vars x; assume ?; if\n? { }") ≡ Err (TooManyAtoms 2))
    × (program_within asks Either (codes "vars x; assume ?; while\n? { }") ≡ Err (TooManyAtoms 2))
    × (program_within asks Either (codes "vars x; assume ?; assume\n? ;") ≡ Err (TooManyAtoms 2))
    × (program_within asks Either (codes "vars; assert max(1, 2) <= min(1, 3); assume ?") ≡ Err (Syntax 2 1))

refused : Early × Late × Counts × Asked
unfolding whole_program_at program_at declaration_at declared_at statements_at one_more_at statement_rest block_at
    claim_at side_at side_rest listed_at terms_from next_term_at negation_at negation_rest bracket_at compared_at
    chain_at link_at operand_rest moved_at counted pieces_from tokens_past sign_len tail_len past token_past maybe_past
    many_from many_past token_at read_then gives past_lines
refused = (
  (refl, refl, refl, refl, refl),
  (refl, refl, refl, refl, refl, refl, refl),
  (refl, refl, refl, refl),
  (refl, refl, refl, refl, refl, refl, refl),
)

-- the first row has one number for each variable
traced : (trace_answer (codes "vars x; start [1, 2] choices []") ≡ Err (Syntax 1 17))
    × (trace_answer (codes "vars x y; start [1] choices []") ≡ Err (Syntax 1 19))
    × (trace_answer (codes "vars ; start [1] choices []") ≡ Err (Syntax 1 15))
    × (trace_answer (codes "vars x y; start [1, -2]\nchoices [0]") ≡ Ok
    (trace_of (record { names = codes "x" ∷ codes "y" ∷ []; body = Empty }) (pos 1 ∷ neg_ℤ (pos 2) ∷ [])
    (pos 0 ∷ [])))
unfolding trace_file_at row_at row_rest_at more_at next_entry_at entry_rest past_lines program_at declaration_at
    declared_at statements_at one_more_at statement_rest block_at claim_at side_at side_rest listed_at terms_from
    next_term_at negation_at negation_rest bracket_at compared_at chain_at link_at operand_rest moved_at counted
    pieces_from tokens_past sign_len tail_len past token_past maybe_past many_from many_past token_at read_then gives
traced = (refl, refl, refl, refl)
