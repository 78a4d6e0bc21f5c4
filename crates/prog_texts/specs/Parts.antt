-- Programs that are a part of a text: they end before `end`, `start` or the end of the input, which is left.
use Rattle.std.specs.Prelude.{List, Ok, Err}
use Rattle.trop_text.specs.declared.fault.FaultKind.{FaultKind}
use Rattle.trop_text.specs.declared.fault.FaultKind.TheVariants.{Syntax}
use Rattle.trop_grammar.specs.Reading.{Reading, ◌>>=◌}
use Rattle.trop_grammar.specs.Grammar.{Empty, Then}
use Rattle.trop_grammar.specs.Lists.{Passes}
use Rattle.shape_grammar.specs.Steps.{token_past}
use Rattle.shape_grammar.specs.Texts.{One}
use Rattle.prog_theory.specs.Limits.{Limits}
use Rattle.prog_texts.specs.AssertRule.{AssertRule}
use Rattle.prog_texts.specs.Words.{Counted, skipped}
use Rattle.prog_theory.specs.Named.{Named}
use Rattle.prog_texts.specs.Programs.{closed, IsProgram, program_at}

-- a program and the token that ends it
abbrev pub IsClosed : Limits → AssertRule → List Counted → Named → Type 0
IsClosed L rule = Then (IsProgram L rule) (λ p. Then (One skipped (Passes closed)) (λ u. Empty p))

-- the value, and the tokens as they were, where the reading has a value
abbrev pub kept : {A B : Type 0} → Reading Counted FaultKind A → B → List Counted → Reading Counted FaultKind B
kept (Ok x) y ts = Ok (y, ts)
kept (Err miss) y ts = Err miss

unfoldable pub before_closing : Named → List Counted → Reading Counted FaultKind Named
before_closing p ts = kept (token_past skipped Syntax closed ts) p ts

unfoldable pub part_at : Limits → AssertRule → List Counted → Reading Counted FaultKind Named
part_at L rule = program_at L rule >>= before_closing
