use Rattle.std.proofs.Common.{◌≡◌, ◌++◌}
use Rattle.prog_print.specs.Texts.{indent_text}
use Rattle.prog_print.proofs.statements.push_indent.Given as goal

abbrev pub invariant-loop : goal.invariant-loop
invariant-loop l = l.text.items ≡ l.fn.text.items ++ indent_text l.counter
