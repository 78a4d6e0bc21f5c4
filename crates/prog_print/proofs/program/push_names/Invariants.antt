use Rattle.std.proofs.Common.{◌≡◌, ◌++◌, drop}
use Rattle.prog_print.specs.Texts.{names_text}
use Rattle.prog_print.proofs.program.push_names.Given as goal

abbrev pub invariant-loop-place : goal.invariant-loop-place
invariant-loop-place l = l.text.items ++ names_text (drop l.place l.names) ≡ l.fn.text.items ++ names_text l.names
