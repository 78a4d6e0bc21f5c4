use Rattle.std.proofs.Common.{◌≡◌, ◌++◌, drop}
use Rattle.trop_files.specs.PrintedFiles.{after_spaces}
use Rattle.trop_files.proofs.print_file.push_names.Given as goal

abbrev pub invariant-loop-place : goal.invariant-loop-place
invariant-loop-place l = l.text.items ++ after_spaces (drop l.place l.names) ≡ l.fn.text.items ++ after_spaces l.names
