use Rattle.std.proofs.Common.{◌≡◌, ◌-◌, ◌≤◌, length}
use Rattle.trop_grammar.specs.Lists.{list_at}
use Rattle.trop_text.specs.Pieces.{pieces_left}
use Rattle.trop_text.specs.declared.fault.FaultKind.TheVariants.{Syntax}
use Rattle.trop_files.specs.Header.{next_name, name_at, no_name, names_at}
use Rattle.trop_files.proofs.header.read_names.Given as goal

abbrev pub invariant-names : goal.invariant-names
invariant-names l = record {
  reading : list_at Syntax next_name name_at (λ names. no_name) (63 - l.counter) l.names (pieces_left l.rest) ≡ names_at
      (pieces_left l.at);
  count : length l.names ≤ l.counter;
}
