use Rattle.std.proofs.Common.{◌≡◌, ◌-◌, ◌+◌, ◌≤◌, length}
use Rattle.trop_grammar.specs.Lists.{list_at}
use Rattle.trop_text.specs.Pieces.{pieces_left}
use Rattle.trop_text.specs.declared.fault.FaultKind.TheVariants.{Syntax}
use Rattle.trop_files.specs.ListEnds.{ends}
use Rattle.trop_files.specs.Generators.{greatest_number}
use Rattle.trop_spelling.specs.Inequalities.{inequality_rest_at}
use Rattle.trop_files.specs.InequalityFiles.{next_inequality, no_inequality, inequalities_at}
use Rattle.trop_files.proofs.inequalities.inequalities.Given as goal

abbrev pub invariant-lines : goal.invariant-lines
invariant-lines g l = record {
  reading : list_at Syntax (next_inequality g.S.Spelling.KIND g.S.Scalar.ring g.S.Scalar.numbering l.names (ends l.end))
      (λ before. inequality_rest_at g.S.Spelling.KIND g.S.Scalar.ring g.S.Scalar.numbering greatest_number l.names)
      (λ before. no_inequality g.S.Spelling.KIND (ends l.end)) (1024 - l.counter) l.system.inequalities
      (pieces_left l.rest) ≡ inequalities_at g.S.Spelling.KIND g.S.Scalar.ring g.S.Scalar.numbering l.names (ends l.end)
      (pieces_left l.at);
  width : l.system.n ≡ length l.names + 1;
  count : length l.system.inequalities ≤ l.counter;
}
