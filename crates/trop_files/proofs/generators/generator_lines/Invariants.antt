use Rattle.std.proofs.Common.{◌≡◌, ◌-◌, ◌+◌, ◌≤◌, length}
use Rattle.trop_theory.specs.Vectors.{AreWide}
use Rattle.trop_grammar.specs.Lists.{list_at}
use Rattle.trop_text.specs.Pieces.{pieces_left}
use Rattle.trop_text.specs.declared.fault.FaultKind.TheVariants.{Syntax}
use Rattle.trop_files.specs.ListEnds.{ends}
use Rattle.trop_files.specs.Generators.{next_generator, generator_at, no_generator, generator_lines_at}
use Rattle.trop_files.proofs.generators.generator_lines.Given as goal

abbrev pub invariant-lines : goal.invariant-lines
invariant-lines g l = record {
  reading : list_at Syntax (next_generator g.S.Scalar.ring (ends l.end))
      (λ rows. generator_at g.S.Spelling.KIND g.S.Scalar.ring g.S.Scalar.numbering l.vars)
      (λ rows. no_generator (ends l.end)) (4096 - l.counter) l.rows.items
      (pieces_left l.rest) ≡ generator_lines_at g.S.Spelling.KIND g.S.Scalar.ring g.S.Scalar.numbering l.vars
      (ends l.end) (pieces_left l.at);
  wide : AreWide (l.vars + 1) l.rows.items;
  count : length l.rows.items ≤ l.counter;
}
