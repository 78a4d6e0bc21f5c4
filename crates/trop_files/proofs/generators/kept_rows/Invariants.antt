use Rattle.std.proofs.Common.{◌≡◌, ◌+◌, ◌≤◌, ◌++◌, length, reverse, vec_len}
use Rattle.trop_theory.specs.Vectors.{AreWide}
use Rattle.trop_files.specs.Generators.{kept}
use Rattle.trop_files.proofs.generators.kept_rows.Given as goal

abbrev pub invariant-lines : goal.invariant-lines
invariant-lines g l = record {
  kept : l.kept.items ++ kept g.S.Scalar.numbering (reverse l.lines.items) ≡ kept g.S.Scalar.numbering l.fn.lines.items;
  wide : AreWide (l.vars + 1) l.kept.items;
  left : AreWide (l.vars + 1) l.lines.items;
  count : length l.kept.items + length l.lines.items ≤ length l.fn.lines.items;
}

abbrev pub decreases-lines : goal.decreases-lines
decreases-lines g l = vec_len l.lines
