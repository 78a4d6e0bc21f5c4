use Rattle.std.proofs.Common.{◌≡◌, ◌+◌, length, arith}
use Rattle.trop_files.proofs.Kept.{filter-last, all-front}
use Rattle.trop_files.proofs.generators.kept_rows.Goals as goal

pub lines-preserved : goal.lines-preserved
lines-preserved g c = record {
  kept = rw c.in_ok-keep.ensures.kept (filter-last _ c.lines.kept.items c.pop.new.self.items c.in-Some.row _
      _ c.in-Some.ensures.items c.lines.invariant.kept);
  wide = c.in_ok-keep.ensures.wide;
  left = all-front (λ row. length row ≡ c.args.vars + 1) _ _ _ c.in-Some.ensures.items c.lines.invariant.left;
  count = omega (arith, c.in_ok-keep.ensures.count, c.in-Some.ensures.len);
}
