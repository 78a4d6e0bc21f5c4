use Rattle.std.proofs.Common.{arith, ◌∙◌}
use Rattle.std.proofs.lemmas.List.{take_rest}
use Rattle.std.proofs.Math.Seq.{take-add}
use Rattle.trop_io.proofs.Known.{Appends-more}
use Rattle.trop_io.proofs.write.write_all.Goals as goal

pub loop-done-preserved : goal.loop-done-preserved
loop-done-preserved g c =
    record {
      within = omega (arith, c.in-Ok.ensures.bound);
      bytes = rw take-add (Appends-more _ _ _ _ _ c.loop-done.invariant.bytes
          (simp take_rest at c.in-Ok.ensures.bytes));
      quiet = c.in-Ok.ensures.cause.quiet ∙ c.loop-done.invariant.quiet;
    }
