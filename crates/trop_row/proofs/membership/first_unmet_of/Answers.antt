use Rattle.std.proofs.Common.{length, arith, sym, ◌∙◌, refl, true≢false}
use Rattle.std.specs.Prelude.{not}
use Rattle.trop_theory.proofs.Sizes.{entry_read}
use Rattle.trop_row.proofs.Steps.{all_met}
use Rattle.trop_row.proofs.membership.first_unmet_of.Goals as goal

pub returns-then-not-some_meets_of : goal.returns-then-not-some_meets_of
returns-then-not-some_meets_of g c =
    let R = g.S.Scalar.ring in record {
      within = omega arith;
      first = record {
        finite = λ z. true≢false (sym (c.is_zero.ensures.1 (sym (entry_read R c.args.target.now c.loop-t.t _
            c.index-target-t.is (omega arith)) ∙ z)) ∙ c.if-not-is_zero.true);
        unmet = λ a. true≢false (sym (c.some_meets_of.ensures.1 a) ∙ c.if-not-some_meets_of.true);
        before = c.loop-t.invariant;
      };
    }

pub returns : goal.returns
returns g c = record {
  within = tt;
  first = all_met g.met.S.Scalar.ring_laws c.args.rows.now c.args.target.now c.loop-t.t c.requires.wide (omega arith)
      c.loop-t.invariant;
}
