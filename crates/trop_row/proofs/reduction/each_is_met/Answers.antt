use Rattle.std.proofs.Common.{◌≡◌, ◌≢◌, ℕ, arith, sym, ap, ◌∙◌, true≢false, subst, length, below_more}
use Rattle.std.specs.Prelude.{Any, remove}
use Rattle.std.proofs.lemmas.List.{get_or_read}
use Rattle.trop_theory.specs.Vectors.{entry, row_size}
use Rattle.trop_theory.specs.Combinations.{IsCombination}
use Rattle.trop_theory.specs.Residual.{Meets}
use Rattle.trop_theory.proofs.Residual.{met_from_IsCombination}
use Rattle.plain_lemmas.proofs.Lists.{All-remove}
use Rattle.trop_theory.proofs.Sizes.{entry_read}
use Rattle.trop_row.proofs.Sizes.{rows_size-read}
use Rattle.trop_row.proofs.Others.{all_met_in}
use Rattle.trop_row.proofs.reduction.each_is_met.Goals as goal
use Rattle.trop_row.proofs.reduction.each_is_met.Goals.{else-not-is_zero-via-then-not-is_zero+else-not-others_meet, else-not-is_zero-via-else-not-is_zero}

pub others_meet-requires-clause-target_size : goal.others_meet-requires-clause-target_size
others_meet-requires-clause-target_size g c =
    let R = g.S.Scalar.ring in
    omega (
      arith,
      ap (row_size R) c.as_slice-target.ensures.entries,
      rows_size-read R c.args.rows.now c.args.k
          c.index-rows-k.result c.index-rows-k.is (omega arith),
    )

pub loop-t-preserved : goal.loop-t-preserved
loop-t-preserved g c =
    let R = g.S.Scalar.ring in
    let target = c.as_slice-target.result.now in
    let IsMet : ℕ → Type 0 = λ i. entry R target i ≢ R.zero → Any (Meets R target i) (remove c.args.rows.now c.args.k)
    in
    below_more IsMet c.loop-t.t c.loop-t.invariant (elim c.else-not-is_zero.branch [
      | else-not-is_zero-via-then-not-is_zero+else-not-others_meet w ↦ λ _. w.others_meet.ensures.0
          w.if-not-others_meet.false
      | else-not-is_zero-via-else-not-is_zero w ↦ λ f. absurd (f
          (entry_read R target c.loop-t.t _ c.index-target-t.is (omega arith) ∙
          c.is_zero.ensures.0 w.if-not-is_zero.false))
    ])

pub returns-then-not-others_meet-clause-no : goal.returns-then-not-others_meet-clause-no
returns-then-not-others_meet-clause-no g c =
    let R = g.S.Scalar.ring in
    λ _ d h.
    true≢false (sym (c.others_meet.ensures.1
    (met_from_IsCombination g.met.S.Scalar.ring_laws c.args.n (remove c.args.rows.now c.args.k)
    c.as_slice-target.result.now
    (All-remove (λ row. length row ≡ c.args.n) c.args.rows.now c.args.k c.requires.wide)
    (subst (IsCombination R c.args.n (remove c.args.rows.now c.args.k))
    (sym (c.as_slice-target.ensures.entries ∙ get_or_read c.args.rows.now c.args.k c.index-rows-k.result
    c.requires.within c.index-rows-k.is d)) h)
    c.loop-t.t
    (λ z. true≢false (sym (c.is_zero.ensures.1 (sym (entry_read R c.as_slice-target.result.now c.loop-t.t _
    c.index-target-t.is (omega arith)) ∙ z)) ∙ c.if-not-is_zero.true)))) ∙ c.if-not-others_meet.true)

pub returns-clause-yes : goal.returns-clause-yes
returns-clause-yes g c =
    let R = g.S.Scalar.ring in
    λ _ d.
    subst (IsCombination R c.args.n (remove c.args.rows.now c.args.k))
    (c.as_slice-target.ensures.entries ∙ get_or_read c.args.rows.now c.args.k c.index-rows-k.result
    c.requires.within c.index-rows-k.is d)
    (all_met_in g.met.S.Scalar.ring_laws c.args.n (remove c.args.rows.now c.args.k) c.as_slice-target.result.now
    c.loop-t.t
    (All-remove (λ row. length row ≡ c.args.n) c.args.rows.now c.args.k c.requires.wide)
    (ap length (c.as_slice-target.ensures.entries ∙ c.index-rows-k.is) ∙
    c.requires.wide c.args.k c.index-rows-k.result c.requires.within)
    c.loop-t-test.false c.loop-t.invariant)
