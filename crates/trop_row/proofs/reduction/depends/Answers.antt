use Rattle.std.proofs.Common.{◌≡◌, arith, sym, ap, ◌∙◌, true≢false, subst, length}
use Rattle.std.specs.Prelude.{remove}
use Rattle.std.proofs.lemmas.List.{get_or_read}
use Rattle.trop_theory.specs.Vectors.{row_size}
use Rattle.trop_theory.specs.Combinations.{IsCombination}
use Rattle.trop_theory.proofs.Residual.{met_from_IsCombination}
use Rattle.plain_lemmas.proofs.Lists.{All-remove}
use Rattle.trop_theory.proofs.Sizes.{entry_read}
use Rattle.trop_row.proofs.Sizes.{rows_size-read}
use Rattle.trop_row.proofs.reduction.depends.Goals as goal

pub others_meet-requires-clause-target_size : goal.others_meet-requires-clause-target_size
others_meet-requires-clause-target_size g c =
    let R = g.S.Scalar.ring in
    omega (
      arith,
      ap (row_size R) c.as_slice-target.ensures.entries,
      rows_size-read R c.args.rows.now c.args.k
          c.index-rows-k.result c.index-rows-k.is (omega arith),
    )

pub returns-then-not-others_meet-clause-no : goal.returns-then-not-others_meet-clause-no
returns-then-not-others_meet-clause-no g c =
    let R = g.S.Scalar.ring in
    λ _ d h.
    true≢false (sym (c.others_meet.ensures.1
    (met_from_IsCombination g.met.S.Scalar.ring_laws c.args.n (remove c.args.rows.now c.args.k)
    c.as_slice-target.result.now
    (All-remove (λ row. length row ≡ c.args.n) c.args.rows.now c.args.k c.requires.wide)
    (subst (IsCombination R c.args.n (remove c.args.rows.now c.args.k))
    (sym (c.as_slice-target.ensures.entries ∙ get_or_read c.args.rows.now c.args.k c.index-rows-k.result
    c.requires.within c.index-rows-k.is d)) h)
    c.greatest_at-t.result
    (λ z. true≢false (sym (c.is_zero.ensures.1 (sym (entry_read R c.as_slice-target.result.now
    c.greatest_at-t.result _ c.index-target-t.is (omega arith)) ∙ z)) ∙ c.if-not-is_zero.true))))
    ∙ c.if-not-others_meet.true)
