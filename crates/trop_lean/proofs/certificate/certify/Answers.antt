use Rattle.std.proofs.Common.{◌≡◌, length, arith, ap, sym, ◌∙◌, refl, subst, true≢false}
use Rattle.std.specs.Prelude.{◌↔◌, All, IsTrue}
use Rattle.trop_theory.specs.Vectors.{rows_size}
use Rattle.trop_theory.specs.Inequalities.{system_size}
use Rattle.trop_row.proofs.Sizes.{rows_size-read}
use Rattle.trop_duality.specs.Lean.{Certifies}
use Rattle.trop_duality.proofs.Lean.{certified_needed}
use Rattle.trop_lean.specs.Certificates.{FailsAlone}
use Rattle.trop_lean.proofs.Shown.{each_more, each_all, certified_by_each, not_certified}
use Rattle.trop_lean.proofs.certificate.certify.Goals as goal

pub fails_alone-requires-clause-sizes : goal.fails_alone-requires-clause-sizes
fails_alone-requires-clause-sizes g c =
    let R = g.S.Scalar.ring in
    omega (
      arith,
      c.requires.sizes,
      ap (system_size R) c.as_slice-inequalities.ensures.inequalities,
      rows_size-read R c.as_slice-rows.result.now c.loop-k.k c.index-rows-k.result c.index-rows-k.is (omega arith),
      ap (rows_size R) c.as_slice-rows.ensures.rows,
    )

pub returns-then-not-fails_alone-clause-certified : goal.returns-then-not-fails_alone-clause-certified
returns-then-not-fails_alone-clause-certified g c =
    let R = g.S.Scalar.ring in
    let kept = c.args.kept.now.inequalities in
    let alone : IsTrue c.fails_alone.result ↔ FailsAlone R kept c.loop-k.k c.index-rows-k.result =
    subst (λ s. IsTrue c.fails_alone.result ↔ FailsAlone R s c.loop-k.k c.index-rows-k.result)
    c.as_slice-inequalities.ensures.inequalities c.fails_alone.ensures in (
      λ f. absurd (true≢false (sym f)),
      λ h. absurd (not_certified R kept c.as_slice-rows.result.now c.loop-k.k c.index-rows-k.result
          (omega arith) c.index-rows-k.is
          (λ a. true≢false (sym (alone.1 a) ∙ c.if-not-fails_alone.true))
          (subst (Certifies R kept) (sym c.as_slice-rows.ensures.rows) h)),
    )

pub loop-k-preserved : goal.loop-k-preserved
loop-k-preserved g c =
    let R = g.S.Scalar.ring in
    let kept = c.args.kept.now.inequalities in
    let alone : IsTrue c.fails_alone.result ↔ FailsAlone R kept c.loop-k.k c.index-rows-k.result =
    subst (λ s. IsTrue c.fails_alone.result ↔ FailsAlone R s c.loop-k.k c.index-rows-k.result)
    c.as_slice-inequalities.ensures.inequalities c.fails_alone.ensures in
    each_more R kept c.as_slice-rows.result.now c.loop-k.k c.index-rows-k.result
    (omega arith) c.index-rows-k.is c.loop-k.invariant (alone.0 c.if-not-fails_alone.false)

pub returns-clause-certified : goal.returns-clause-certified
returns-clause-certified g c =
    let R = g.S.Scalar.ring in
    let kept = c.args.kept.now.inequalities in
    let len : length c.as_slice-rows.result.now ≡ length kept =
    omega (arith, ap length c.as_slice-inequalities.ensures.inequalities) in
    let whole : Certifies R kept c.args.rows.now.rows =
    subst (Certifies R kept) c.as_slice-rows.ensures.rows
    (certified_by_each R kept c.as_slice-rows.result.now len
    (each_all R kept c.as_slice-rows.result.now c.loop-k.k (omega arith) c.loop-k.invariant)) in
    (λ _. whole, λ _. refl)

pub returns-clause-needed : goal.returns-clause-needed
returns-clause-needed g c k p l valid =
    let R = g.S.Scalar.ring in
    let kept = c.args.kept.now.inequalities in
    let len : length c.as_slice-rows.result.now ≡ length kept =
    omega (arith, ap length c.as_slice-inequalities.ensures.inequalities) in
    let whole : Certifies R kept c.args.rows.now.rows =
    subst (Certifies R kept) c.as_slice-rows.ensures.rows
    (certified_by_each R kept c.as_slice-rows.result.now len
    (each_all R kept c.as_slice-rows.result.now c.loop-k.k (omega arith) c.loop-k.invariant)) in
    certified_needed g.met.S.Scalar.ring_laws c.args.kept.now.n kept c.args.rows.now.rows k p
    (subst (λ n. All (λ w. length w ≡ n) c.args.rows.now.rows) c.requires.width c.as_slice-rows.ensures.wide) whole
    l valid
