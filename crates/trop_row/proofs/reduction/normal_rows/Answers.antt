use Rattle.std.proofs.Common.{◌≡◌, length, arith, ap, ◌∙◌, subst}
use Rattle.std.proofs.lemmas.List.{take_all}
use Rattle.trop_theory.specs.Vectors.{row_size, bottom}
use Rattle.trop_theory.specs.Normal.{Normalises}
use Rattle.trop_theory.specs.Combinations.{SameCone}
use Rattle.trop_row.proofs.Sizes.{rows_size-read}
use Rattle.trop_row.proofs.NormalSteps.{normal_push, normal_skip, size_reducible}
use Rattle.trop_row.proofs.reduction.normal_rows.Goals as goal
use Rattle.trop_row.proofs.reduction.normal_rows.Goals.{then-normalise+in_ok-push, else-normalise}

pub normalise-requires : goal.normalise-requires
normalise-requires g c =
    omega (
      arith,
      ap (row_size g.S.Scalar.ring) c.in_ok-next.ensures.same,
      rows_size-read g.S.Scalar.ring
          c.args.rows.now c.loop-row.row-index c.row-item.result c.row-item.is (omega arith),
      size_reducible
          g.met.S.Scalar.ring_laws c.args.rows.now c.requires.sizes,
    )

pub loop-row-preserved : goal.loop-row-preserved
loop-row-preserved g c =
    let R = g.S.Scalar.ring in
    elim c.if-normalise.branch [
      | then-normalise+in_ok-push w ↦
          rw (w.out-is, w.in_ok-push.ensures.items)
          (normal_push g.met.S.Scalar.ring_laws c.args.n c.args.rows.now c.loop-row.out.items c.loop-row.row-index
          c.row-item.result c.normalise.new.self c.loop-row.invariant
          (omega arith) c.requires.wide c.requires.sizes c.row-item.is
          (subst (λ v. Normalises R v c.normalise.new.self) c.in_ok-next.ensures.same w.if-normalise.ensures.yes))
      | else-normalise w ↦
          rw w.out-is
          (normal_skip g.met.S.Scalar.ring_laws c.args.n c.args.rows.now c.loop-row.out.items c.loop-row.row-index
          c.row-item.result c.loop-row.invariant
          (omega arith) c.requires.wide c.row-item.is (subst (λ v. v ≡ bottom R (length v)) c.in_ok-next.ensures.same
          w.if-normalise.ensures.no))
    ]

pub returns-clause-same : goal.returns-clause-same
returns-clause-same g c =
    subst (λ rows. SameCone g.S.Scalar.ring c.args.n rows c.loop-row.out.items)
    (take_all c.loop-row.row-index c.args.rows.now (omega arith)) c.loop-row.invariant.same
