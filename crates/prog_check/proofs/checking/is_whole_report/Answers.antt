use Rattle.std.proofs.Common.{◌≡◌, ap, arith}
use Rattle.std.specs.Prelude.{◌↔◌, IsTrue}
use Rattle.trop_theory.specs.Combinations.{IsCombination}
use Rattle.trop_cones.specs.Sets.{IsVector}
use Rattle.cone_reports.specs.Reports.{Part, part_at}
use Rattle.cone_reports.specs.Inductive.{IsWhole}
use Rattle.report_value.specs.Views.{part_of, said}
use Rattle.prog_check.proofs.Parts.{some_point, width_is, part_is}
use Rattle.prog_check.proofs.Conditions.{ok_moved, whole_by_rows}
use Rattle.prog_check.proofs.checking.is_whole_report.Goals as goal

pub part-requires : goal.part-requires
part-requires g c = some_point c.args.report.now c.passes-keeps.ensures.keeps

pub is_whole-requires : goal.is_whole-requires
is_whole-requires g c = record { size = omega (arith, c.part.ensures.kept.part.small) }

pub returns : goal.returns
returns g c =
    let R = g.S.Scalar.ring in
    let r = c.args.report.now in
    let kept = c.passes-keeps.ensures.keeps in
    let n = c.part.result.now.rows.n in
    let rows = c.part.result.now.rows.rows in
    let is : (part_at (said r) 0).rows ≡ rows = ap (λ (x : Part _). x.rows)
    (part_is r kept 0 (part_of c.part.result.now) c.part.ensures.value) in
    ok_moved (λ whole. IsTrue whole ↔ ((x : _) → IsVector n x → IsCombination R n rows x))
    (λ whole. IsTrue whole ↔ IsWhole R (said r)) c.is_whole.result
    (λ whole h. whole_by_rows R g.S.Scalar.numbering g.S.Scalar.REVERSED (said r) n
    (width_is r kept n c.part.ensures.kept.rows_width) rows is whole h) c.is_whole.ensures
