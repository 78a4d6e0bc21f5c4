use Rattle.std.proofs.Common.{◌≡◌, OnOk, ap, subst}
use Rattle.prog_graph.specs.Views.{point_of}
use Rattle.report_lines.specs.Texts.{point_line}
use Rattle.report_lines.proofs.Loops.{same_item, found, both_behind}
use Rattle.report_print.specs.Texts.{part_text}
use Rattle.report_print.proofs.blocks.push_block.Goals as goal

pub returns : goal.returns
returns g c = λ p x e f.
    let k = c.args.k in
    subst (λ t. OnOk c.push_part.result (c.push_part.new.text.items ≡ t))
    (both_behind _ _ _ _ _ _ c.in_ok-push_point.ensures
    (ap (λ z. point_line k (point_of z)) (found c.args.points.now k p _ e))
    (ap (λ z. part_text g.S.Spelling.KIND g.S.Scalar.numbering c.args.names.now z.rows.rows z.invs.inequalities)
    (same_item c.args.parts.now k c.part_at.result.now x c.part_at.ensures f)))
    c.push_part.ensures
