use Rattle.std.proofs.Common.{◌≡◌, ◌++◌, ◌∙◌, codes, length, drop, ap, sym, subst, arith}
use Rattle.std.specs.Prelude.{All}
use Rattle.std.proofs.lemmas.List.{append-nil}
use Rattle.trop_theory.specs.Inequalities.{IsIn}
use Rattle.trop_lean.proofs.Standing.{inside_at}
use Rattle.trop_files.specs.PrintedFiles.{printed_header, printed_ineqs}
use Rattle.trop_spelling.proofs.Printing.{two_more, all_done}
use Rattle.tplib_lean.specs.Printed.{lean_lines, printed_lean}
use Rattle.tplib_lean.proofs.Printing.{lean_lines_more, lean_lines_none}
use Rattle.tplib_lean.proofs.print.print_lean.Goals as goal

pub loop-k-init : goal.loop-k-init
loop-k-init g c =
    let kind = g.S.Spelling.KIND in
    let N = g.S.Scalar.numbering in
    let names = c.args.names.now in
    let kept = c.as_slice-kept.result.now in
    let rows = c.as_slice-rows.result.now in
    ap (λ t. t ++ lean_lines kind N names kept rows)
    (c.in_ok-text.ensures.text ∙ ap (printed_ineqs kind N names) c.new.ensures.inequalities
    ∙ append-nil (printed_header (codes "ineqs") kind names))

pub push_bound-requires : goal.push_bound-requires
push_bound-requires g c =
    let kept = c.as_slice-kept.result.now in
    let wide = subst (All (IsIn c.args.list.now.kept.n)) (sym c.as_slice-kept.ensures.inequalities)
    c.as_slice-kept.ensures.wide in
    (inside_at c.args.list.now.kept.n kept c.loop-k.k c.index-kept-k.result wide (omega arith) c.index-kept-k.is).left
    ∙ c.requires.names

pub loop-k-preserved : goal.loop-k-preserved
loop-k-preserved g c =
    let kept = c.as_slice-kept.result.now in
    let rows = c.as_slice-rows.result.now in
    let one_each : length rows ≡ length kept = ap length c.as_slice-rows.ensures.rows ∙ c.requires.one_each
    ∙ sym (ap length c.as_slice-kept.ensures.inequalities) in
    two_more _ _ _ _ _ _ _ _ c.loop-k.invariant
    (lean_lines_more g.S.Spelling.KIND g.S.Scalar.numbering c.args.names.now kept rows c.loop-k.k
    c.index-kept-k.result c.index-rows-k.result (omega arith) c.index-kept-k.is (omega (arith, one_each))
    c.index-rows-k.is)
    c.in_ok-push_bound.ensures c.in_ok-push_comment.ensures

pub returns : goal.returns
returns g c =
    let kind = g.S.Spelling.KIND in
    let N = g.S.Scalar.numbering in
    let names = c.args.names.now in
    let kept = c.as_slice-kept.result.now in
    let rows = c.as_slice-rows.result.now in
    all_done _ _ _ c.loop-k.invariant
    (lean_lines_none kind N names kept (drop c.loop-k.k rows) c.loop-k.k (omega arith))
    ∙ ap (λ xs. printed_lean kind N names xs rows) c.as_slice-kept.ensures.inequalities
    ∙ ap (printed_lean kind N names c.args.list.now.kept.inequalities) c.as_slice-rows.ensures.rows
