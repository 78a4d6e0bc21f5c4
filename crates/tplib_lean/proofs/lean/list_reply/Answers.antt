use Rattle.std.proofs.Common.{◌∙◌, sym, subst}
use Rattle.trop_theory.specs.Vectors.{AreWide}
use Rattle.std.proofs.lemmas.Result.{err_from_is_err_and}
use Rattle.trop_files.specs.FileLimits.{AreFileRows}
use Rattle.tplib_lean.proofs.Leaned.{bounds_stopped, lean_stopped, lean_reply_is}
use Rattle.tplib_lean.proofs.lean.list_reply.Goals as goal

pub bounds_of-requires : goal.bounds_of-requires
bounds_of-requires g c = subst (λ n. AreFileRows g.S.Scalar.ring n c.args.file.now.gens.rows)
    (sym c.requires.width) c.requires.rows

pub returns-in_err-bounds-clause-refused : goal.returns-in_err-bounds-clause-refused
returns-in_err-bounds-clause-refused g c =
    let p = err_from_is_err_and c.from_residual.result c.from_residual.ensures.1 in
    rw (p.1, p.2) (bounds_stopped g.S.Spelling.KIND g.S.Scalar.ring g.S.Scalar.numbering c.args.file.now.names
    c.args.file.now.gens.rows c.args.file.now.gens.n c.requires.width _ c.in_err-bounds.ensures.refused)

pub returns-in-Err-clause-refused : goal.returns-in-Err-clause-refused
returns-in-Err-clause-refused g c =
    lean_stopped g.S.Spelling.KIND g.S.Scalar.ring g.S.Scalar.numbering c.args.file.now.names c.args.file.now.gens.rows
    c.args.file.now.gens.n c.requires.width c.in_ok-bounds.bounds.inequalities c.in_ok-bounds.ensures.bounds
    c.in_ok-bounds.bounds.n c.in_ok-bounds.ensures.width c.in-Err.e c.refusal.result c.refusal.ensures
    c.in-Err.ensures.stopped

pub print_lean-requires-clause-names : goal.print_lean-requires-clause-names
print_lean-requires-clause-names g c = c.in-Ok.ensures.width ∙ c.in_ok-bounds.ensures.width ∙ c.requires.width

pub print_lean-requires-clause-one_each : goal.print_lean-requires-clause-one_each
print_lean-requires-clause-one_each g c = c.in-Ok.ensures.certified.one_each

pub returns-clause-reply : goal.returns-clause-reply
returns-clause-reply g c =
    lean_reply_is g.S.Spelling.KIND g.S.Scalar.ring g.S.Scalar.numbering c.args.file.now.names c.args.file.now.gens.rows
    c.args.file.now.gens.n c.requires.width c.in_ok-bounds.bounds.inequalities c.in_ok-bounds.ensures.bounds
    g.met.S.Scalar.ring_laws c.in_ok-bounds.bounds.n c.in_ok-bounds.ensures.width c.in-Ok.list.kept.inequalities
    c.in-Ok.list.rows.rows c.in_ok-text.text.items
    (record {
      lean = c.in-Ok.ensures.lean;
      same = c.in-Ok.ensures.same;
      wide = subst (λ n. AreWide n c.in-Ok.list.rows.rows) c.in-Ok.ensures.row_width c.as_slice-slice.ensures.wide;
      certified = c.in-Ok.ensures.certified;
      unstopped = c.in-Ok.ensures.unstopped;
    }) c.in_ok-text.ensures
