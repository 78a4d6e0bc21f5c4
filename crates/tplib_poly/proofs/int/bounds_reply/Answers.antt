use Rattle.std.proofs.Common.{◌∙◌, sym, subst}
use Rattle.std.proofs.lemmas.Result.{err_from_is_err_and}
use Rattle.trop_files.specs.FileLimits.{AreFileRows}
use Rattle.tplib_poly.proofs.Bounded.{int_reply_is, int_refused}
use Rattle.tplib_poly.proofs.int.bounds_reply.Goals as goal

pub bounds_of-requires : goal.bounds_of-requires
bounds_of-requires g c = subst (λ n. AreFileRows g.S.Scalar.ring n c.args.file.now.gens.rows)
    (sym c.requires.width) c.requires.rows

pub print_ineqs-requires : goal.print_ineqs-requires
print_ineqs-requires g c = c.in_ok-bounds.ensures.width ∙ c.requires.width

pub returns-in_err-bounds-clause-refused : goal.returns-in_err-bounds-clause-refused
returns-in_err-bounds-clause-refused g c =
    let p = err_from_is_err_and c.from_residual.result c.from_residual.ensures.1 in
    rw (p.1, p.2) (int_refused g.S.Spelling.KIND g.S.Scalar.ring g.S.Scalar.numbering c.args.file.now.names
    c.args.file.now.gens.rows c.args.file.now.gens.n c.requires.width _ c.in_err-bounds.ensures.refused)

pub returns-clause-reply : goal.returns-clause-reply
returns-clause-reply g c =
    int_reply_is g.S.Spelling.KIND g.S.Scalar.ring g.S.Scalar.numbering c.args.file.now.names c.args.file.now.gens.rows
    c.args.file.now.gens.n c.requires.width c.in_ok-bounds.bounds.inequalities c.in_ok-text.text.items
    c.in_ok-bounds.ensures.bounds c.in_ok-text.ensures.text
