use Rattle.std.proofs.Common.{refl}
use Rattle.std.proofs.lemmas.Result.{err_from_is_err_and}
use Rattle.trop_spelling.specs.Over.{max_three, min_three, bool_three}
use Rattle.trop_files.specs.AtFiles.{at_of_at, at_file}
use Rattle.trop_files.specs.Views.{header_of}
use Rattle.trop_files.proofs.Bodies.{body_gives, body_fails}
use Rattle.trop_files.proofs.at.at_body.Goals as goal

pub returns-in_err-file-in-Max-clause-gives : goal.returns-in_err-file-in-Max-clause-gives
returns-in_err-file-in-Max-clause-gives c =
    let p = err_from_is_err_and c.from_residual.result c.from_residual.ensures.1 in
    rw (p.1, p.2) (body_fails at_of_at at_file max_three.each
    (header_of c.args.header) _ c.in-Max.is _ c.in_err-file-in-Max.ensures.gives)

pub returns-in_ok-file-in-Max-clause-gives : goal.returns-in_ok-file-in-Max-clause-gives
returns-in_ok-file-in-Max-clause-gives c = body_gives at_of_at at_file max_three.each
    (header_of c.args.header) _ c.in-Max.is _ _ _ (rw c.in_ok-file-in-Max.ensures.names refl)
    c.in_ok-file-in-Max.ensures.gives

pub returns-in_err-file-in-Min-clause-gives : goal.returns-in_err-file-in-Min-clause-gives
returns-in_err-file-in-Min-clause-gives c =
    let p = err_from_is_err_and c.from_residual-in_err-file-in-Min.result c.from_residual-in_err-file-in-Min.ensures.1
    in
    rw (p.1, p.2) (body_fails at_of_at at_file min_three.each
    (header_of c.args.header) _ c.in-Min.is _ c.in_err-file-in-Min.ensures.gives)

pub returns-in_ok-file-in-Min-clause-gives : goal.returns-in_ok-file-in-Min-clause-gives
returns-in_ok-file-in-Min-clause-gives c = body_gives at_of_at at_file min_three.each
    (header_of c.args.header) _ c.in-Min.is _ _ _ (rw c.in_ok-file-in-Min.ensures.names refl)
    c.in_ok-file-in-Min.ensures.gives

pub returns-in_err-file-in-Bool-clause-gives : goal.returns-in_err-file-in-Bool-clause-gives
returns-in_err-file-in-Bool-clause-gives c =
    let p = err_from_is_err_and c.from_residual-in_err-file-in-Bool.result c.from_residual-in_err-file-in-Bool.ensures.1
    in
    rw (p.1, p.2) (body_fails at_of_at at_file bool_three.each
    (header_of c.args.header) _ c.in-Bool.is _ c.in_err-file-in-Bool.ensures.gives)

pub returns-in_ok-file-in-Bool-clause-gives : goal.returns-in_ok-file-in-Bool-clause-gives
returns-in_ok-file-in-Bool-clause-gives c = body_gives at_of_at at_file bool_three.each
    (header_of c.args.header) _ c.in-Bool.is _ _ _
    (rw c.in_ok-file-in-Bool.ensures.names refl) c.in_ok-file-in-Bool.ensures.gives
