use Rattle.std.proofs.Common.{◌≡◌, ◌≤◌, length, refl, ap, ◌∙◌, arith}
use Rattle.std.proofs.lemmas.Result.{err_from_is_err_and}
use Rattle.prog_lang.proofs.NameSteps.{naming_start, naming_done, naming_wrong, naming_more}
use Rattle.prog_lang.proofs.declaration.declared.Goals as goal

pub names-init : goal.names-init
names-init c =
    let e = ap length c.new-names.ensures in (naming_start _ _ c.new-names.ensures, omega (arith, e), refl, omega arith)

pub returns-in_err-after-clause-gives : goal.returns-in_err-after-clause-gives
returns-in_err-after-clause-gives c =
    let p = err_from_is_err_and c.from_residual.result c.from_residual.ensures.1 in
    rw (p.1, p.2) (naming_wrong _ _ _ _ _ c.names.invariant.0 c.in_err-after.ensures.declares)

pub names-preserved : goal.names-preserved
names-preserved c =
    let d = rw c.in-Some.is at c.in_ok-after.ensures.declares in
    let src = rw c.in-Some.is at c.in_ok-after.ensures.source in
    let less = rw c.in-Some.is at c.in_ok-after.ensures.shorter in (
      naming_more _ _ _ _ _ c.names.invariant.0 d,
      c.in_ok-after.ensures.count,
      src ∙ c.names.invariant.2,
      omega (arith, less, c.names.invariant.3),
    )

pub returns-clause-gives : goal.returns-clause-gives
returns-clause-gives c =
    let d = rw c.in_default.is at c.in_ok-after.ensures.declares in
    naming_done _ _ _ _ c.names.invariant.0 d.0 d.1
