use Rattle.std.proofs.Common.{◌≡◌, ◌∙◌, subst, arith}
use Rattle.std.specs.Prelude.{IfOk}
use Rattle.trop_dd.proofs.Numbers.{number_fresh}
use Rattle.trop_dd.proofs.settling.copied.Goals as goal

pub returns : goal.returns
returns g c = subst (λ y. IfOk c.copy-2.result (λ row. row ≡ y))
    (c.row-2.ensures ∙ number_fresh c.args.sides.now c.args.fresh.now c.args.number c.index-fresh-number.result
    c.requires (omega arith) c.index-fresh-number.is) c.copy-2.ensures.same
