use Rattle.std.proofs.Common.{◌++◌, append-nil, sym, ap, ◌∙◌}
use Rattle.prog_asserts.specs.Views.{assertions}
use Rattle.prog_asserts.proofs.Turns.{none_here}
use Rattle.prog_asserts.proofs.assertion.push_at.Goals as goal

pub returns-in-None : goal.returns-in-None
returns-in-None c =
    sym (append-nil (assertions c.args.out.now.items))
    ∙ ap (λ l. assertions c.args.out.now.items ++ l)
    (sym (none_here c.args.p c.in-Statement.k c.args.point.now c.args.stmts.now c.in-Statement.is
    c.in-None.ensures.lookup.3))
