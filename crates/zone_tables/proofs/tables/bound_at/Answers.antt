use Rattle.std.proofs.Common.{sym, ◌∙◌}
use Rattle.zone_theory.proofs.Entries.{entry-apart}
use Rattle.zone_tables.specs.Tables.{matrix_of}
use Rattle.zone_tables.proofs.Lists.{matrix-pair}
use Rattle.zone_tables.proofs.tables.bound_at.Goals as goal

pub returns-else-i-j : goal.returns-else-i-j
returns-else-i-j c = sym (entry-apart (matrix_of c.args.side c.args.bounds.now) c.args.i c.args.j c.if-i-j.false
    ∙ matrix-pair c.args.side c.args.bounds.now c.args.i c.args.j c.requires.row c.requires.column c.if-i-j.false)
