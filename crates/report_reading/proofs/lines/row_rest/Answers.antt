use Rattle.report_reading.proofs.Rows.{row_small}
use Rattle.report_reading.proofs.lines.row_rest.Goals as goal

pub normal_row-requires-clause-sizes : goal.normal_row-requires-clause-sizes
normal_row-requires-clause-sizes g c = row_small g.met.S.Scalar.ring_laws g.S.Spelling.KIND g.S.Scalar.numbering
    g.S.Scalar.REVERSED g.met.S.Spelling.kind_laws c.args.vars _ _ c.args.first c.in_ok-entries.entries.items
    c.requires.first c.in_ok-entries.ensures.gives
