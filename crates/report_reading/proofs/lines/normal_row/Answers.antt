use Rattle.std.proofs.Common.{◌∙◌}
use Rattle.report_reading.proofs.Rows.{normalised_left}
use Rattle.report_reading.proofs.lines.normal_row.Goals as goal

pub returns : goal.returns
returns g c = normalised_left g.S.Scalar.ring g.S.Scalar.numbering g.met.S.Scalar.ring_laws g.met.S.Scalar.number_laws
    c.normalise-finite.result _ _ _ c.normalise-finite.ensures.yes c.normalise-finite.ensures.no
    c.normalise-finite.ensures.same (c.in_ok-row.ensures.entries ∙ c.deref.ensures.value ∙ c.in_ok-insert.ensures.items)
