use Rattle.report_value.proofs.Sound.{sound}
use Rattle.report_value.proofs.report.Report.new.Goals as goal

pub invariant_of-result : goal.invariant_of-result
invariant_of-result g c = sound g.S.Scalar.ring g.S.Scalar.numbering c.args.delay c.args.narrow c.args.passes
    c.args.program c.args.graph c.args.parts.items c.args.verdicts.items c.requires.delay c.requires.narrow
    c.requires.passes c.vars-keeps.ensures.keeps c.requires.graph c.requires.parts c.requires.points c.requires.asserts
