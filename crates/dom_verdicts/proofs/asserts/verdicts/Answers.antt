use Rattle.dom_verdicts.proofs.Judged.{few_values, points_inside, body_judgeable, judged_by}
use Rattle.dom_verdicts.proofs.asserts.verdicts.Goals as goal

pub block_verdicts-requires-clause-few : goal.block_verdicts-requires-clause-few
block_verdicts-requires-clause-few g c = few_values c.args.program.now _ c.requires.points c.vars.ensures.keeps.within

pub block_verdicts-requires-clause-inside : goal.block_verdicts-requires-clause-inside
block_verdicts-requires-clause-inside g c =
    points_inside c.args.program.now _ c.requires.points c.body.result.now c.body.ensures.value

pub block_verdicts-requires-clause-judgeable : goal.block_verdicts-requires-clause-judgeable
block_verdicts-requires-clause-judgeable g c =
    body_judgeable g.D.Domain.suits c.args.program.now c.vars.ensures.keeps.within c.requires.suits c.vars.result
    c.body.result.now c.vars.ensures.value c.body.ensures.value

pub returns : goal.returns
returns g c =
    judged_by g.D.Domain.relations g.D.Domain.proven c.args.program.now c.vars.result c.body.result.now
    c.args.values.now c.new-out.result.items c.block_verdicts.new.out.items c.vars.ensures.value c.body.ensures.value
    c.new-out.ensures.items c.in_ok-block_verdicts.ensures.added
