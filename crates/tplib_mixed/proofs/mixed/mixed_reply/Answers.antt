use Rattle.prog_texts.specs.AssertRule.{Either}
use Rattle.tplib_mixed.proofs.First.{some_token}
use Rattle.tplib_mixed.proofs.mixed.mixed_reply.Goals as goal

pub too_many_variables-requires-clause-some : goal.too_many_variables-requires-clause-some
too_many_variables-requires-clause-some c =
    some_token Either c.args.bytes.now c.in_ok-program.program c.in_ok-program.ensures.found
