use Rattle.prog_reading.specs.Rules.{rule_of}
use Rattle.prog_lang.proofs.ProgramSteps.{read_within}
use Rattle.prog_lang.proofs.program.program.Goals as goal

pub new-requires : goal.new-requires
new-requires c =
    read_within (rule_of c.args.rule) _ _ _ _ _ _ c.requires c.in_ok-names.ensures.gives c.in_ok-body.ensures.gives
