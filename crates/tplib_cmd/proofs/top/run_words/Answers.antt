use Rattle.std.proofs.Common.{inl}
use Rattle.tplib_cmd.proofs.Ending.{ends_in_order, spelled_in_range}
use Rattle.tplib_cmd.proofs.top.run_words.Goals as goal

pub run_command-requires : goal.run_command-requires
run_command-requires g c = record { range = spelled_in_range _ c.in-Some.command c.in-Some.ensures.spelled }

pub returns-in-Some-clause-complete : goal.returns-in-Some-clause-complete
returns-in-Some-clause-complete g c = ends_in_order _ _ _
    (inl (c.in-Some.command, c.in-Some.ensures, c.run_command.ensures.ends))

pub returns-in-None-clause-complete : goal.returns-in-None-clause-complete
returns-in-None-clause-complete g c = λ order. absurd (c.in-None.ensures order.some.0 order.some.1)
