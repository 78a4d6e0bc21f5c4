use Rattle.std.proofs.Common.{sym, ◌∙◌}
use Rattle.prog_theory.specs.Limits.{program_limits}
use Rattle.prog_texts.specs.Statements.{verb}
use Rattle.prog_reading.specs.Left.{left, entry_of}
use Rattle.prog_reading.proofs.Follow.{none_left, none_here, bad_here, begun_here}
use Rattle.prog_lang.proofs.VerbSteps.{verb_none}
use Rattle.prog_lang.proofs.verbs.next_verb.Goals as goal

pub returns-in_default-clause-begins : goal.returns-in_default-clause-begins
returns-in_default-clause-begins c =
    none_left (verb program_limits c.args.names.now) (left c.args.at) _ c.past-here.ensures.past
    c.in_default.ensures.entry

pub returns-then-not-starts-clause-begins : goal.returns-then-not-starts-clause-begins
returns-then-not-starts-clause-begins c =
    none_here (verb program_limits c.args.names.now) (left c.args.at) _ (entry_of c.in-Some.entry) _
    c.past-here.ensures.past c.in-Some.ensures.entry
    (verb_none program_limits c.args.names.now (entry_of c.in-Some.entry) (sym c.is_start-starts.ensures
    ∙ (search c.if-not-starts.true)))

pub returns-in-Ok-clause-begins : goal.returns-in-Ok-clause-begins
returns-in-Ok-clause-begins c =
    begun_here (verb program_limits c.args.names.now) (left c.args.at) _ (entry_of c.in-Some.entry) _ _
    c.past-here.ensures.past c.in-Some.ensures.entry c.in-Ok.ensures

pub returns-in-Err-clause-begins : goal.returns-in-Err-clause-begins
returns-in-Err-clause-begins c =
    bad_here (verb program_limits c.args.names.now) (left c.args.at) _ (entry_of c.in-Some.entry) _ _
    c.past-here.ensures.past c.in-Some.ensures.entry c.in-Err.ensures
