use Rattle.std.proofs.Common.{sym, ◌∙◌}
use Rattle.prog_theory.specs.Limits.{program_limits}
use Rattle.prog_reading.specs.Left.{entry_of}
use Rattle.prog_lang.proofs.VerbSteps.{verb_many}
use Rattle.prog_lang.proofs.verbs.judged_verb.Goals as goal

pub returns-then-is_one_too_many : goal.returns-then-is_one_too_many
returns-then-is_one_too_many c =
    verb_many program_limits c.args.names.now (entry_of c.args.entry) c.requires.begins (sym c.is_one_too_many.ensures
    ∙ c.if-is_one_too_many.true)
