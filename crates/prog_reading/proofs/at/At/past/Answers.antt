use Rattle.std.proofs.Common.{arith}
use Rattle.prog_reading.specs.Left.{before_of}
use Rattle.prog_reading.proofs.Places.{past_line, past_token, past_end, past_none, behind_shorter}
use Rattle.prog_reading.proofs.at.At.past.Goals as goal

pub returns-in-Some-LineEnd-default-clause-past : goal.returns-in-Some-LineEnd-default-clause-past
returns-in-Some-LineEnd-default-clause-past c =
    let k = c.in-Some-LineEnd-default in
    past_line (before_of c.args.self.before) _ _ _ _ (rw k.field-0-0-is at k.ensures.pieces)
    (rw k.field-0-0-is at k.ensures.resumes)

pub returns-in-Some-LineEnd-default-clause-shorter : goal.returns-in-Some-LineEnd-default-clause-shorter
returns-in-Some-LineEnd-default-clause-shorter c =
    let k = c.in-Some-LineEnd-default in
    let h = behind_shorter (before_of c.args.self.before) (before_of c.args.self.before) _ _ _
    (rw k.field-0-0-is at k.ensures.pieces) in
    omega (arith, h)

pub returns-in-Some-Token-default-clause-past : goal.returns-in-Some-Token-default-clause-past
returns-in-Some-Token-default-clause-past c = let k = c.in-Some-Token-default in
    past_token (before_of c.args.self.before) _ _ _ (rw k.field-0-0-is at k.ensures.pieces)

pub returns-in-Some-InputEnd-default-clause-past : goal.returns-in-Some-InputEnd-default-clause-past
returns-in-Some-InputEnd-default-clause-past c = let k = c.in-Some-InputEnd-default in
    past_end (before_of c.args.self.before) _ _ (rw k.field-0-0-is at k.ensures.pieces)

pub returns-in-None-clause-past : goal.returns-in-None-clause-past
returns-in-None-clause-past c = past_none (before_of c.args.self.before) _ c.in-None.ensures.pieces
