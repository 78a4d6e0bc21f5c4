use Rattle.std.proofs.Common.{subst, IfOk}
use Rattle.trop_text.specs.Pieces.{pieces_of}
use Rattle.trop_reading.specs.Outcome.{IsRefusal}
use Rattle.trop_files.specs.PairFiles.{SpellsTwo, two_file_at}
use Rattle.trop_files.specs.Views.{two_of, two_file_of, IsWidePair}
use Rattle.trop_files.proofs.ReadSizes.{pair_held}
use Rattle.trop_spelling.specs.Over.{OverMax, OverMin, OverBool}
use Rattle.tplib_reply.proofs.Refused.{IsRefused-text}
use Rattle.tplib_poly.specs.Pairs.{pair_ring, pair_meaning}
use Rattle.tplib_poly.proofs.Lifted.{reply_over, refusal_over}
use Rattle.tplib_poly.proofs.pair.pair_reply.Goals as goal

pub lists_reply-requires-clause-width : goal.lists_reply-requires-clause-width
lists_reply-requires-clause-width c = (subst IsWidePair c.in-Ok-Max.field-0-is c.in-Ok-Max.ensures.width).0

pub lists_reply-requires-clause-other_width : goal.lists_reply-requires-clause-other_width
lists_reply-requires-clause-other_width c = (subst IsWidePair c.in-Ok-Max.field-0-is c.in-Ok-Max.ensures.width).1

pub lists_reply-requires-clause-lists : goal.lists_reply-requires-clause-lists
lists_reply-requires-clause-lists c =
    let spelled = subst (λ f. SpellsTwo (pieces_of c.args.bytes.now) (two_file_of f)) c.in-Ok-Max.field-0-is
    c.in-Ok-Max.ensures.found in
    (pair_held _ _ spelled).lists_are

pub returns-in-Ok-Max-clause-reply : goal.returns-in-Ok-Max-clause-reply
returns-in-Ok-Max-clause-reply c =
    let spelled = subst (λ f. SpellsTwo (pieces_of c.args.bytes.now) (two_file_of f)) c.in-Ok-Max.field-0-is
    c.in-Ok-Max.ensures.found in
    reply_over (pair_ring c.args.command) c.in-Ok-Max.file.names (pair_meaning c.args.command) c.args.bytes.now _
    (OverMax (two_of c.in-Ok-Max.file)) spelled (λ cause stop h. h)
    (λ says text h. h) c.lists_reply.result c.lists_reply.ensures.reply

pub returns-in-Ok-Max-clause-refused : goal.returns-in-Ok-Max-clause-refused
returns-in-Ok-Max-clause-refused c =
    let spelled = subst (λ f. SpellsTwo (pieces_of c.args.bytes.now) (two_file_of f)) c.in-Ok-Max.field-0-is
    c.in-Ok-Max.ensures.found in
    refusal_over (pair_ring c.args.command) c.in-Ok-Max.file.names (pair_meaning c.args.command) c.args.bytes.now _
    (OverMax (two_of c.in-Ok-Max.file)) spelled
    (λ cause stop h. h) c.lists_reply.result c.lists_reply.ensures.refused

pub lists_reply-requires-in-Ok-Min-clause-width : goal.lists_reply-requires-in-Ok-Min-clause-width
lists_reply-requires-in-Ok-Min-clause-width c = (subst IsWidePair c.in-Ok-Min.field-0-is c.in-Ok-Min.ensures.width).0

pub lists_reply-requires-in-Ok-Min-clause-other_width : goal.lists_reply-requires-in-Ok-Min-clause-other_width
lists_reply-requires-in-Ok-Min-clause-other_width c =
    (subst IsWidePair c.in-Ok-Min.field-0-is c.in-Ok-Min.ensures.width).1

pub lists_reply-requires-in-Ok-Min-clause-lists : goal.lists_reply-requires-in-Ok-Min-clause-lists
lists_reply-requires-in-Ok-Min-clause-lists c =
    let spelled = subst (λ f. SpellsTwo (pieces_of c.args.bytes.now) (two_file_of f)) c.in-Ok-Min.field-0-is
    c.in-Ok-Min.ensures.found in
    (pair_held _ _ spelled).lists_are

pub returns-in-Ok-Min-clause-reply : goal.returns-in-Ok-Min-clause-reply
returns-in-Ok-Min-clause-reply c =
    let spelled = subst (λ f. SpellsTwo (pieces_of c.args.bytes.now) (two_file_of f)) c.in-Ok-Min.field-0-is
    c.in-Ok-Min.ensures.found in
    reply_over (pair_ring c.args.command) c.in-Ok-Min.file.names (pair_meaning c.args.command) c.args.bytes.now _
    (OverMin (two_of c.in-Ok-Min.file)) spelled (λ cause stop h. h)
    (λ says text h. h) c.lists_reply-in-Ok-Min.result c.lists_reply-in-Ok-Min.ensures.reply

pub returns-in-Ok-Min-clause-refused : goal.returns-in-Ok-Min-clause-refused
returns-in-Ok-Min-clause-refused c =
    let spelled = subst (λ f. SpellsTwo (pieces_of c.args.bytes.now) (two_file_of f)) c.in-Ok-Min.field-0-is
    c.in-Ok-Min.ensures.found in
    refusal_over (pair_ring c.args.command) c.in-Ok-Min.file.names (pair_meaning c.args.command) c.args.bytes.now _
    (OverMin (two_of c.in-Ok-Min.file)) spelled (λ cause stop h. h) c.lists_reply-in-Ok-Min.result
    c.lists_reply-in-Ok-Min.ensures.refused

pub lists_reply-requires-in-Ok-Bool-clause-width : goal.lists_reply-requires-in-Ok-Bool-clause-width
lists_reply-requires-in-Ok-Bool-clause-width c = (subst IsWidePair c.in-Ok-Bool.field-0-is c.in-Ok-Bool.ensures.width).0

pub lists_reply-requires-in-Ok-Bool-clause-other_width : goal.lists_reply-requires-in-Ok-Bool-clause-other_width
lists_reply-requires-in-Ok-Bool-clause-other_width c =
    (subst IsWidePair c.in-Ok-Bool.field-0-is c.in-Ok-Bool.ensures.width).1

pub lists_reply-requires-in-Ok-Bool-clause-lists : goal.lists_reply-requires-in-Ok-Bool-clause-lists
lists_reply-requires-in-Ok-Bool-clause-lists c =
    let spelled = subst (λ f. SpellsTwo (pieces_of c.args.bytes.now) (two_file_of f)) c.in-Ok-Bool.field-0-is
    c.in-Ok-Bool.ensures.found in
    (pair_held _ _ spelled).lists_are

pub returns-in-Ok-Bool-clause-reply : goal.returns-in-Ok-Bool-clause-reply
returns-in-Ok-Bool-clause-reply c =
    let spelled = subst (λ f. SpellsTwo (pieces_of c.args.bytes.now) (two_file_of f)) c.in-Ok-Bool.field-0-is
    c.in-Ok-Bool.ensures.found in
    reply_over (pair_ring c.args.command) c.in-Ok-Bool.file.names (pair_meaning c.args.command) c.args.bytes.now _
    (OverBool (two_of c.in-Ok-Bool.file)) spelled (λ cause stop h. h)
    (λ says text h. h) c.lists_reply-in-Ok-Bool.result c.lists_reply-in-Ok-Bool.ensures.reply

pub returns-in-Ok-Bool-clause-refused : goal.returns-in-Ok-Bool-clause-refused
returns-in-Ok-Bool-clause-refused c =
    let spelled = subst (λ f. SpellsTwo (pieces_of c.args.bytes.now) (two_file_of f)) c.in-Ok-Bool.field-0-is
    c.in-Ok-Bool.ensures.found in
    refusal_over (pair_ring c.args.command) c.in-Ok-Bool.file.names (pair_meaning c.args.command) c.args.bytes.now _
    (OverBool (two_of c.in-Ok-Bool.file)) spelled (λ cause stop h. h) c.lists_reply-in-Ok-Bool.result
    c.lists_reply-in-Ok-Bool.ensures.refused

pub returns-in-Err-clause-refused : goal.returns-in-Err-clause-refused
returns-in-Err-clause-refused c =
    IsRefused-text (pair_meaning c.args.command) c.args.bytes.now c.in-Err.e c.from.result c.from.ensures
    (λ f same. subst (IsRefusal SpellsTwo two_file_at c.args.bytes.now) same c.in-Err.ensures.fault)
