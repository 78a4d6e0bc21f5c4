use Rattle.std.proofs.Common.{subst}
use Rattle.trop_text.specs.Pieces.{pieces_of}
use Rattle.trop_reading.specs.Outcome.{IsRefusal}
use Rattle.trop_files.specs.Generators.{SpellsGenerators, generator_file_at}
use Rattle.trop_files.specs.Views.{generator_file_of, IsWideGens}
use Rattle.trop_files.proofs.ReadSizes.{gens_held}
use Rattle.trop_spelling.specs.Over.{OverMax, OverMin, OverBool}
use Rattle.tplib_reply.proofs.Refused.{IsRefused-text}
use Rattle.tplib_lean.specs.Lean.{lean_ring, lean_meaning}
use Rattle.tplib_poly.proofs.Lifted.{reply_over, refusal_over}
use Rattle.tplib_lean.proofs.lean.lean_reply.Goals as goal

pub list_reply-requires-clause-width : goal.list_reply-requires-clause-width
list_reply-requires-clause-width c = subst IsWideGens c.in-Ok-Max.field-0-is c.in-Ok-Max.ensures.width

pub list_reply-requires-clause-rows : goal.list_reply-requires-clause-rows
list_reply-requires-clause-rows c =
    let spelled = subst (λ f. SpellsGenerators (pieces_of c.args.bytes.now) (generator_file_of f))
    c.in-Ok-Max.field-0-is c.in-Ok-Max.ensures.found in
    (gens_held _ _ spelled).rows_are

pub returns-in-Ok-Max-clause-reply : goal.returns-in-Ok-Max-clause-reply
returns-in-Ok-Max-clause-reply c =
    let spelled = subst (λ f. SpellsGenerators (pieces_of c.args.bytes.now) (generator_file_of f))
    c.in-Ok-Max.field-0-is c.in-Ok-Max.ensures.found in
    reply_over lean_ring c.in-Ok-Max.file.names lean_meaning c.args.bytes.now _
    (OverMax c.in-Ok-Max.file.gens.rows) spelled (λ cause stop h. h)
    (λ says text h. h) c.list_reply.result c.list_reply.ensures.reply

pub returns-in-Ok-Max-clause-refused : goal.returns-in-Ok-Max-clause-refused
returns-in-Ok-Max-clause-refused c =
    let spelled = subst (λ f. SpellsGenerators (pieces_of c.args.bytes.now) (generator_file_of f))
    c.in-Ok-Max.field-0-is c.in-Ok-Max.ensures.found in
    refusal_over lean_ring c.in-Ok-Max.file.names lean_meaning c.args.bytes.now _
    (OverMax c.in-Ok-Max.file.gens.rows) spelled
    (λ cause stop h. h) c.list_reply.result c.list_reply.ensures.refused

pub list_reply-requires-in-Ok-Min-clause-width : goal.list_reply-requires-in-Ok-Min-clause-width
list_reply-requires-in-Ok-Min-clause-width c = subst IsWideGens c.in-Ok-Min.field-0-is c.in-Ok-Min.ensures.width

pub list_reply-requires-in-Ok-Min-clause-rows : goal.list_reply-requires-in-Ok-Min-clause-rows
list_reply-requires-in-Ok-Min-clause-rows c =
    let spelled = subst (λ f. SpellsGenerators (pieces_of c.args.bytes.now) (generator_file_of f))
    c.in-Ok-Min.field-0-is c.in-Ok-Min.ensures.found in
    (gens_held _ _ spelled).rows_are

pub returns-in-Ok-Min-clause-reply : goal.returns-in-Ok-Min-clause-reply
returns-in-Ok-Min-clause-reply c =
    let spelled = subst (λ f. SpellsGenerators (pieces_of c.args.bytes.now) (generator_file_of f))
    c.in-Ok-Min.field-0-is c.in-Ok-Min.ensures.found in
    reply_over lean_ring c.in-Ok-Min.file.names lean_meaning c.args.bytes.now _
    (OverMin c.in-Ok-Min.file.gens.rows) spelled (λ cause stop h. h)
    (λ says text h. h) c.list_reply-in-Ok-Min.result c.list_reply-in-Ok-Min.ensures.reply

pub returns-in-Ok-Min-clause-refused : goal.returns-in-Ok-Min-clause-refused
returns-in-Ok-Min-clause-refused c =
    let spelled = subst (λ f. SpellsGenerators (pieces_of c.args.bytes.now) (generator_file_of f))
    c.in-Ok-Min.field-0-is c.in-Ok-Min.ensures.found in
    refusal_over lean_ring c.in-Ok-Min.file.names lean_meaning c.args.bytes.now _
    (OverMin c.in-Ok-Min.file.gens.rows) spelled (λ cause stop h. h) c.list_reply-in-Ok-Min.result
    c.list_reply-in-Ok-Min.ensures.refused

pub list_reply-requires-in-Ok-Bool-clause-width : goal.list_reply-requires-in-Ok-Bool-clause-width
list_reply-requires-in-Ok-Bool-clause-width c = subst IsWideGens c.in-Ok-Bool.field-0-is c.in-Ok-Bool.ensures.width

pub list_reply-requires-in-Ok-Bool-clause-rows : goal.list_reply-requires-in-Ok-Bool-clause-rows
list_reply-requires-in-Ok-Bool-clause-rows c =
    let spelled = subst (λ f. SpellsGenerators (pieces_of c.args.bytes.now) (generator_file_of f))
    c.in-Ok-Bool.field-0-is c.in-Ok-Bool.ensures.found in
    (gens_held _ _ spelled).rows_are

pub returns-in-Ok-Bool-clause-reply : goal.returns-in-Ok-Bool-clause-reply
returns-in-Ok-Bool-clause-reply c =
    let spelled = subst (λ f. SpellsGenerators (pieces_of c.args.bytes.now) (generator_file_of f))
    c.in-Ok-Bool.field-0-is c.in-Ok-Bool.ensures.found in
    reply_over lean_ring c.in-Ok-Bool.file.names lean_meaning c.args.bytes.now _
    (OverBool c.in-Ok-Bool.file.gens.rows) spelled (λ cause stop h. h)
    (λ says text h. h) c.list_reply-in-Ok-Bool.result c.list_reply-in-Ok-Bool.ensures.reply

pub returns-in-Ok-Bool-clause-refused : goal.returns-in-Ok-Bool-clause-refused
returns-in-Ok-Bool-clause-refused c =
    let spelled = subst (λ f. SpellsGenerators (pieces_of c.args.bytes.now) (generator_file_of f))
    c.in-Ok-Bool.field-0-is c.in-Ok-Bool.ensures.found in
    refusal_over lean_ring c.in-Ok-Bool.file.names lean_meaning c.args.bytes.now _
    (OverBool c.in-Ok-Bool.file.gens.rows) spelled
    (λ cause stop h. h) c.list_reply-in-Ok-Bool.result c.list_reply-in-Ok-Bool.ensures.refused

pub returns-in-Err-clause-refused : goal.returns-in-Err-clause-refused
returns-in-Err-clause-refused c =
    IsRefused-text lean_meaning c.args.bytes.now c.in-Err.e c.from.result c.from.ensures
    (λ f same. subst (IsRefusal SpellsGenerators generator_file_at c.args.bytes.now) same c.in-Err.ensures.fault)
